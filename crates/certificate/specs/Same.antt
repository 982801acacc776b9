-- When two scripts leave the same entries standing, and when further lines cannot tell them apart. Assumes nothing.
use Rattle.std.specs.Prelude.{ℕ, ◌≤◌, ◌<◌, ◌≡◌, get_or, take}
use mathlib.Core.List.{List, ◌++◌}
use Rattle.std.proofs.Math.ListN.{drop}
use Rattle.form.specs.Form.{answer_start}
use Rattle.form.specs.declared.Form.{Form}
use Rattle.sheet.specs.Fields.{Sheet}
use Rattle.model.specs.Model.{lines}
use Rattle.model.specs.Script.{Whole}
use Rattle.model.specs.Read.{read_script}
use Rattle.certificate.specs.Call.{Call, Ample}

-- a script of at most 900 whole lines
pub record Earlier (a : List ℕ) : Type 0 where
  pub whole : Whole a
  pub few : lines a ≤ 900

-- a further script: at most 100 whole lines, of bytes
pub record Further (f : List ℕ) : Type 0 where
  pub whole : Whole f
  pub few : lines f ≤ 100
  pub bytes : (i : ℕ) → get_or f i 0 < 256

-- all bytes of the answers to the further lines f, in a call over a ++ f and a sheet of the form
abbrev pub further_answers : Form → List ℕ → List ℕ → Call → List ℕ
further_answers F a f o = take (answer_start F (lines f)) (drop (answer_start F (lines a)) o.ans')

-- ---- the two directions

-- in all calls with room, each with its own answer buffer and its own tables, the further lines get the same answers
abbrev pub Alike : Sheet → List ℕ → List ℕ → Type 0
Alike sheet a b =
    (f : List ℕ) → Further f → (A B : Call) → Ample sheet (a ++ f) A → Ample sheet (b ++ f) B → further_answers sheet.form a f A ≡ further_answers sheet.form b f B

-- for all further lines there are two such calls that give them the same answers
abbrev pub SomeAlike : Sheet → List ℕ → List ℕ → Type 0
SomeAlike sheet a b =
    (f : List ℕ) → Further f → (A : Call) × (B : Call) × Ample sheet (a ++ f) A × Ample sheet (b ++ f) B × (further_answers sheet.form a f A ≡ further_answers sheet.form b f B)

-- in all such calls the READ of place i is answered one way after a and another way after b
abbrev pub ReadApart : Sheet → List ℕ → List ℕ → ℕ → Type 0
ReadApart sheet a b i =
    (A B : Call) → Ample sheet (a ++ read_script i) A → Ample sheet (b ++ read_script i) B → further_answers sheet.form a (read_script i) A ≡ further_answers sheet.form b (read_script i) B → ⊥
