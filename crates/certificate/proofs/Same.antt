-- When two scripts leave the same entries standing, and when further lines cannot tell them apart. Assumes nothing.
use Rattle.std.specs.Prelude.{ℕ, zero, suc, ◌<◌, ◌≡◌, refl, ◌⊎◌, length, get_or, take, replicate}
use Rattle.std.proofs.Common.{arith, sym, ◌∙◌, inl, inr, ⊎_elim, length-append, drop_at}
use Rattle.std.proofs.Math.Path.{ap}
use mathlib.Core.List.{List, [], ◌++◌, append_assoc}
use Rattle.std.proofs.Math.ListN.{drop}
use Rattle.std.proofs.lemmas.List.{length-replicate}
use Rattle.std.proofs.Math.Seq.{take_at}
use Rattle.form.specs.Form.{answer_start}
use Rattle.form.proofs.FormLaws.{few-variables}
use Rattle.sheet.specs.Cause.{Refusal}
use Rattle.sheet.specs.Fields.{Sheet, variables}
use Rattle.sheet.specs.Rules.{gauges}
use Rattle.sheet.specs.Keeps.{Keeps}
use Rattle.solver.specs.Contract.{root}
use Rattle.model.specs.declared.Entry.{Entry}
use Rattle.model.specs.Model.{Meaning, lines, answers_to, answers, standing}
use Rattle.model.proofs.Entries.{entries-at-most}
use Rattle.model.proofs.Script.{length-answers_to, standing-keeps, answers_append, lines_append}
use Rattle.model.specs.Read.{FirstDifference, read_script}
use Rattle.model.proofs.Read.{first_difference, read_shows}
use Rattle.certificate.specs.Run.{book}
use Rattle.certificate.specs.Call.{Call, Ample}
use Rattle.certificate.specs.Accept.{Proper}
use Rattle.certificate.proofs.Accept.{proper-accepted}
use Rattle.certificate.proofs.Exists.{some_call}
use Rattle.certificate.specs.Same.{Alike, Earlier, Further, ReadApart, SomeAlike, further_answers}

-- they are what the reference model says of the entries that stand after a
module _ (sheet : Sheet) (a f : List ℕ) (o : Call) (K : Keeps sheet) (A : Earlier a) (F : Further f) (O : Ample sheet (a ++ f) o) where
  proper : Proper sheet (a ++ f) (length o.ans)
  proper = record {
    sheet-kept = K;
    whole = omega (arith, length-append a f, A.whole, F.whole);
    few = omega (arith, lines_append (book sheet) a f A.whole, A.few, F.few);
    room = O.room;
  }

  accepted : o.number ≡ 0
  accepted = O.meets.answered.number_is ∙ ap (λ (r : Refusal). r.number) (proper-accepted sheet (a ++ f) (length o.ans) proper)

  pub further_model : further_answers sheet.form a f o ≡ answers_to sheet.form (book sheet) (standing (book sheet) a) f (lines f)
  unfolding answers
  further_model =
      let G = sheet.form in
      let m = book sheet in
      let x = answers G m a in
      let y = answers_to G m (standing m a) f (lines f) in
      let z = drop (answer_start G (lines (a ++ f))) o.ans in
      let e : o.ans' ≡ x ++ (y ++ z) = O.meets.answered.written accepted ∙ ap (λ (l : List ℕ). l ++ z) (answers_append m a f A.whole G) ∙ append_assoc x y z in
      rw e (ap (take (answer_start G (lines f))) (drop_at x (y ++ z) (answer_start G (lines a)) (length-answers_to G m [] a (lines a)))
      ∙ take_at y z (answer_start G (lines f)) (length-answers_to G m (standing m a) f (lines f)))

-- ---- a READ line is a further script

read_further : (i : ℕ) → i < 256 → Further (read_script i)
read_further i h = record { whole = refl; few = omega arith; bytes = at }
  where
    at : (j : ℕ) → get_or (read_script i) j 0 < 256
    at zero = omega arith
    at (suc zero) = h
    at (suc (suc zero)) = omega arith
    at (suc (suc (suc zero))) = omega arith
    at (suc (suc (suc (suc j)))) = omega arith

-- ---- a call with room, for every script

pub ample : (sheet : Sheet) (script : List ℕ) → (o : Call) × Ample sheet script o
ample sheet script =
    let n = answer_start sheet.form (lines script) in
    let c = some_call sheet script (replicate n 0) [] [] in
    (c.0, record { meets = c.1; room = rw (c.2.ans-is, length-replicate) (omega arith) })

module _ (sheet : Sheet) (a b : List ℕ) (K : Keeps sheet) (A : Earlier a) (B : Earlier b) where
  abbrev m : Meaning
  m = book sheet

  pub same_alike : standing m a ≡ standing m b → Alike sheet a b
  same_alike s f F o p O P =
      further_model sheet a f o K A F O
      ∙ ap (λ (es : List Entry). answers_to sheet.form m es f (lines f)) s
      ∙ sym (further_model sheet b f p K B F P)

  -- where the entries first differ, a READ of that place tells the two apart
  pub difference_read : (i : ℕ) → FirstDifference (standing m a) (standing m b) i → (i < 256) × ReadApart sheet a b i
  difference_read i D =
      let h : i < 256 = omega (arith, D.reach, entries-at-most (variables sheet) (root sheet) (gauges sheet) (standing-keeps m a), few-variables sheet.form) in
      let F = read_further i h in (
        h,
        λ o p O P e. read_shows sheet.form (standing-keeps m a) (standing-keeps m b) i D
            (sym (further_model sheet a (read_script i) o K A F O) ∙ e ∙ further_model sheet b (read_script i) p K B F P),
      )

  pub same-or_read : (standing m a ≡ standing m b) ⊎ ((i : ℕ) × (i < 256) × ReadApart sheet a b i)
  same-or_read = ⊎_elim inl (λ r. let d = difference_read r.0 r.1 in inr (r.0, d.0, d.1)) (first_difference (standing m a) (standing m b))

  pub alike_same : SomeAlike sheet a b → standing m a ≡ standing m b
  alike_same h = ⊎_elim (λ s. s) (λ r. absurd (told r.0 r.1 r.2)) same-or_read
    where
      told : (i : ℕ) → i < 256 → ReadApart sheet a b i → ⊥
      told i l apart = let c = h (read_script i) (read_further i l) in apart c.0 c.1 c.2 c.3 c.4

  pub alike_some : Alike sheet a b → SomeAlike sheet a b
  alike_some h f F =
      let p = ample sheet (a ++ f) in
      let q = ample sheet (b ++ f) in
      (p.0, q.0, p.1, q.1, h f F p.0 q.0 p.1 q.1)
