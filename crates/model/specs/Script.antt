-- The reference model over whole scripts: one line more, and two scripts in a row. Assumes nothing.
use Prim.Native.Nat.{ℕ, ◌/◌, ◌%◌, ◌^◌}
use Rattle.std.specs.Prelude.{◌≡◌, length}
use mathlib.Core.List.{List, [], ◌∷◌}
use Rattle.form.specs.declared.Form.{Form}
use Rattle.form.specs.declared.Form.TheVariants.{Narrow, Wide}
use Rattle.model.specs.Model.{Answer}

-- an answer's bytes one by one: six, or ten
abbrev pub each_byte : Form → Answer → List ℕ
each_byte Narrow a = a.number ∷ a.v ∷ a.word / 2 ^ 24 % 256 ∷ a.word / 2 ^ 16 % 256 ∷ a.word / 2 ^ 8 % 256 ∷ a.word % 256 ∷ []
each_byte Wide a =
    a.number ∷ a.v ∷ a.word / 2 ^ 56 % 256 ∷ a.word / 2 ^ 48 % 256 ∷ a.word / 2 ^ 40 % 256 ∷ a.word / 2 ^ 32 % 256
    ∷ a.word / 2 ^ 24 % 256 ∷ a.word / 2 ^ 16 % 256 ∷ a.word / 2 ^ 8 % 256 ∷ a.word % 256 ∷ []

-- ---- a script and a further one

-- a script of whole lines
abbrev pub Whole : List ℕ → Type 0
Whole s = length s % 4 ≡ 0
