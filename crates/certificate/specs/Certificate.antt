-- The certificate, conditions 1 and 2: what every call that meets run's contract does, over a sheet of either form. Each theorem stands under its sentence. Assumes nothing.
use Rattle.std.specs.Prelude.{ℕ, take}
use mathlib.Core.List.{List}
use Rattle.std.proofs.Math.ListN.{drop}
use Rattle.form.specs.Form as Sizes
use Rattle.form.specs.Form.{answer_start}
use Rattle.form.specs.declared.Form.{Form}
use Rattle.certificate.specs.Call.{Call}

-- the bytes that a call over a sheet of the form leaves for line i: six, or ten
abbrev pub line_bytes : Form → Call → ℕ → List ℕ
line_bytes F o i = take (Sizes.answer_bytes F) (drop (answer_start F i) o.ans')
