-- A sheet is accepted exactly if it keeps document 01's and 02's rules, and refused by a number at a place exactly if that cause holds and none
-- earlier in the order does; what the layers above use of a sheet that is accepted. Assumes nothing.
use Rattle.std.specs.Prelude.{ℕ, ◌≤◌, ◌<◌, ◌≡◌, length}
use Rattle.formula.specs.Ask.{Bounded}
use Rattle.form.specs.Form.{rest}
use Rattle.form.specs.Form as Sizes
use Rattle.sheet.specs.Fields.{Sheet, frames, most_frames, variables, kind}
use Rattle.sheet.specs.Frames.{formula, Ordered}

-- ---- each rule and its test

pub record Sized (s : Sheet) : Type 0 where
  pub whole : Sizes.frame_start s.form (frames s) ≡ length s.bytes
  pub least : 0 < frames s
  pub most : frames s ≤ most_frames s

-- all of it for a sheet that is accepted
pub record Accepted (s : Sheet) : Type 0 where
  pub sized : Sized s
  pub ordered : Ordered (variables s) (kind s)
  pub bounded : (k : ℕ) → Bounded (variables s) (formula s k)
