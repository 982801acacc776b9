-- What a reader may conclude of a normal sheet. Each theorem stands under its sentence. Assumes nothing.
use Rattle.std.specs.Prelude.{ℕ, ◌≡◌, Bool, ◌&&◌}
use Rattle.formula.specs.Formula.{free}
use Rattle.sheet.specs.Fields.{Sheet}
use Rattle.sheet.specs.Frames.{formula}
use Rattle.sheet.specs.Rules.{last}
use Rattle.normal.specs.Normal.{gauge_of}

-- ---- the normal sheet of a sheet that is accepted

-- an open variable of the sheet that is a gauge
unfoldable pub open_gauge : Sheet → ℕ → Bool
open_gauge s x = gauge_of s x && free (formula s (last s)) x

-- ---- two sheets of one form

-- their unfolded formulas are the same tree: the formulas are, and of the open variables the same ones are gauges, that is, read by frames of kind 07
pub record SameTree (s t : Sheet) : Type 0 where
  pub tree : formula s (last s) ≡ formula t (last t)
  pub gauges : (x : ℕ) → open_gauge s x ≡ open_gauge t x
