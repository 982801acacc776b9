-- `judge::cells::unset` meets its contract. Assumes nothing.
use mathlib.Core.Path.{refl}
use Rattle.judge.specs.Cells.{previous, cleared}
use Rattle.judge.proofs.cells.unset.Goals as goal

pub returns : goal.returns
unfolding cleared previous
returns c =
    (refl, refl)
