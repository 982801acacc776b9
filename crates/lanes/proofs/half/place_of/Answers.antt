-- `lanes::half::place_of` meets its contract. Assumes nothing.
use mathlib.Core.Path.{refl}
use Rattle.lanes.proofs.FillLaws.{place_is}
use Rattle.lanes.proofs.half.place_of.Goals as goal

pub returns : goal.returns
returns c =
    rw c.from.ensures (place_is _ _ c.requires refl)
