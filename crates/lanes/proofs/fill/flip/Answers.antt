-- `lanes::fill::flip` meets its contract. Assumes nothing.
use Rattle.lanes.proofs.LanesLaws.{flipped}
use Rattle.lanes.proofs.fill.flip.Goals as goal

pub returns : goal.returns
returns c =
    flipped c.ranges.t.fits
