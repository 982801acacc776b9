-- `lanes::half::half` meets its contract. Assumes nothing.
use Rattle.lanes.proofs.PatternLaws.{half-copied}
use Rattle.lanes.proofs.half.half.Goals as goal

pub returns : goal.returns
returns c =
    rw (c.copy_up.ensures, c.one_part.ensures) (half-copied _ _ _ c.requires)
