-- `imply::gather` meets its contract. Assumes nothing.
use Rattle.imply.specs.GatherLaws.{Gathering}
use Rattle.imply.proofs.gather.Given as goal

abbrev pub invariant-loop-left : goal.invariant-loop-left
invariant-loop-left l = Gathering l.whys l.some l.left l.r

abbrev pub decreases-loop-left : goal.decreases-loop-left
decreases-loop-left l = l.left
