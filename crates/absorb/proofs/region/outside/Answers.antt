-- `absorb::region::outside` meets its contract.
use Rattle.std.proofs.Common.{arith}
use Rattle.absorb.specs.Marks.{unmarked}
use Rattle.absorb.specs.MarksLaws.{marking_none, marking_next, marks_outside}
use Rattle.absorb.proofs.region.outside.Goals as goal

pub loop-k-init : goal.loop-k-init
loop-k-init c = marking_none _

pub loop-k-preserved : goal.loop-k-preserved
loop-k-preserved c =
    marking_next c.requires.0.ordered c.loop-k.invariant (omega arith) c.sees-seen.ensures

pub returns : goal.returns
unfolding unmarked
returns c =
    λ e. rw c.frames-n.ensures at (marks_outside c.requires.0.ordered c.loop-k.marks c.loop-k.invariant (omega arith) e c.requires.1)
