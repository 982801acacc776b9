-- `absorb::region::inside` meets its contract.
use Rattle.std.proofs.Common.{arith}
use Rattle.absorb.specs.Marks.{unmarked}
use Rattle.absorb.specs.MarksLaws.{marking_none, marking_next, marks_inside}
use Rattle.absorb.proofs.region.inside.Goals as goal

pub loop-k-init : goal.loop-k-init
loop-k-init c = marking_none _

pub loop-k-preserved : goal.loop-k-preserved
loop-k-preserved c =
    marking_next c.requires.grounded.0.ordered c.loop-k.invariant (omega arith) c.spoils-spoilt.ensures

pub returns : goal.returns
unfolding unmarked
returns c = λ e. marks_inside c.requires.grounded.0.ordered c.loop-k.marks c.loop-k.invariant (omega arith) e
