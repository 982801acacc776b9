-- `lanes::settle::narrow` meets its contract: the steps in turn. Assumes nothing.
use Rattle.lanes.specs.Settle.{Onward}
use Rattle.lanes.proofs.settle.narrow.Given as goal

abbrev pub invariant-loop-at : goal.invariant-loop-at
invariant-loop-at l =
    Onward l.places l.initial.at.rest l.initial.at.word l.initial.at.reason l.initial.at.other l.initial.at.hits l.at.rest l.at.word l.at.reason l.at.other l.at.hits

abbrev pub decreases-loop-at : goal.decreases-loop-at
decreases-loop-at l = l.at.rest
