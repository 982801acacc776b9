-- `phase::choice::choose_bound` meets its contract: the net has other phases only, and the set of variables falls, as a word.
use Rattle.net.specs.Link.{Linked}
use Rattle.phase.proofs.choice.choose_bound.Given as goal

abbrev pub invariant-loop-left : goal.invariant-loop-left
invariant-loop-left l = Linked l.initial.net l.net

abbrev pub decreases-loop-left : goal.decreases-loop-left
decreases-loop-left l = l.left
