-- `phase::choice::choose_in`: so far the net has other phases only.
use Rattle.net.specs.Link.{Linked}
use Rattle.phase.proofs.choice.choose_in.Given as goal

abbrev pub invariant-loop-k : goal.invariant-loop-k
invariant-loop-k g l = Linked l.initial.net l.net
