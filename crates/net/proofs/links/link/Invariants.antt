-- `net::links::link`: so far the net has other links only.
use Rattle.net.specs.Link.{Linked}
use Rattle.net.proofs.links.link.Given as goal

abbrev pub invariant-loop-k : goal.invariant-loop-k
invariant-loop-k l = Linked l.initial.net l.net
