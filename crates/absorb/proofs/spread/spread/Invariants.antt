-- `absorb::spread::spread`: the nodes before k were looked at.
use Rattle.absorb.specs.Spread.{Spreading}
use Rattle.absorb.proofs.spread.spread.Given as goal

abbrev pub invariant-loop-k : goal.invariant-loop-k
invariant-loop-k l = Spreading l.initial.net l.net l.k
