-- `absorb::cone::free_words`: the words before k are the free variables.
use Rattle.absorb.specs.Cone.{FreeTable}
use Rattle.absorb.proofs.cone.free_words.Given as goal

abbrev pub invariant-loop-k : goal.invariant-loop-k
invariant-loop-k l = FreeTable l.net l.words l.k
