-- `absorb::region::inside`: the nodes before k have marks, or may do without.
use Rattle.net.specs.Net.{frees}
use Rattle.net.specs.Layout.{packed}
use Rattle.absorb.specs.Absorb.{Spares}
use Rattle.absorb.specs.Marks.{Marking}
use Rattle.absorb.proofs.region.inside.Given as goal

abbrev pub invariant-loop-k : goal.invariant-loop-k
invariant-loop-k l = Marking (λ j. Spares l.y (frees (packed l.net) l.g) (packed l.net j)) (packed l.net) l.g l.marks l.k
