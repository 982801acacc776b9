-- `absorb::region::outside`: the nodes before k have marks, or may do without.
use Rattle.std.proofs.Common.{◌≡◌, false}
use Rattle.std.specs.Prelude.{eqb}
use Rattle.net.specs.Layout.{packed}
use Rattle.absorb.specs.Marks.{Marking}
use Rattle.absorb.proofs.region.outside.Given as goal

abbrev pub invariant-loop-k : goal.invariant-loop-k
invariant-loop-k l = Marking (λ j. eqb j l.g ≡ false) (packed l.net) l.q l.marks l.k
