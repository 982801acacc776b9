-- `absorb::cone::lanes`: the words before k are lanes, and the cone among those nodes is in order.
use Rattle.absorb.specs.Cone.{LaneTable}
use Rattle.absorb.proofs.cone.lanes.Given as goal

abbrev pub invariant-loop-k : goal.invariant-loop-k
invariant-loop-k l = LaneTable l.net l.y l.slots l.sides l.words l.k
