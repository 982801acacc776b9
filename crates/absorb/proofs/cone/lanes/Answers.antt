-- `absorb::cone::lanes` meets its contract.
use Rattle.std.proofs.Common.{arith}
use Rattle.absorb.specs.ConeLaws.{near_at, lane-none, lane-next}
use Rattle.absorb.proofs.cone.lanes.Goals as goal

pub loop-k-init : goal.loop-k-init
loop-k-init c = lane-none _ _ _ _ _

pub place_ok-requires : goal.place_ok-requires
place_ok-requires c = (near_at c.requires.0 c.node_at-node.ensures.is (omega arith), omega arith)

pub lane_at-w-requires : goal.lane_at-w-requires
lane_at-w-requires c = near_at c.requires.0 c.node_at-node.ensures.is (omega arith)

pub loop-k-preserved : goal.loop-k-preserved
loop-k-preserved c =
    lane-next c.requires.0 (omega arith) c.loop-k.invariant c.node_at-node.ensures.is c.lane_at-w.ensures (c.place_ok.ensures c.if-not-place_ok.false)
