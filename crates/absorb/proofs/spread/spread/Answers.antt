-- `absorb::spread::spread` meets its contract.
use Rattle.std.proofs.Common.{arith}
use Rattle.absorb.specs.SpreadLaws.{noted_ground, spreading_none, spreading_next}
use Rattle.absorb.proofs.spread.spread.Goals as goal

pub loop-k-init : goal.loop-k-init
loop-k-init c = spreading_none _

pub spread_at-requires : goal.spread_at-requires
spread_at-requires c = (noted_ground c.requires c.loop-k.invariant.noted, omega arith)

pub loop-k-preserved : goal.loop-k-preserved
loop-k-preserved c =
    spreading_next (noted_ground c.requires c.loop-k.invariant.noted).ordered c.loop-k.invariant c.spread_at.ensures
