-- `absorb::region::sees` meets its contract.
use Rattle.absorb.specs.ConeLaws.{near_at}
use Rattle.absorb.proofs.region.sees.Goals as goal

pub names_marked-requires : goal.names_marked-requires
names_marked-requires c = near_at c.requires.0 c.node_at.ensures.is c.requires.2
