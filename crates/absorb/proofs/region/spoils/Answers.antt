-- `absorb::region::spoils` meets its contract.
use Rattle.absorb.specs.ConeLaws.{near_at}
use Rattle.absorb.proofs.region.spoils.Goals as goal

pub names_marked-requires : goal.names_marked-requires
names_marked-requires c = near_at c.requires.grounded.0 c.node_at-node.ensures.is c.requires.grounded.3
