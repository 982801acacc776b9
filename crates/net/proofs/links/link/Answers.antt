-- `net::links::link` meets its contract.
use Rattle.std.proofs.Common.{arith}
use Rattle.net.specs.LinkLaws.{linked_ground}
use Rattle.net.proofs.links.link.Goals as goal

pub link_at-requires : goal.link_at-requires
link_at-requires c = (linked_ground c.requires c.loop-k.invariant, omega arith)
