-- `net::links::link_variable` meets its contract.
use Rattle.std.proofs.Common.{refl, arith}
use Rattle.net.specs.LinkLaws.{linked_trans, linked_reader}
use Rattle.net.proofs.links.link_variable.Goals as goal

pub returns : goal.returns
returns c =
    linked_trans c.relink.ensures
    (linked_reader _ _ (omega arith) (omega arith) refl)
