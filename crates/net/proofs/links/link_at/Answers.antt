-- `net::links::link_at` meets its contract: what a node names stands before it.
use Rattle.std.proofs.Common.{arith, ap}
use Rattle.net.specs.Op.{code_of, code_gate, code_names}
use Rattle.net.specs.Layout.{reads-low, names-below, joins-left, joins-right}
use Rattle.net.specs.LinkLaws.{linked_ground}
use Rattle.net.proofs.links.link_at.Goals as goal

pub link_variable-requires-in-Input : goal.link_variable-requires-in-Input
link_variable-requires-in-Input c =
    (c.requires.0, c.requires.1, reads-low c.requires.0 c.node_at-node.ensures.is (ap code_of c.in-Input.is))

pub link_named-requires : goal.link_named-requires
link_named-requires c =
    (c.requires.0, c.requires.1, names-below c.requires.0 c.node_at-node.ensures.is (code_names c.in-Not.is))

pub link_named-requires-in-And : goal.link_named-requires-in-And
link_named-requires-in-And c =
    let gate = code_gate c.in-And.is in
    (c.requires.0, c.requires.1, joins-left c.requires.0 c.node_at-node.ensures.is gate.0 gate.1)

pub link_named-requires-then-node : goal.link_named-requires-then-node
link_named-requires-then-node c =
    let gate = code_gate c.in-And.is in
    (linked_ground c.requires.0 c.link_named-in-And.ensures, omega (arith, c.link_named-in-And.ensures.count), joins-right c.requires.0 c.node_at-node.ensures.is gate.0 gate.1)
