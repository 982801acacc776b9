-- `phase::choice::pass` meets its contract: what a node names stands before it, and its variable is one of 64.
use Rattle.std.proofs.Common.{arith, ap}
use Rattle.net.specs.Op.{code_of, code_gate, code_binds}
use Rattle.net.specs.Layout.{reads-low, flips_below, joins-left, joins-right, binds-below}
use Rattle.phase.proofs.choice.pass.Goals as goal

pub bounds-uses-node : goal.bounds-uses-node
bounds-uses-node c =
    reads-low c.requires.0 c.node_at-node.ensures.is (ap code_of c.in-Input.is)

pub bounds-uses-node-in-Input : goal.bounds-uses-node-in-Input
bounds-uses-node-in-Input c =
    reads-low c.requires.0 c.node_at-node.ensures.is (ap code_of c.in-Input.is)

pub add-requires : goal.add-requires
add-requires c =
    let below = flips_below c.requires.0 c.node_at-node.ensures.is (ap code_of c.in-Not.is) in omega arith

pub add-requires-in-And : goal.add-requires-in-And
add-requires-in-And c =
    let gate = code_gate c.in-And.is in
    let below = joins-left c.requires.0 c.node_at-node.ensures.is gate.0 gate.1 in omega arith

pub add-requires-in-And-2 : goal.add-requires-in-And-2
add-requires-in-And-2 c =
    let gate = code_gate c.in-And.is in
    let below = joins-right c.requires.0 c.node_at-node.ensures.is gate.0 gate.1 in omega (arith, c.add-in-And.auto.weights)

pub add-requires-in-Exists : goal.add-requires-in-Exists
add-requires-in-Exists c =
    let below = binds-below c.requires.0 c.node_at-node.ensures.is (code_binds c.in-Exists.is) in omega arith
