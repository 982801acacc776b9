-- `absorb::propose::expand` meets its contract: what a node names stands before it.
use Rattle.std.proofs.Common.{arith, ap}
use Rattle.net.specs.Op.{code_of, code_gate}
use Rattle.net.specs.Layout.{flips_below, joins-left, joins-right}
use Rattle.absorb.proofs.propose.expand.Goals as goal

pub join-requires : goal.join-requires
join-requires c =
    let below = flips_below c.requires.0 c.node_at-node.ensures.is (ap code_of c.in-Not.is) in
    (omega (arith, c.requires.0.room), c.requires.2, omega arith, omega arith)

pub join-requires-in-And : goal.join-requires-in-And
join-requires-in-And c =
    let gate = code_gate c.in-And.is in
    let below = joins-left c.requires.0 c.node_at-node.ensures.is gate.0 gate.1 in
    (omega (arith, c.requires.0.room), c.requires.2, omega arith, omega arith)

pub join-requires-in-And-2 : goal.join-requires-in-And-2
join-requires-in-And-2 c =
    let gate = code_gate c.in-And.is in
    let below = joins-right c.requires.0 c.node_at-node.ensures.is gate.0 gate.1 in
    (omega (arith, c.requires.0.room), c.requires.2, omega arith, omega (arith, c.join-in-And.auto.slots))
