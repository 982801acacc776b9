-- `judge::forward::judge_node` meets its contract: one law for each kind of node. Assumes nothing.
use native.Mathlib.Omega.{arith}
use mathlib.Core.Path.{ap}
use Rattle.net.specs.Layout.{reads-low, names-below, joins-right}
use Rattle.net.specs.Op.{code_of, code_leaf, code_gate, code_binds}
use Rattle.judge.specs.JudgeLaws.{right_leaf, right-not, right-gate, right-binds, judged-at}
use Rattle.judge.proofs.forward.judge_node.Goals as goal

pub leaf-requires : goal.leaf-requires
leaf-requires c =
    (code_leaf c.in-False.is, λ e. omega (arith, reads-low c.requires.0 c.node_at-node.ensures.is e))

pub returns-in-False : goal.returns-in-False
returns-in-False c =
    right_leaf c.requires.0 c.node_at-node.ensures.is (code_leaf c.in-False.is) c.leaf.ensures

pub known_at-requires : goal.known_at-requires
known_at-requires c =
    let n = ap code_of c.in-Not.is in
    omega (arith, names-below c.requires.0 c.node_at-node.ensures.is (omega (arith, n)), c.requires.1, c.requires.2.long)

pub returns-in-Not : goal.returns-in-Not
returns-in-Not c =
    right-not c.requires.0 c.node_at-node.ensures.is (ap code_of c.in-Not.is) (judged-at c.requires.2 c.known_at.ensures.0 c.known_at.ensures.1) c.negated.ensures

pub gate_decided-requires : goal.gate_decided-requires
gate_decided-requires c =
    code_gate c.in-And.is

pub known_at-requires-in-And : goal.known_at-requires-in-And
known_at-requires-in-And c =
    let g = code_gate c.in-And.is in
    omega (arith, names-below c.requires.0 c.node_at-node.ensures.is (omega (arith, g.0)), c.requires.1, c.requires.2.long)

pub known_at-requires-in-And-2 : goal.known_at-requires-in-And-2
known_at-requires-in-And-2 c =
    let g = code_gate c.in-And.is in
    omega (arith, joins-right c.requires.0 c.node_at-node.ensures.is g.0 g.1, c.requires.1, c.requires.2.long)

pub returns-in-And : goal.returns-in-And
returns-in-And c =
    let g = code_gate c.in-And.is in
    right-gate c.requires.0 c.node_at-node.ensures.is g.0 g.1 c.gate_decided.ensures
    (judged-at c.requires.2 c.known_at-in-And.ensures.0 c.known_at-in-And.ensures.1)
    (judged-at c.requires.2 c.known_at-in-And-2.ensures.0 c.known_at-in-And-2.ensures.1)
    c.joined.ensures

pub known_at-requires-in-Exists : goal.known_at-requires-in-Exists
known_at-requires-in-Exists c =
    omega (arith, names-below c.requires.0 c.node_at-node.ensures.is (omega (arith, code_binds c.in-Exists.is)), c.requires.1, c.requires.2.long)

pub returns-in-Exists : goal.returns-in-Exists
returns-in-Exists c =
    right-binds c.requires.0 c.node_at-node.ensures.is (code_binds c.in-Exists.is) c.decided.ensures
    (judged-at c.requires.2 c.known_at-in-Exists.ensures.0 c.known_at-in-Exists.ensures.1)
    c.bound.ensures
