-- `lanes::marks::spread` meets its contract: by the kind of node. Assumes nothing.
use native.Mathlib.Omega.{arith}
use mathlib.Core.Path.{ap}
use Rattle.net.specs.Layout.{reads-low, names-below, joins-left, joins-right}
use Rattle.net.specs.Op.{code_of, code_fixed, code_gate}
use Rattle.lanes.proofs.MarksLaws.{raised_none, founded_fixed, founded_reads, spread_flips, spread-joins}
use Rattle.lanes.proofs.marks.spread.Goals as goal

pub returns-in-False : goal.returns-in-False
returns-in-False c =
    (raised_none c.args.k _, λ z. founded_fixed c.requires.0 c.node_at-node.ensures.is (code_fixed c.in-False.is))

pub variable-requires : goal.variable-requires
variable-requires c =
    reads-low c.requires.0 c.node_at-node.ensures.is (ap code_of c.in-Input.is)

pub one-requires : goal.one-requires
one-requires c =
    omega (arith, c.variable.ensures, reads-low c.requires.0 c.node_at-node.ensures.is (ap code_of c.in-Input.is))

pub returns-in-Input : goal.returns-in-Input
returns-in-Input c =
    (raised_none c.args.k _, λ z. founded_reads c.requires.0 c.node_at-node.ensures.is (ap code_of c.in-Input.is))

pub mark-requires : goal.mark-requires
mark-requires c =
    let n = ap code_of c.in-Not.is in
    omega (arith, names-below c.requires.0 c.node_at-node.ensures.is (omega (arith, n)), c.requires.3)

pub returns-in-Not : goal.returns-in-Not
returns-in-Not c =
    let s = spread_flips c.requires.0 c.node_at-node.ensures.is _ c.requires.3 c.mark.ensures (ap code_of c.in-Not.is) in (s.0, λ z. s.1)

pub mark-requires-in-And : goal.mark-requires-in-And
mark-requires-in-And c =
    let g = code_gate c.in-And.is in
    omega (arith, joins-left c.requires.0 c.node_at-node.ensures.is g.0 g.1, c.requires.3)

pub mark-requires-in-And-2 : goal.mark-requires-in-And-2
mark-requires-in-And-2 c =
    let g = code_gate c.in-And.is in
    omega (arith, joins-right c.requires.0 c.node_at-node.ensures.is g.0 g.1, c.requires.3, c.mark-in-And.auto.marks)

pub returns-in-And : goal.returns-in-And
returns-in-And c =
    let g = code_gate c.in-And.is in
    let s = spread-joins c.requires.0 c.node_at-node.ensures.is _ c.requires.3 c.mark-in-And.ensures c.mark-in-And-2.ensures g.0 g.1 in
    (s.0, λ z. s.1)
