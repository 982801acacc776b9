-- `lanes::fill::row_of` meets its contract: one law for each kind of node. Assumes nothing.
use native.Mathlib.Omega.{arith}
use mathlib.Core.Path.{refl, ap}
use Rattle.net.specs.Layout.{reads-low, names-below, joins-right}
use Rattle.net.specs.Op.{code_of, code_binds}
use Rattle.lanes.proofs.FillLaws.{row_fixed, row_reads, row_flips, row_and, row_or, plain}
use Rattle.lanes.proofs.fill.row_of.Goals as goal

pub returns-in-False : goal.returns-in-False
returns-in-False c =
    let n = ap code_of c.in-False.is in
    row_fixed c.requires.0 c.node_at-node.ensures.is (omega (arith, n)) (rw n refl) c.constant.ensures

pub returns-in-True : goal.returns-in-True
returns-in-True c =
    let n = ap code_of c.in-True.is in
    row_fixed c.requires.0 c.node_at-node.ensures.is (omega (arith, n)) (rw n refl) c.constant-in-True.ensures

pub variable-requires : goal.variable-requires
variable-requires c =
    reads-low c.requires.0 c.node_at-node.ensures.is (ap code_of c.in-Input.is)

pub input-requires : goal.input-requires
input-requires c =
    omega (arith, c.variable.ensures, reads-low c.requires.0 c.node_at-node.ensures.is (ap code_of c.in-Input.is))

pub returns-in-Input : goal.returns-in-Input
returns-in-Input c =
    row_reads c.requires.0 c.node_at-node.ensures.is (ap code_of c.in-Input.is) c.variable.ensures c.input.ensures

pub row_at-requires : goal.row_at-requires
row_at-requires c =
    let n = ap code_of c.in-Not.is in
    omega (arith, names-below c.requires.0 c.node_at-node.ensures.is (omega (arith, n)), c.requires.2)

pub returns-in-Not : goal.returns-in-Not
returns-in-Not c =
    row_flips c.requires.0 c.node_at-node.ensures.is c.requires.3 (ap code_of c.in-Not.is) c.row_at.ensures c.negated.ensures.0 c.negated.ensures.1 c.negated.ensures.2

pub row_at-requires-in-And : goal.row_at-requires-in-And
row_at-requires-in-And c =
    let n = ap code_of c.in-And.is in
    omega (arith, names-below c.requires.0 c.node_at-node.ensures.is (omega (arith, n)), c.requires.2)

pub row_at-requires-in-And-2 : goal.row_at-requires-in-And-2
row_at-requires-in-And-2 c =
    let n = ap code_of c.in-And.is in
    omega (arith, joins-right c.requires.0 c.node_at-node.ensures.is (omega (arith, n)) (omega (arith, n)), c.requires.2)

pub returns-in-And : goal.returns-in-And
returns-in-And c =
    row_and c.requires.0 c.node_at-node.ensures.is c.requires.3 c.row_at-in-And.ensures c.row_at-in-And-2.ensures (ap code_of c.in-And.is) c.both.ensures.0 c.both.ensures.1 c.both.ensures.2

pub row_at-requires-in-Or : goal.row_at-requires-in-Or
row_at-requires-in-Or c =
    let n = ap code_of c.in-Or.is in
    omega (arith, names-below c.requires.0 c.node_at-node.ensures.is (omega (arith, n)), c.requires.2)

pub row_at-requires-in-Or-2 : goal.row_at-requires-in-Or-2
row_at-requires-in-Or-2 c =
    let n = ap code_of c.in-Or.is in
    omega (arith, joins-right c.requires.0 c.node_at-node.ensures.is (omega (arith, n)) (omega (arith, n)), c.requires.2)

pub returns-in-Or : goal.returns-in-Or
returns-in-Or c =
    row_or c.requires.0 c.node_at-node.ensures.is c.requires.3 c.row_at-in-Or.ensures c.row_at-in-Or-2.ensures (ap code_of c.in-Or.is) c.either.ensures.0 c.either.ensures.1 c.either.ensures.2

pub unreachable-requires : goal.unreachable-requires
unreachable-requires c =
    let b = code_binds c.in-Exists.is in
    omega (arith, plain c.requires.0 c.node_at-node.ensures.is c.requires.3)
