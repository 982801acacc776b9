-- `dimacs::decode::with_atom` meets its contract. Assumes nothing.
use native.Mathlib.Omega.{arith}
use mathlib.Core.Bool.{not}
use mathlib.Core.Path.{ap}
use Rattle.dimacs.proofs.RowSteps.{range_bounds, atom_next, atom_none}
use Rattle.dimacs.proofs.decode.with_atom.Goals as goal

pub returns-then-not-in_range : goal.returns-then-not-in_range
returns-then-not-in_range c =
    atom_none _ c.in_range.ensures c.args.word (ap not c.if-not-in_range.true)

pub overflow_sub-n : goal.overflow_sub-n
overflow_sub-n c =
    (range_bounds c.args.n c.in_range.ensures (ap not c.if-not-in_range.false)).0

pub overflow_cast-n : goal.overflow_cast-n
overflow_cast-n c =
    omega (arith, range_bounds c.args.n c.in_range.ensures (ap not c.if-not-in_range.false))

pub one-requires : goal.one-requires
one-requires c =
    omega (arith, range_bounds c.args.n c.in_range.ensures (ap not c.if-not-in_range.false))

pub returns : goal.returns
returns c =
    atom_next _ c.in_range.ensures c.args.word (ap not c.if-not-in_range.false) c.one.ensures
