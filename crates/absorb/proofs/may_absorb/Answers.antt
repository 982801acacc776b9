-- `absorb::may_absorb` meets its contract.
use Rattle.std.proofs.Common.{arith, sym, ◌∙◌}
use Rattle.net.specs.Layout.{binds-below}
use Rattle.absorb.specs.ConeLaws.{free-at}
use Rattle.absorb.specs.SheetLaws.{small_form, small_low, absorbable}
use Rattle.absorb.proofs.may_absorb.Goals as goal

pub inside-requires-clause-grounded : goal.inside-requires-clause-grounded
inside-requires-clause-grounded g c =
    let below = binds-below c.requires.0.1.grounded c.node_at-binder.ensures.is (omega arith) in
    (c.requires.0.1.grounded, omega arith, small_low c.args.net.now c.form.ensures c.variables.ensures (omega arith), omega arith)

pub inside-requires-clause-by_index : goal.inside-requires-clause-by_index
inside-requires-clause-by_index g c = free-at c.requires.0.1.grounded c.free_words.ensures c.args.g (omega arith)

pub returns-then-inside : goal.returns-then-inside
returns-then-inside g c =
    λ e. absorbable c.requires.0.1.grounded c.node_at-binder.ensures.is (omega arith) (sym c.has.ensures ∙ c.if-not-has.false) (omega arith) (omega arith)
    (small_form c.args.net.now c.form.ensures c.variables.ensures (omega arith)) (c.turns.ensures c.if-not-turns.false) (c.inside.ensures c.if-inside.true) (c.outside.ensures e)
