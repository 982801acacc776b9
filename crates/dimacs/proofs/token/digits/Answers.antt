-- `token::digits` meets its contract. The invariant: from here on the digits make the number that all of them make. Assumes nothing.
use mathlib.Core.Path.{sym, ◌∙◌}
use Rattle.dimacs.proofs.FieldLaws.{digits-none, digits_stop, digits-go}
use Rattle.dimacs.proofs.token.digits.Goals as goal

pub returns-in_err-value : goal.returns-in_err-value
returns-in_err-value c =
    c.from_residual.ensures
    ∙ sym (c.loop-b.invariant.1 ∙ digits_stop c.args.word.now c.loop-b.b-index c.loop-b-test.true c.loop-b.value (sym c.in_err-value.ensures.value))

pub loop-b-preserved : goal.loop-b-preserved
loop-b-preserved c =
    (c.in_ok-value.ensures.below, c.loop-b.invariant.1 ∙ digits-go c.args.word.now c.loop-b.b-index c.loop-b-test.true c.loop-b.value (sym c.in_ok-value.ensures.value))

pub returns : goal.returns
returns c =
    sym (c.loop-b.invariant.1 ∙ digits-none c.loop-b.value c.args.word.now c.loop-b.b-index c.loop-b-test.false)
