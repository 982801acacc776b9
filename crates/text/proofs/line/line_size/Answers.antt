use Rattle.std.proofs.Common.{◌∙◌, arith, refl, sym}
use Rattle.std.proofs.lemmas.List.{take_rest}
use Rattle.text.proofs.LineLaws.{digits-within, ending-most, size-no-digits, size-no-end, size-line}
use Rattle.text.proofs.line.line_size.Goals as goal

pub returns-then-not-digits-clause-size : goal.returns-then-not-digits-clause-size
returns-then-not-digits-clause-size c =
    sym (size-no-digits c.args.size _ (sym c.digits.ensures ∙ c.if-not-digits.true))

pub slice_bounds-ending-count : goal.slice_bounds-ending-count
slice_bounds-ending-count c =
    digits-within _ _ (sym c.digits.ensures ∙ c.if-not-digits.false)

pub slice_bounds-ending-start : goal.slice_bounds-ending-start
slice_bounds-ending-start c =
    omega (arith, digits-within _ _ (sym c.digits.ensures ∙ c.if-not-digits.false))

pub returns-in_err-end-clause-size : goal.returns-in_err-end-clause-size
returns-in_err-end-clause-size c =
    rw c.from_residual.ensures
    (sym (size-no-end c.args.size _ (sym c.digits.ensures ∙ c.if-not-digits.false) _ (rw take_rest at c.in_err-end.ensures.size) refl))

pub overflow_add-result : goal.overflow_add-result
overflow_add-result c =
    omega (arith, c.in_ok-end.ensures.size, ending-most)

pub returns-clause-size : goal.returns-clause-size
returns-clause-size c =
    sym (size-line c.args.size _ (sym c.digits.ensures ∙ c.if-not-digits.false) _ (rw take_rest at c.in_ok-end.ensures.size) c.in_ok-end.ensures.some)
