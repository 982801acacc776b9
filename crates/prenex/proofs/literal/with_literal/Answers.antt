-- `prenex::literal::with_literal` meets its contract. Assumes nothing.
use Prim.Native.Nat.{ℕ, ◌^◌}
use mathlib.Core.Path.{sym, ap, ◌∙◌}
use Rattle.prenex.proofs.LiteralLaws.{variable-below, with_negative, with_positive}
use Rattle.prenex.proofs.literal.with_literal.Goals as goal

pub one-one-requires : goal.one-one-requires
one-one-requires c =
    variable-below c.args.code _ c.requires.1 c.variable.ensures

pub returns-then-negative : goal.returns-then-negative
returns-then-negative c =
    with_negative c.args.found c.args.code c.one-one.result (c.one-one.ensures ∙ ap (λ (k : ℕ). 2 ^ k) c.variable.ensures)
    (sym c.negative.ensures ∙ c.if-negative.true)

pub returns : goal.returns
returns c =
    with_positive c.args.found c.args.code c.one-one.result (c.one-one.ensures ∙ ap (λ (k : ℕ). 2 ^ k) c.variable.ensures)
    (sym c.negative.ensures ∙ c.if-negative.false)
