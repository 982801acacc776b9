-- `judge::forward::input` meets its contract. Assumes nothing.
use native.Mathlib.Omega.{arith}
use mathlib.Core.Path.{sym, ◌∙◌}
use Rattle.net.specs.Layout.{val}
use Rattle.judge.proofs.forward.input.Goals as goal

pub returns-then-has-2 : goal.returns-then-has-2
unfolding val
returns-then-has-2 c l =
    record { low = omega arith; value = sym c.if-has-2.true ∙ c.has-then-has.ensures; reason = c.one-only.ensures; assigned = sym c.has.ensures ∙ c.if-has.true }

pub returns-then-has : goal.returns-then-has
unfolding val
returns-then-has c l =
    record { low = omega arith; value = sym c.if-has-2.false ∙ c.has-then-has.ensures; reason = c.one-only.ensures; assigned = sym c.has.ensures ∙ c.if-has.true }

pub returns : goal.returns
returns c l =
    absurd (omega arith)
