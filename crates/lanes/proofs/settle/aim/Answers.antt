-- `lanes::settle::aim` meets its contract. Assumes nothing.
use native.Mathlib.Omega.{arith}
use mathlib.Core.Path.{refl}
use Rattle.lanes.proofs.settle.aim.Goals as goal

pub returns-then-target-eq2 : goal.returns-then-target-eq2
returns-then-target-eq2 c =
    (refl, refl, record { one = λ e. (refl, refl, refl); zero = λ e. absurd (omega (arith, e, c.if-target-eq2.true)) })

pub returns : goal.returns
returns c =
    (refl, refl, record { one = λ e. absurd (c.if-target-eq2.false e); zero = λ e. (refl, refl, c.flip-h.ensures) })
