-- `imply::with` meets its contract. Assumes nothing.
use mathlib.Core.Path.{refl, ap}
use lib.Bits.{bit_or}
use borrow.Author.Tests.{eq-eqb, ne_eqb}
use Rattle.words.proofs.Logic.{clash}
use Rattle.net.specs.Layout.{val}
use Rattle.imply.proofs.with.Goals as goal

pub returns-then-value-eq2 : goal.returns-then-value-eq2
unfolding val
returns-then-value-eq2 c x e =
    record { yes = λ h. ap (bit_or c.args.values) e; none = λ h. clash _ (eq-eqb _ _ c.if-value-eq2.true) h }

pub returns-else-value-eq2 : goal.returns-else-value-eq2
unfolding val
returns-else-value-eq2 c x e =
    record { yes = λ h. clash _ h (ne_eqb _ _ c.if-value-eq2.false); none = λ h. refl }
