-- `proxies::body_shows` meets its contract. Assumes nothing.
use native.Mathlib.Omega.{arith}
use mathlib.Core.Path.{refl}
use Rattle.words.proofs.Logic.{clash}
use Rattle.net.specs.Layout.{decides-some, decides-low}
use Rattle.proxies.proofs.body_shows.Goals as goal

pub returns-then-found : goal.returns-then-found
returns-then-found c op e =
    record { some = rw e (decides-some op); low = rw e (decides-low op); met = λ h. (e, c.without.ensures); missed = λ h. clash _ c.if-found.true h }

pub returns-then-d-eq2 : goal.returns-then-d-eq2
returns-then-d-eq2 c op e =
    record { some = omega arith; low = omega arith; met = λ h. clash _ h c.if-found.false; missed = λ h. (omega (arith, e, c.if-d-eq2.true), refl) }

pub returns : goal.returns
returns c op e =
    record { some = omega arith; low = omega arith; met = λ h. clash _ h c.if-found.false; missed = λ h. (omega (arith, e, c.if-d-eq2.false, decides-some op, decides-low op), refl) }
