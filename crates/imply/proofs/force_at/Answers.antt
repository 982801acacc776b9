-- `imply::force_at` meets its contract. Assumes nothing.
use native.Mathlib.Omega.{arith}
use Rattle.imply.specs.RequiredLaws.{wanted_at}
use Rattle.imply.proofs.force_at.Goals as goal

pub returns : goal.returns
returns c = (
  c.pass.ensures.same,
  λ a t l W F.
      let R = wanted_at l W c.known_at-want.ensures.0 c.known_at-want.ensures.1 (omega (arith, c.if-want-eq0.false)) in
      (c.pass.ensures.keeps a t W R, c.take.ensures a t _ _ R F),
)
