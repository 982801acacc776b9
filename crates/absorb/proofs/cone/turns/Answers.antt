-- `absorb::cone::turns` meets its contract.
use Rattle.std.proofs.Common.{arith, eqb-true}
use Rattle.absorb.specs.ConeLaws.{flips}
use Rattle.absorb.proofs.cone.turns.Goals as goal

pub returns : goal.returns
returns c =
    λ e. flips c.requires.grounded.0 c.requires.grounded.1 (c.sides_ok.ensures c.if-not-sides_ok.false) (c.lanes.ensures c.if-not-lanes.false)
    (λ k. (c.type_inv.words k).fits) (omega arith) (omega arith) (eqb-true _ _ e)
