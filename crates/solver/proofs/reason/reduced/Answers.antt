-- `solver::reason::reduced` meets its contract: the loop is the definition's fold from the last variable to the first. Assumes nothing.
use native.Mathlib.Omega.{arith}
use Rattle.solver.specs.Aim.{aimed_less}
use Rattle.solver.specs.Why.{turning_start, turning_next, turning-end}
use Rattle.solver.proofs.reason.reduced.Goals as goal

pub loop-x-init : goal.loop-x-init
loop-x-init c =
    turning_start c.variables_of-x.ensures

pub dropped-left-requires : goal.dropped-left-requires
dropped-left-requires c =
    let J = c.loop-x.invariant.each c.requires.ready.0 c.requires.ready.1 c.requires.ready.2 in record {
      variable_low = omega (arith, c.loop-x.invariant.low);
      aimed = ((c.requires.ready.0, rw c.loop-x.invariant.same J.ready), rw c.loop-x.invariant.same (aimed_less c.requires.aimed J.less));
    }

pub loop-x-preserved : goal.loop-x-preserved
loop-x-preserved c =
    turning_next c.loop-x.invariant c.loop-x-test.true c.dropped-left.ensures.net_unchanged c.dropped-left.ensures.turned

pub returns : goal.returns
returns c = record {
  net_unchanged = c.loop-x.invariant.same;
  mask_value = turning-end c.loop-x.invariant (omega arith);
}
