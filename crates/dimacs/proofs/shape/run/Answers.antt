-- `dimacs::shape::run` meets its contract. The invariant: taking the fields that are left gives what taking all of them gives. Assumes nothing.
use native.Mathlib.Omega.{arith}
use mathlib.Core.Path.{sym, ◌∙◌}
use Rattle.dimacs.proofs.ShapeSteps.{run-taken, run_none}
use Rattle.dimacs.proofs.shape.run.Goals as goal

pub loop-at-preserved : goal.loop-at-preserved
loop-at-preserved c =
    (c.next-taken.ensures.within, run-taken c.loop-at.state c.next-taken.ensures c.step-state.ensures ∙ c.loop-at.invariant.1)

pub returns : goal.returns
returns c =
    sym (run_none c.args.text.now c.loop-at.at c.loop-at.state (omega (arith, c.loop-at-test.false))) ∙ c.loop-at.invariant.1
