-- `solver::reason::reduced` meets its contract: the loop is the definition's fold from the last variable to the first. Assumes nothing.
use Rattle.net.specs.Layout.{number}
use Rattle.solver.specs.Why.{Turning}
use Rattle.solver.proofs.reason.reduced.Given as goal

abbrev pub invariant-loop-x : goal.invariant-loop-x
invariant-loop-x l = Turning l.initial.net l.aim.all l.aim.some (number l.aim.v) l.initial.left.cube.mask l.initial.left.cube.values l.reason l.initial.under l.initial.left.kept.under l.initial.over l.initial.left.kept.over l.x l.left.cube.mask l.left.cube.values l.left.reason l.net l.under l.left.kept.under l.over l.left.kept.over
