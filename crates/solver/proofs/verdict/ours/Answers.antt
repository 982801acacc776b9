-- `solver::verdict::ours` meets its contract: read off the net. Assumes nothing.
use mathlib.Core.Path.{◌∙◌}
use Rattle.solver.specs.GaugedAsk.{ours_are}
use Rattle.solver.proofs.verdict.ours.Goals as goal

pub returns : goal.returns
returns c =
    λ s N. c.without-2.ensures ∙ rw (c.without.ensures, c.free.ensures, c.gauges.ensures) (ours_are N c.args.mask)
