-- `solver::verdict::unread` meets its contract: read off the net. Assumes nothing.
use Rattle.solver.specs.GaugedAsk.{unread-is}
use Rattle.solver.proofs.verdict.unread.Goals as goal

pub returns : goal.returns
returns c =
    λ s N. rw (c.without.ensures, c.free.ensures, c.gauges.ensures) (unread-is N c.args.mask)
