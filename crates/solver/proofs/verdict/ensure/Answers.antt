-- `solver::verdict::ensure` meets its contract. Assumes nothing.
use Rattle.solver.specs.Ask.{ensured_put}
use Rattle.solver.proofs.verdict.ensure.Goals as goal

pub returns : goal.returns
returns c =
    ensured_put _ _ c.put.ensures
