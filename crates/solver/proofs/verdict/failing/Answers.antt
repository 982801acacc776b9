-- `solver::verdict::failing` meets its contract: the search for a setting of the unread gauges that fails. Assumes nothing.
use Rattle.cube.proofs.CubeLaws.{made_same}
use Rattle.solver.specs.Ask.{ready_grown}
use Rattle.solver.specs.GaugedAsk.{failing_asking, failing_settled}
use Rattle.solver.proofs.verdict.failing.Goals as goal

pub solve-requires : goal.solve-requires
solve-requires c =
    (c.requires.0, failing_asking c.requires.1 (c.unread-unset.ensures c.requires.0 c.requires.1.net_of) (c.ours-rest.ensures c.requires.0 c.requires.1.net_of) c.of.ensures)

pub returns : goal.returns
returns c =
    record {
      net_unchanged = c.solve.ensures.net_unchanged;
      settled = λ s R. (failing_settled R 1 c.solve.result.found c.solve.result.word c.solve.result.reason (c.unread-unset.ensures s R.net_of) (c.ours-rest.ensures s R.net_of) (made_same c.of.ensures R.valued) c.solve.ensures.settled, ready_grown R c.solve.ensures.growing);
    }
