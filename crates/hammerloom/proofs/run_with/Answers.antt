-- `hammerloom::run_with` meets its contract: what run ensures of any two tables. Assumes nothing.
use Rattle.hammerloom.proofs.Host.{host_run}
use Rattle.hammerloom.proofs.run_with.Goals as goal

pub returns : goal.returns
returns g c = host_run c.run-ran.ensures c.told.ensures
