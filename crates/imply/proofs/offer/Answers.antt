-- `imply::offer` meets its contract: what is stored is required. Assumes nothing.
use Rattle.judge.specs.CellLaws.{stored-long}
use Rattle.imply.specs.RequiredLaws.{wanted_set}
use Rattle.imply.proofs.offer.Goals as goal

pub returns : goal.returns
returns c =
    (stored-long c.put.ensures, λ net a t m w W R. wanted_set c.requires.1 W R c.put.ensures)
