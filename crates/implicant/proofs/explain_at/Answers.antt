-- `implicant::explain_at` meets its contract. Assumes nothing.
use native.Mathlib.Omega.{arith}
use Rattle.judge.specs.CellLaws.{stored-long}
use Rattle.judge.specs.JudgeLaws.{right-low}
use Rattle.implicant.specs.ImplicantLaws.{shows_next}
use Rattle.implicant.proofs.explain_at.Goals as goal

pub put-requires : goal.put-requires
put-requires c =
    (omega (arith, c.requires.1, c.requires.2.long), omega (arith, c.requires.1, c.requires.0.few), right-low c.explain_node-known.ensures)

pub returns : goal.returns
returns c =
    (shows_next (omega (arith, c.requires.1, c.requires.2.long)) c.requires.2 c.explain_node-known.ensures c.put.ensures, stored-long c.put.ensures)
