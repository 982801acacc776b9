-- `judge::cells::known_at` meets its contract. Assumes nothing.
use native.Mathlib.Omega.{arith}
use mathlib.Core.Path.{refl}
use Rattle.judge.specs.Cells.{value_of, reason_of}
use Rattle.judge.proofs.cells.known_at.Goals as goal

pub returns : goal.returns
unfolding value_of reason_of
returns c =
    (refl, refl, omega arith)
