-- What a scratch of cells shows of the first nodes under a full assignment. Assumes nothing.
use Rattle.std.specs.Prelude.{ℕ, ◌+◌, ◌≤◌, ◌<◌, List, length}
use Rattle.judge.specs.Cells.{value_of, reason_of}
use Rattle.judge.specs.Judge.{Right}

-- there is a cell for every node of the net, and those of the nodes before k are right under the cube m, w; the others may hold anything
pub record Shows (net : List ℕ) (m w : ℕ) (cells : List ℕ) (k : ℕ) : Type 0 where
  pub long : length net ≤ 67 + length cells
  pub each : (j : ℕ) → j < k → Right net m w j (value_of cells j) (reason_of cells j)
