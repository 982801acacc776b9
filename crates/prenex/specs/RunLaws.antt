-- The runs of a predicate: they ascend, do not overlap, and have exactly its variables below 32. Assumes nothing.
use Rattle.std.specs.Prelude.{ℕ, suc, ◌+◌, ◌≤◌, Bool, false, ◌||◌, List, [], ◌∷◌}
use Rattle.formula.specs.Assignment.{within}
use Rattle.prenex.specs.Kinds.{Run}

-- ---- order

-- the runs have a variable each, lie from x on and before e, and each starts behind the end of the one before it
pub data Ascending (e : ℕ) : ℕ → List Run → Type 0 where
  no_run : {x : ℕ} → Ascending e x []
  next-run : {x : ℕ} (r : Run) {rs : List Run} → x ≤ r.first → 1 ≤ r.size → r.first + r.size ≤ e
      → Ascending e (r.first + r.size) rs → Ascending e x (r ∷ rs)

-- ---- the variables

-- k is a variable of some run
unfoldable pub in_runs : List Run → ℕ → Bool
in_runs [] k = false
in_runs (r ∷ rs) k = within r.first r.size k || in_runs rs k

-- ---- longest runs: between two of them a variable is left out, so that, having exactly the predicate's variables, none can be longer

pub data Spaced : ℕ → List Run → Type 0 where
  none_spaced : {x : ℕ} → Spaced x []
  next_spaced : {x : ℕ} (r : Run) {rs : List Run} → x ≤ r.first → Spaced (suc (r.first + r.size)) rs → Spaced x (r ∷ rs)
