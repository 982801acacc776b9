-- Marks that a pass over a net makes from node 0 up, so that a node without one names nodes without one. Assumes nothing.
use Rattle.std.specs.Prelude.{ℕ, ◌<◌, ◌≡◌, Bool, true, false, not, List, get_or, eqb}
use Rattle.net.specs.Net.{Net}
use Rattle.absorb.specs.Absorb.{Names}

unfoldable pub unmarked : List Bool → ℕ → Bool
unmarked marks k = not (get_or marks k false)

-- node k may do without a mark: it has P and names nodes without one, or it is where the pass does not look
abbrev pub Clean : (ℕ → Type 0) → Net → ℕ → List Bool → ℕ → Type 0
Clean P N stop marks k = eqb k stop ≡ false → P k × Names (unmarked marks) (N k)

-- the first i nodes have marks, or are so
pub record Marking (P : ℕ → Type 0) (N : Net) (stop : ℕ) (marks : List Bool) (i : ℕ) : Type 0 where
  pub clean : (k : ℕ) → k < i → unmarked marks k ≡ true → Clean P N stop marks k
