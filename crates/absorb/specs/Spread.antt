-- The bit that says that a node is changed, spread upwards to every node that names a changed one; all else in the net is as it was. Assumes nothing.
use Rattle.std.specs.Prelude.{ℕ, ◌<◌, ◌≤◌, ◌≡◌, Bool, true, false, not, List, length, get_or}
use Rattle.net.specs.Layout.{frames_of, free_of, gauges_of, first_word, packed, changed}
use Rattle.absorb.specs.Absorb.{Names}

-- the same nodes, and no fewer of them changed
pub record Noted (net net' : List ℕ) : Type 0 where
  pub long : length net' ≡ length net
  pub count : frames_of net' ≡ frames_of net
  pub opens : free_of net' ≡ free_of net
  pub gauged : gauges_of net' ≡ gauges_of net
  pub nodes : (k : ℕ) → packed net' k ≡ packed net k
  pub behind : (i : ℕ) → first_word (frames_of net) ≤ i → get_or net' i 0 ≡ get_or net i 0
  pub more : (k : ℕ) → changed net k ≡ true → changed net' k ≡ true

unfoldable pub still : List ℕ → ℕ → Bool
still net k = not (changed net k)

-- node k was looked at: if it is not changed, it names no changed node. The others have the bit as before
pub record NotedAt (net net' : List ℕ) (k : ℕ) : Type 0 where
  pub noted : Noted net net'
  pub at : changed net' k ≡ false → Names (still net) (packed net k)
  pub others : (j : ℕ) → (j ≡ k → ⊥) → changed net' j ≡ changed net j

-- the first i nodes were
pub record Spreading (net net' : List ℕ) (i : ℕ) : Type 0 where
  pub noted : Noted net net'
  pub closed : (k : ℕ) → k < i → changed net' k ≡ false → Names (still net') (packed net' k)
