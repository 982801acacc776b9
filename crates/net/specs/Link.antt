-- Links stand in bits of a net's words that no node is read from: the net stays as it is. Assumes nothing.
use Rattle.std.specs.Prelude.{ℕ, ◌%◌, ◌≤◌, ◌≡◌, List, length, get_or}
use Rattle.net.specs.Layout.{frames_of, free_of, gauges_of, first_word, packed, changed}

-- the bits of a node's first word that the node, and whether it is changed, is read from
unfoldable pub low_part : ℕ → ℕ
low_part word = word % 268435456

-- the same net, with other links
pub record Linked (net net' : List ℕ) : Type 0 where
  pub long : length net' ≡ length net
  pub count : frames_of net' ≡ frames_of net
  pub opens : free_of net' ≡ free_of net
  pub gauged : gauges_of net' ≡ gauges_of net
  pub nodes : (k : ℕ) → packed net' k ≡ packed net k
  pub changes : (k : ℕ) → changed net' k ≡ changed net k
  pub behind : (i : ℕ) → first_word (frames_of net) ≤ i → get_or net' i 0 ≡ get_or net i 0
