-- Sets of nodes, as words: those whose rows are filled. Assumes nothing.
use Rattle.std.specs.Prelude.{ℕ, ◌/◌, ◌%◌, ◌^◌, ◌≤◌, ◌≡◌, Bool, true, List, length, get_or, set}
use Rattle.std.specs.Int.Bits.{bit_or}
use Rattle.words.specs.Word.{bit}
use Rattle.net.specs.Net.{Node, Fixed, Reads, Flips, Joins, Binds}
use Rattle.net.specs.Layout.{packed}
use Rattle.judge.specs.Cells.{value_of}

-- bit k of the words is node k
unfoldable pub marked : List ℕ → ℕ → Bool
marked ms k = bit (get_or ms (k / 64) 0) (k % 64)

-- the same set and node k
unfoldable pub joined : List ℕ → ℕ → List ℕ
joined ms k = set ms (k / 64) (bit_or (get_or ms (k / 64) 0) (2 ^ (k % 64)))

-- ms' has what ms has, and more below k at most
pub record Raised (k : ℕ) (ms ms' : List ℕ) : Type 0 where
  pub long : length ms' ≡ length ms
  pub kept : (i : ℕ) → marked ms i ≡ true → marked ms' i ≡ true
  pub above : (i : ℕ) → k ≤ i → marked ms' i ≡ marked ms i

-- P holds of the nodes that a node names, which is no quantifier
abbrev pub Names : (ℕ → Type 0) → Node → Type 0
Names P (Fixed b) = Unit {0}
Names P (Reads x) = Unit {0}
Names P (Flips x) = P x
Names P (Joins d x y) = P x × P y
Names P (Binds d m x) = ⊥

-- of those that node k names
pub record Founded (P : ℕ → Type 0) (net : List ℕ) (k : ℕ) : Type 0 where
  pub names : Names P (packed net k)

abbrev pub Marked : List ℕ → ℕ → Type 0
Marked ms k = marked ms k ≡ true

-- node k is known, or no quantifier and those that it names are marked
abbrev pub Spread : List ℕ → List ℕ → List ℕ → ℕ → Type 0
Spread net cells ms k = value_of cells k ≡ 0 → Founded (Marked ms) net k

-- node a is marked, and so are those that a marked node names, from k on
pub record Closed (net cells ms : List ℕ) (k a : ℕ) : Type 0 where
  pub top : Marked ms a
  pub each : (i : ℕ) → k ≤ i → i ≤ a → Marked ms i → Spread net cells ms i
