-- The scratch of a search: two words for each node have the node's value, the node that was set before it, and the value's reason, so that the nodes set
-- since a mark are a chain through the cells. Assumes nothing.
use Rattle.std.specs.Prelude.{ℕ, zero, suc, ◌+◌, ◌*◌, ◌/◌, ◌%◌, ◌<◌, ◌≡◌, List, length, get_or, set}

-- there is a cell for node k
abbrev pub HasCell : List ℕ → ℕ → Type 0
HasCell cells k = 2 * k + 1 < length cells

-- 0 nothing is known, 1 false, 2 true
unfoldable pub value_of : List ℕ → ℕ → ℕ
value_of cells k = get_or cells (2 * k) 0 % 4

unfoldable pub reason_of : List ℕ → ℕ → ℕ
reason_of cells k = get_or cells (2 * k + 1) 0

-- the node that was set before node k
unfoldable pub previous : List ℕ → ℕ → ℕ
previous cells k = get_or cells (2 * k) 0 / 4 % 65536

-- nothing is known of node k
unfoldable pub cleared : List ℕ → ℕ → List ℕ
cleared cells k = set (set cells (2 * k) 0) (2 * k + 1) 0

pub record Vacant (cells : List ℕ) (k : ℕ) : Type 0 where
  pub first : get_or cells (2 * k) 0 ≡ 0
  pub second : get_or cells (2 * k + 1) 0 ≡ 0

-- node k was set, and nothing else
pub record Stored (k v r head : ℕ) (cells cells' : List ℕ) (head' : ℕ) : Type 0 where
  pub is : cells' ≡ set (set cells (2 * k) (4 * head + v)) (2 * k + 1) r
  pub first : head' ≡ k

-- ---- the chain: from `head` on, n cells were set; setting them back gives the old ones

-- the head of an empty chain
abbrev pub end : ℕ
end = 65535

pub record Link (next : List ℕ → ℕ → Type 0) (cells : List ℕ) (head : ℕ) : Type 0 where
  pub here : HasCell cells head
  pub inner : head < end
  pub set_here : 0 < get_or cells (2 * head) 0
  pub rest : next (cleared cells head) (previous cells head)

pub record Last (cells : List ℕ) (head : ℕ) (old : List ℕ) : Type 0 where
  pub over : head ≡ end
  pub is : cells ≡ old

unfoldable pub Chain : List ℕ → ℕ → List ℕ → ℕ → Type 0
Chain old zero cells head = Last cells head old
Chain old (suc n) cells head = Link (Chain old n) cells head

-- the cells at `old` and those set since, from `head` on
pub record Trail (old cells : List ℕ) (head : ℕ) : Type 0 where
  pub count : ℕ
  pub chain : Chain old count cells head
