-- What judging says of a node under a partial assignment. Assumes nothing.
use Rattle.std.specs.Prelude.{ℕ, ◌+◌, ◌-◌, ◌≤◌, ◌<◌, ◌^◌, ◌≡◌, true, ◌⊎◌, List, length}
use Rattle.std.specs.Int.Bits.{bit_or}
use Rattle.words.specs.Word.{bit}
use Rattle.words.specs.Mask.{Sub, Apart, without}
use Rattle.formula.specs.Reason.{Explains}
use Rattle.net.specs.Layout.{formula_at, val}
use Rattle.judge.specs.Cells.{value_of, reason_of, Trail}

-- node k has the value v because of the variables of r, which are assigned
pub record Forced (net : List ℕ) (m w k v r : ℕ) : Type 0 where
  pub low : v < 3
  pub explains : Explains (formula_at net k) (val v) (bit r) (bit w)
  pub assigned : Sub r m

-- 0 says nothing
abbrev pub Right : List ℕ → ℕ → ℕ → ℕ → ℕ → ℕ → Type 0
Right net m w k v r = 0 < v → Forced net m w k v r

-- there is a cell for every node of the net, and each is right under the cube m, w
pub record Judged (net : List ℕ) (m w : ℕ) (cells : List ℕ) : Type 0 where
  pub long : length net ≤ 67 + length cells
  pub each : (k : ℕ) → Right net m w k (value_of cells k) (reason_of cells k)

-- ---- each kind of node, from what is known of those that it names

-- the value v with reason r of a NOT whose operand has x with p
pub record Negated (x p v r : ℕ) : Type 0 where
  pub known : 0 < v → 0 < x
  pub value : 0 < v → v ≡ 3 - x
  pub reason : 0 < v → r ≡ p

-- of a gate that d decides: one side decides, or both are the other value
abbrev pub Joined : ℕ → ℕ → ℕ → ℕ → ℕ → ℕ → ℕ → Type 0
Joined d x p y q v r =
    0 < v → ((x ≡ d) × (v ≡ d) × (r ≡ p)) ⊎ (((y ≡ d) × (v ≡ d) × (r ≡ q)) ⊎ ((x ≡ v) × (y ≡ v) × (r ≡ bit_or p q)))

-- of a quantifier over `mask` that d decides: the body does, or has the other value whatever the bound variables are
abbrev pub Bound : ℕ → ℕ → ℕ → ℕ → ℕ → ℕ → Type 0
Bound d mask x p v r =
    0 < v → ((x ≡ d) × (v ≡ d) × (r ≡ without p mask)) ⊎ ((0 < x) × ((x ≡ d → ⊥) × ((v ≡ x) × ((r ≡ p) × Apart p mask))))

-- an input x under the cube m, w
pub record InputForced (m w x v r : ℕ) : Type 0 where
  pub low : v < 3
  pub value : val v ≡ bit w x
  pub reason : r ≡ 2 ^ x
  pub assigned : bit m x ≡ true

abbrev pub RightInput : ℕ → ℕ → ℕ → ℕ → ℕ → Type 0
RightInput m w x v r = 0 < v → InputForced m w x v r

-- a constant, or an input
pub record RightLeaf (op left m w v r : ℕ) : Type 0 where
  pub never : op ≡ 0 → (v ≡ 1) × (r ≡ 0)
  pub always : op ≡ 1 → (v ≡ 2) × (r ≡ 0)
  pub reads : op ≡ 2 → RightInput m w left v r

-- ---- judging so far: the cells are right, and the trail goes back to where it went

pub record Judging (net : List ℕ) (m w : ℕ) (cells₀ : List ℕ) (head₀ : ℕ) (cells : List ℕ) (head : ℕ) : Type 0 where
  pub judged : Judged net m w cells
  pub keeps : (old : List ℕ) → Trail old cells₀ head₀ → Trail old cells head
