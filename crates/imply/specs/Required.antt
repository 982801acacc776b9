-- Backward implication: what a node, and what a variable, must be for node a to have the truth t. Assumes nothing.
use Rattle.std.specs.Prelude.{ℕ, ◌+◌, ◌≤◌, ◌<◌, ◌^◌, ◌≡◌, Bool, true, false, List, length, get_or}
use Rattle.std.specs.Int.Bits.{bit_or}
use Rattle.words.specs.Word.{bit}
use Rattle.words.specs.Mask.{Sub}
use Rattle.formula.specs.Assignment.{Assignment, On}
use Rattle.formula.specs.Formula.{truth, free}
use Rattle.net.specs.Layout.{formula_at, val}
use Rattle.judge.specs.Cells.{value_of, reason_of}

-- every assignment that agrees with w on r and gives node a the truth t gives node k the truth v
pub record Required (net : List ℕ) (a t m w k v r : ℕ) : Type 0 where
  pub low : v < 3
  pub forces : (σ : Assignment) → On (bit r) σ (bit w) → truth (formula_at net a) σ ≡ val t → truth (formula_at net k) σ ≡ val v
  pub assigned : Sub r m
  pub inside : (x : ℕ) → bit r x ≡ true → free (formula_at net a) x ≡ true
  -- no assigned variable that k reads is bound on the way from a
  pub opens : (x : ℕ) → free (formula_at net k) x ≡ true → bit m x ≡ true → free (formula_at net a) x ≡ true

-- ---- the wants, which stand as cells do

pub record Wanted (net : List ℕ) (a t m w : ℕ) (wants : List ℕ) : Type 0 where
  pub long : length net ≤ 67 + length wants
  pub each : (k : ℕ) → k ≤ a → 0 < value_of wants k → Required net a t m w k (value_of wants k) (reason_of wants k)

-- nothing is wanted of the nodes up to a
pub record Wiped (a : ℕ) (wants wants' : List ℕ) : Type 0 where
  pub same : length wants' ≡ length wants
  pub none : (k : ℕ) → k ≤ a → value_of wants' k ≡ 0

-- what node k passes on keeps the wants right
pub record Passed (net : List ℕ) (m w k v r : ℕ) (wants wants' : List ℕ) : Type 0 where
  pub same : length wants' ≡ length wants
  pub keeps : (a t : ℕ) → Wanted net a t m w wants → Required net a t m w k v r → Wanted net a t m w wants'

-- ---- variables that are forced

-- every assignment that agrees with w on r and gives node a the truth t has the value b at x
pub record Why (net : List ℕ) (a t m w x : ℕ) (b : Bool) (r : ℕ) : Type 0 where
  pub forces : (σ : Assignment) → On (bit r) σ (bit w) → truth (formula_at net a) σ ≡ val t → σ x ≡ b
  pub assigned : Sub r m
  pub inside : (y : ℕ) → bit r y ≡ true → free (formula_at net a) y ≡ true

-- the variables X have the values U, each because of its entry in `whys`
pub record Forcing (net : List ℕ) (a t loose m w X U : ℕ) (whys : List ℕ) : Type 0 where
  pub long : length whys ≡ 64
  pub loose_only : Sub X loose
  pub valued : Sub U X
  pub each : (x : ℕ) → bit X x ≡ true → Why net a t m w x (bit U x) (get_or whys x 0)

-- U with x's value
pub record Valued (U x v U' : ℕ) : Type 0 where
  pub yes : val v ≡ true → U' ≡ bit_or U (2 ^ x)
  pub none : val v ≡ false → U' ≡ U
