-- The rows of nodes: a word of lanes and two reasons each. Assumes nothing.
use Rattle.std.specs.Prelude.{ℕ, ◌+◌, ◌*◌, ◌≤◌, ◌<◌, ◌^◌, ◌≡◌, Bool, true, false, cond, ◌⊎◌, List, length, get_or, set}
use Rattle.std.specs.Int.Bits.{bit_or}
use Rattle.words.specs.Word.{bit}
use Rattle.formula.specs.Formula.{Formula}
use Rattle.net.specs.Layout.{formula_at}
use Rattle.judge.specs.Cells.{value_of}
use Rattle.lanes.specs.Pattern.{low}
use Rattle.lanes.specs.Lanes.{place, Distinct, Says, ones, Flipped}
use Rattle.lanes.specs.Marks.{Marked, Founded}

-- f's word t with its reasons: z where it is false, o where it is true
pub record Row (f : Formula) (ps : List ℕ) (w z o t : ℕ) : Type 0 where
  pub zero : Says f false (place ps) w z t
  pub one : Says f true (place ps) w o t

-- ---- three words a node

abbrev pub HasRow : List ℕ → ℕ → Type 0
HasRow rows k = 3 * k + 2 < length rows

-- for every node that the net has words for
abbrev pub HasRows : List ℕ → List ℕ → Type 0
HasRows net rows = 3 * length net ≤ 201 + 2 * length rows

-- the words of node k
pub record RowWords (rows : List ℕ) (k z o t : ℕ) : Type 0 where
  pub word : t ≡ get_or rows (3 * k) 0
  pub zero : z ≡ get_or rows (3 * k + 1) 0
  pub one : o ≡ get_or rows (3 * k + 2) 0

unfoldable pub stored : List ℕ → ℕ → ℕ → ℕ → ℕ → List ℕ
stored rows k z o t = set (set (set rows (3 * k) t) (3 * k + 1) z) (3 * k + 2) o

-- they are node k's row
pub record RowAt (net ps : List ℕ) (w : ℕ) (rows : List ℕ) (k : ℕ) : Type 0 where
  pub row : Row (formula_at net k) ps w (get_or rows (3 * k + 1) 0) (get_or rows (3 * k + 2) 0) (get_or rows (3 * k) 0)

-- node k is known, or those that it names have their rows
abbrev pub Ripe : List ℕ → List ℕ → List ℕ → ℕ → List ℕ → ℕ → Type 0
Ripe net cells ps w rows k = value_of cells k ≡ 0 → Founded (RowAt net ps w rows) net k

-- node k's row is stored, and the rows before it stay
pub record Added (net ps : List ℕ) (w k : ℕ) (rows rows' : List ℕ) : Type 0 where
  pub here : RowAt net ps w rows' k
  pub before : (i : ℕ) → i < k → RowAt net ps w rows i → RowAt net ps w rows' i
  pub long : length rows' ≡ length rows

-- the marked nodes before n have their rows
pub record Filled (net ps : List ℕ) (w : ℕ) (ms rows : List ℕ) (n : ℕ) : Type 0 where
  pub each : (i : ℕ) → i < n → Marked ms i → RowAt net ps w rows i

-- ---- each kind of node

abbrev pub full_if : Bool → ℕ
full_if b = cond b ones 0

-- the same value b in every lane, because of r
pub record Constant (b : Bool) (r z o t : ℕ) : Type 0 where
  pub word : t ≡ full_if b
  pub zero : z ≡ cond b 0 r
  pub one : o ≡ cond b r 0

-- the word t of an input x: a lane, or constant as in w
pub record InputRow (ps : List ℕ) (w x z o t : ℕ) : Type 0 where
  pub lane : place ps x < 6 → (z ≡ 0) × (o ≡ 0) × Flipped (low (place ps x)) t
  pub fixed : 6 ≤ place ps x → Constant (bit w x) (2 ^ x) z o t

-- the reason z of the decided lanes of a gate with the word t: that of a side which decides them all, or of both
abbrev pub Chosen : ℕ → ℕ → ℕ → ℕ → ℕ → ℕ → Type 0
Chosen t x r y q z = ((t ≡ x) × (z ≡ r)) ⊎ (((t ≡ y) × (z ≡ q)) ⊎ (z ≡ bit_or r q))

-- of the others: that of both, or nothing where there are none
abbrev pub Rested : ℕ → ℕ → ℕ → ℕ → ℕ → Type 0
Rested t none r q z = ((t ≡ none) × (z ≡ 0)) ⊎ (z ≡ bit_or r q)

-- ---- the positions

-- the positions from `top` on are taken, by variables of m
pub record Seated (ps : List ℕ) (m top : ℕ) : Type 0 where
  pub long : length ps ≡ 64
  pub distinct : Distinct (place ps)
  pub above : (x : ℕ) → place ps x < 6 → top ≤ place ps x
  pub among : (x : ℕ) → place ps x < 6 → bit m x ≡ true
