-- A table of records (frame, mask, values) in either form, of which the first `count` are kept. Assumes nothing.
use Rattle.std.specs.Prelude.{◌≡◌, ◌⊎◌, Bool, true, ◌&&◌, List, ℕ, ◌<◌, ◌≤◌, length, get_or, eqb}
use Rattle.words.specs.Word.{bit}
use Rattle.words.specs.Mask.{Sub, inside, agree}
use Rattle.formula.specs.Formula.{Formula}
use Rattle.formula.specs.Reason.{Explains}
use Rattle.form.specs.Form.{room, record_start}
use Rattle.form.specs.declared.Form.{Form}
pub use Rattle.records.specs.Layout.{frame_at, mask_at, values_at}

-- record j is one of that frame, its mask lies inside the assigned variables, and it agrees with the setting
unfoldable pub matches : Form → List ℕ → ℕ → ℕ → ℕ → ℕ → Bool
matches F t frame assigned setting j = eqb (frame_at F t j) frame && (inside (mask_at F t j) assigned && agree (mask_at F t j) (values_at F t j) setting)

pub record Matches (F : Form) (t : List ℕ) (frame assigned setting j : ℕ) : Type 0 where
  pub frame_is : frame_at F t j ≡ frame
  pub inside : Sub (mask_at F t j) assigned
  pub agrees : agree (mask_at F t j) (values_at F t j) setting ≡ true

-- ---- tables that hold approximations (document 01), and that grow

-- one kept record: an approximation of its frame that is true (φ gives each frame's formula, n is the number of frames)
pub record Holds (F : Form) (φ : ℕ → Formula) (n : ℕ) (v : Bool) (t : List ℕ) (j : ℕ) : Type 0 where
  pub below : frame_at F t j < n
  pub within : Sub (values_at F t j) (mask_at F t j)
  pub explains : Explains (φ (frame_at F t j)) v (bit (mask_at F t j)) (bit (values_at F t j))

pub record Valid (F : Form) (φ : ℕ → Formula) (n : ℕ) (v : Bool) (t : List ℕ) (count : ℕ) : Type 0 where
  pub fits : record_start F count ≤ length t
  pub each : (j : ℕ) → j < count → Holds F φ n v t j

-- a table t with count records became t' with count' records: what was counted stays, numbers behind the count are as found
pub record Grown (F : Form) (t : List ℕ) (count : ℕ) (t' : List ℕ) (count' : ℕ) : Type 0 where
  pub same : length t' ≡ length t
  pub more : count ≤ count'
  pub kept : (i : ℕ) → i < record_start F count → get_or t' i 0 ≡ get_or t i 0
  pub behind : (i : ℕ) → record_start F count' ≤ i → get_or t' i 0 ≡ get_or t i 0

-- the table is full, or one of its counted records matches
abbrev pub Kept : Form → List ℕ → ℕ → ℕ → ℕ → ℕ → Type 0
Kept F t count frame assigned setting = (room F (length t) ≤ count) ⊎ ((j : ℕ) × (j < count) × (matches F t frame assigned setting j ≡ true))
