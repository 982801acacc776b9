-- Cubes of n variables: a mask m, the variables that are fixed, and their values w. What the operations do to the two words, and what that
-- means variable by variable. Assumes nothing.
use Rattle.std.specs.Prelude.{◌≡◌, Bool, false, ℕ, eqb}
use Rattle.std.proofs.Math.Bool.{true}
use Rattle.std.specs.Int.Bits.{bit_and}
use Rattle.words.specs.Word.{bit}
use Rattle.words.specs.Mask.{without, placed}

-- the cube m', w' is m, w with two bits replaced at the variable v: the mask's by t, the values' by b
pub record Replaced (n m w v : ℕ) (t b : Bool) (m' w' : ℕ) : Type 0 where
  pub mask : m' ≡ placed n m v t
  pub values : w' ≡ placed n w v b

-- v is fixed at the value b
abbrev pub Fixed : ℕ → ℕ → ℕ → ℕ → Bool → ℕ → ℕ → Type 0
Fixed n m w v b m' w' = Replaced n m w v true b m' w'

-- v is freed: it has no value then, so that the values lie in the mask
abbrev pub Freed : ℕ → ℕ → ℕ → ℕ → ℕ → ℕ → Type 0
Freed n m w v m' w' = Replaced n m w v false false m' w'

-- the variables of the word o are freed
pub record FreedAll (m w o m' w' : ℕ) : Type 0 where
  pub mask : m' ≡ without m o
  pub values : w' ≡ without w o

-- the cube m, w is made of a mask f and a word x: its values are the word's in the mask
pub record Made (f x m w : ℕ) : Type 0 where
  pub mask : m ≡ f
  pub values : w ≡ bit_and x f

-- ---- agreement

-- s has w's value at each variable of m other than v
abbrev pub Elsewhere : ℕ → ℕ → ℕ → ℕ → Type 0
Elsewhere v m w s = (k : ℕ) → eqb k v ≡ false → bit m k ≡ true → bit s k ≡ bit w k
