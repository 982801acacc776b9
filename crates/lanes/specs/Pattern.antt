-- The 64 lanes of a word: the patterns of the six positions, and a word's halves at one. Assumes nothing.
use Rattle.std.specs.Prelude.{ℕ, ◌*◌, ◌/◌, ◌%◌, ◌^◌, ◌<◌, ◌≡◌, Bool, true, false, cond, eqb}
use Rattle.std.specs.Int.Bits.{bit_and, bit_or}
use Rattle.words.specs.Word.{bit}
use Rattle.words.specs.Mask.{put}

-- bit l of the word is 1 where bit p of l is 0
unfoldable pub low : ℕ → ℕ
low p =
    cond (eqb p 0) 6148914691236517205
    (cond (eqb p 1) 3689348814741910323
    (cond (eqb p 2) 1085102592571150095
    (cond (eqb p 3) 71777214294589695
    (cond (eqb p 4) 281470681808895
    (cond (eqb p 5) 4294967295 0)))))

-- ---- the half of a word where position p has the value b, copied to the other half

-- r has at every lane what t has at the lane with position p set to b
pub record Half (t p : ℕ) (b : Bool) (r : ℕ) : Type 0 where
  pub bits : (l : ℕ) → l < 64 → bit r l ≡ bit t (put l p b)
  pub small : r < 2 ^ 64

-- one half, in the lanes where position p is 0
unfoldable pub part : ℕ → ℕ → Bool → ℕ
part t p true = bit_and (t / 2 ^ (2 ^ p)) (low p)
part t p false = bit_and t (low p)

-- and copied up
unfoldable pub copied : ℕ → ℕ → ℕ
copied h p = bit_or h (h * 2 ^ (2 ^ p) % 2 ^ 64)
