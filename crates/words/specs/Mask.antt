-- Masks: words as sets of places (a place is a bit's number), for every width. Each law is read off bit by bit (`ext`). Assumes nothing.
use Rattle.std.specs.Prelude.{◌≡◌, Bool, true, false, cond, ℕ, zero, suc, ◌+◌, ◌-◌, ◌*◌, ◌^◌, ◌≤◌, ◌<◌, ltb, eqb}
use Rattle.std.specs.Int.Bits.{bit_and, bit_or, bit_xor}
use Rattle.words.specs.Word.{bit}

-- every place of y is one of f; no place of a is one of b
pub record Sub (y f : ℕ) : Type 0 where
  pub inside : bit_and y f ≡ y

pub record Apart (a b : ℕ) : Type 0 where
  pub none : bit_and a b ≡ zero

-- m without the places of o: `m ^ (m & o)`, which is the same at every width
unfoldable pub without : ℕ → ℕ → ℕ
without m o = bit_xor m (bit_and m o)

-- ---- the highest place of a mask

pub record Top (f j : ℕ) : Type 0 where
  pub reach : 2 ^ j ≤ f
  pub under : f < 2 ^ suc j

-- ---- a run of places, and the highest place, as the machine finds them

unfoldable pub range_mask : ℕ → ℕ → ℕ
range_mask b c = (2 ^ c - 1) * 2 ^ b

-- ---- one place set to a value

-- w with the value b at place v
unfoldable pub put : ℕ → ℕ → Bool → ℕ
put w v true = bit_or w (2 ^ v)
put w v false = without w (2 ^ v)

-- ---- `put` where v may lie past the last of n places: then nothing changes

unfoldable pub placed : ℕ → ℕ → ℕ → Bool → ℕ
placed n w v b = cond (ltb v n) (put w v b) w

-- ---- inside, as a test

-- each place of a is one of b
unfoldable pub inside : ℕ → ℕ → Bool
inside a b = eqb (bit_and a b) a

-- ---- the word of n places whose bits are p

unfoldable pub mask_of : ℕ → (ℕ → Bool) → ℕ
mask_of zero p = 0
mask_of (suc n) p = mask_of n p + cond (p n) (2 ^ n) 0

-- ---- a setting s against the values w at the places of m

-- a cube or record agrees with a setting whose bits in the mask are exactly its values
unfoldable pub agree : ℕ → ℕ → ℕ → Bool
agree mask values setting = eqb (bit_and setting mask) values

-- s has w's value at each place of m
abbrev pub Agree : ℕ → ℕ → ℕ → Type 0
Agree m w s = (k : ℕ) → bit m k ≡ true → bit s k ≡ bit w k
