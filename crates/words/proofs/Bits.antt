-- The bits of a number, and the laws of masks, for every width. Assumes nothing.
use Rattle.std.specs.Prelude.{◌≡◌, refl, Bool, true, false, not, ◌&&◌, ◌||◌, ℕ, zero, suc, ◌+◌, ◌-◌, ◌*◌, ◌/◌, ◌%◌, ◌^◌, ◌≤◌, ◌<◌, min, max, T, leb, ltb}
use Rattle.std.proofs.Common.{sym, ap₂, ◌∙◌, subst, zero-le, suc-le-suc, mod-lt, pow-suc, not-suc-le-zero, le_of_suc-le-suc, zero-lt-suc, lt_of_lt_of_le, mod-eq_of_lt, one-add, arith, pow_pos, pow_mono, shr-shr, lt-ltb}
use Rattle.std.proofs.Math.Path.{ap}
use Rattle.std.proofs.Math.Nat.{div-eq_of_lt, suc-sub-suc, sub-zero}
use Rattle.std.proofs.Math.Dec.{eqb, leb-zero, leb-suc-zero, leb-suc-suc, eqb-zero-suc, eqb-suc-zero, eqb-suc-suc}
use Rattle.std.proofs.Math.Arith.{digits_mod, lt-one}
use Rattle.std.proofs.Math.Pow.{le_ones}
use Rattle.std.specs.Int.Bits.{bit_and, bit_or, bit_xor, differ, and_step, or_step, xor_step, xor_add_and, shifted_half, shifted_even}
use Rattle.std.proofs.lemmas.Nat.{and_shr, or_shr, xor_shr, and_mask}
use Rattle.words.specs.Word.{bit, xorb}

-- ---- the lowest bit, and the rest

two_pos : zero < 2
two_pos = zero-lt-suc 1

pub bit-zero : (w : ℕ) → bit w zero ≡ eqb (w % 2) 1
unfolding bit
bit-zero w = ap (λ (x : ℕ). eqb (x % 2) 1) (div-one w)
  where
    div-one : (x : ℕ) → x / 1 ≡ x
    div-one x = omega arith

pub bit-suc : (w k : ℕ) → bit w (suc k) ≡ bit (w / 2) k
unfolding bit
bit-suc w k = ap (λ (x : ℕ). eqb (x % 2) 1) (ap (λ (x : ℕ). w / 2 ^ x) (sym (one-add k)) ∙ sym (shr-shr w 1 k))

module _ (op f : ℕ → ℕ → ℕ) (g : Bool → Bool → Bool)
    (shr : (a b k : ℕ) → op a b / 2 ^ k ≡ op (a / 2 ^ k) (b / 2 ^ k))
    (step : (a b : ℕ) → op a b ≡ op (a / 2) (b / 2) * 2 + f (a % 2) (b % 2))
    (small : (x y : ℕ) → x < 2 → y < 2 → (f x y < 2) × (eqb (f x y) 1 ≡ g (eqb x 1) (eqb y 1))) where
  op_bit : (a b k : ℕ) → bit (op a b) k ≡ g (bit a k) (bit b k)
  unfolding bit
  op_bit a b k =
      let x = a / 2 ^ k in
      let y = b / 2 ^ k in
      let s = small (x % 2) (y % 2) (mod-lt x two_pos) (mod-lt y two_pos) in
      ap (λ (n : ℕ). eqb (n % 2) 1) (shr a b k)
      ∙ ap (λ (n : ℕ). eqb (n % 2) 1) (step x y)
      ∙ ap (λ (n : ℕ). eqb n 1) (digits_mod (op (x / 2) (y / 2)) s.0)
      ∙ s.1

too_big : {n : ℕ} → suc (suc n) < 2 → ⊥
too_big h = not-suc-le-zero (le_of_suc-le-suc (le_of_suc-le-suc h))

and_small : (x y : ℕ) → x < 2 → y < 2 → (min x y < 2) × (eqb (min x y) 1 ≡ eqb x 1 && eqb y 1)
and_small zero zero h k = (two_pos, refl)
and_small zero (suc zero) h k = (two_pos, refl)
and_small zero (suc (suc y)) h k = absurd (too_big k)
and_small (suc zero) zero h k = (two_pos, refl)
and_small (suc zero) (suc zero) h k = (k, refl)
and_small (suc zero) (suc (suc y)) h k = absurd (too_big k)
and_small (suc (suc x)) y h k = absurd (too_big h)

or_small : (x y : ℕ) → x < 2 → y < 2 → (max x y < 2) × (eqb (max x y) 1 ≡ eqb x 1 || eqb y 1)
or_small zero zero h k = (two_pos, refl)
or_small zero (suc zero) h k = (k, refl)
or_small zero (suc (suc y)) h k = absurd (too_big k)
or_small (suc zero) zero h k = (h, refl)
or_small (suc zero) (suc zero) h k = (h, refl)
or_small (suc zero) (suc (suc y)) h k = absurd (too_big k)
or_small (suc (suc x)) y h k = absurd (too_big h)

xor_small : (x y : ℕ) → x < 2 → y < 2 → (differ x y < 2) × (eqb (differ x y) 1 ≡ xorb (eqb x 1) (eqb y 1))
xor_small zero zero h k = (two_pos, refl)
xor_small zero (suc zero) h k = (k, refl)
xor_small zero (suc (suc y)) h k = absurd (too_big k)
xor_small (suc zero) zero h k = (h, refl)
xor_small (suc zero) (suc zero) h k = (two_pos, refl)
xor_small (suc zero) (suc (suc y)) h k = absurd (too_big k)
xor_small (suc (suc x)) y h k = absurd (too_big h)

pub bit-and : (a b k : ℕ) → bit (bit_and a b) k ≡ bit a k && bit b k
bit-and = op_bit bit_and min ◌&&◌ and_shr and_step and_small

pub bit-or : (a b k : ℕ) → bit (bit_or a b) k ≡ bit a k || bit b k
bit-or = op_bit bit_or max ◌||◌ or_shr or_step or_small

pub bit-xor : (a b k : ℕ) → bit (bit_xor a b) k ≡ xorb (bit a k) (bit b k)
bit-xor = op_bit bit_xor differ xorb xor_shr xor_step xor_small

-- ---- words of one shape

-- nothing stands at n or above in a word below 2 ^ n
pub bit_high : {w : ℕ} (n k : ℕ) → w < 2 ^ n → n ≤ k → bit w k ≡ false
unfolding bit
bit_high {w} n k h l = ap (λ (x : ℕ). eqb (x % 2) 1) (div-eq_of_lt (lt_of_lt_of_le h (pow_mono l)))

pub bit-none : (k : ℕ) → bit zero k ≡ false
bit-none k = bit_high {w = zero} zero k (zero-lt-suc zero) zero-le

-- one bit
pub bit-pow : (j k : ℕ) → bit (2 ^ j) k ≡ eqb k j
bit-pow zero zero = bit-zero 1
bit-pow zero (suc k) = bit-suc 1 k ∙ bit-none k ∙ sym (eqb-suc-zero k)
bit-pow (suc j) zero = bit-zero (2 ^ suc j) ∙ ap (λ (x : ℕ). eqb x 1) (even j) ∙ sym (eqb-zero-suc j)
  where
    even : (i : ℕ) → 2 ^ suc i % 2 ≡ zero
    even i = omega (arith, pow-suc 2 i)
bit-pow (suc j) (suc k) = bit-suc (2 ^ suc j) k ∙ ap (λ (x : ℕ). bit x k) (half j) ∙ bit-pow j k ∙ sym (eqb-suc-suc k j)
  where
    half : (i : ℕ) → 2 ^ suc i / 2 ≡ 2 ^ i
    half i = omega (arith, pow-suc 2 i)

-- the n low bits
pub bit-ones : (n k : ℕ) → bit (2 ^ n - 1) k ≡ ltb k n
bit-ones zero k = bit-none k ∙ sym (leb-suc-zero k)
bit-ones (suc n) zero = bit-zero (2 ^ suc n - 1) ∙ ap (λ (x : ℕ). eqb x 1) odd_it ∙ sym (leb-suc-suc zero n ∙ leb-zero n)
  where
    odd_it : (2 ^ suc n - 1) % 2 ≡ 1
    odd_it = omega (arith, pow-suc 2 n, pow_pos n)
bit-ones (suc n) (suc k) = bit-suc (2 ^ suc n - 1) k ∙ ap (λ (x : ℕ). bit x k) half ∙ bit-ones n k ∙ sym (leb-suc-suc (suc k) n)
  where
    half : (2 ^ suc n - 1) / 2 ≡ 2 ^ n - 1
    half = omega (arith, pow-suc 2 n, pow_pos n)

-- a word moved up by b
pub bit_shl : (a b k : ℕ) → bit (a * 2 ^ b) k ≡ leb b k && bit a (k - b)
bit_shl a zero k = ap₂ bit (by_one a) (sym (sub-zero k)) ∙ ap (λ (t : Bool). t && bit a (k - zero)) (sym (leb-zero k))
  where
    by_one : (x : ℕ) → x * 1 ≡ x
    by_one x = omega arith
bit_shl a (suc b) zero = bit-zero (a * 2 ^ suc b) ∙ ap (λ (x : ℕ). eqb x 1) (shifted_even a b) ∙ ap (λ (t : Bool). t && bit a (zero - suc b)) (sym (leb-suc-zero b))
bit_shl a (suc b) (suc k) =
    bit-suc (a * 2 ^ suc b) k ∙ ap (λ (x : ℕ). bit x k) (shifted_half a b) ∙ bit_shl a b k
    ∙ ap₂ (λ (t : Bool) (n : ℕ). t && bit a n) (sym (leb-suc-suc b k)) (sym (suc-sub-suc k b))

-- a word moved down by b
pub bit_shr : (a b k : ℕ) → bit (a / 2 ^ b) k ≡ bit a (b + k)
unfolding bit
bit_shr a b k = ap (λ (x : ℕ). eqb (x % 2) 1) (shr-shr a b k)

-- c bits from b on
pub bit-range : (b c k : ℕ) → bit ((2 ^ c - 1) * 2 ^ b) k ≡ leb b k && ltb (k - b) c
bit-range b c k = bit_shl (2 ^ c - 1) b k ∙ ap (λ (t : Bool). leb b k && t) (bit-ones c (k - b))

-- the complement of a word below 2 ^ n in n bits
pub not_xor : {x : ℕ} (n : ℕ) → x < 2 ^ n → (2 ^ n - 1) - x ≡ bit_xor x (2 ^ n - 1)
not_xor {x} n h =
    let a : bit_and x (2 ^ n - 1) ≡ x = and_mask x n ∙ mod-eq_of_lt h in
    omega (arith, xor_add_and x (2 ^ n - 1), le_ones n h)

pub bit_not : {x : ℕ} (n k : ℕ) → x < 2 ^ n → bit ((2 ^ n - 1) - x) k ≡ xorb (bit x k) (ltb k n)
bit_not {x} n k h = ap (λ (y : ℕ). bit y k) (not_xor n h) ∙ bit-xor x (2 ^ n - 1) k ∙ ap (λ (t : Bool). xorb (bit x k) t) (bit-ones n k)

pub bit_complement : {x : ℕ} (n k : ℕ) → x < 2 ^ n → k < n → bit ((2 ^ n - 1) - x) k ≡ not (bit x k)
bit_complement {x} n k h l = bit_not n k h ∙ ap (λ (t : Bool). xorb (bit x k) t) (lt-ltb k n l) ∙ go (bit x k)
  where
    go : (p : Bool) → xorb p true ≡ not p
    go true = refl
    go false = refl

-- ---- two words with the same bits are equal

same-digit : (x y : ℕ) → x < 2 → y < 2 → eqb x 1 ≡ eqb y 1 → x ≡ y
same-digit zero zero h k e = refl
same-digit zero (suc zero) h k e = absurd (subst T (sym e) tt)
same-digit zero (suc (suc y)) h k e = absurd (too_big k)
same-digit (suc zero) zero h k e = absurd (subst T e tt)
same-digit (suc zero) (suc zero) h k e = refl
same-digit (suc zero) (suc (suc y)) h k e = absurd (too_big k)
same-digit (suc (suc x)) y h k e = absurd (too_big h)

pub ext_below : (n a b : ℕ) → a < 2 ^ n → b < 2 ^ n → ((k : ℕ) → k < n → bit a k ≡ bit b k) → a ≡ b
ext_below zero a b ha hb e = lt-one ha ∙ sym (lt-one hb)
ext_below (suc n) a b ha hb e =
    let r : a % 2 ≡ b % 2 = same-digit (a % 2) (b % 2) (mod-lt a two_pos) (mod-lt b two_pos) (sym (bit-zero a) ∙ e zero (zero-lt-suc n) ∙ bit-zero b) in
    let q : a / 2 ≡ b / 2 =
    ext_below n (a / 2) (b / 2) (omega (arith, pow-suc 2 n)) (omega (arith, pow-suc 2 n))
    (λ k h. sym (bit-suc a k) ∙ e (suc k) (suc-le-suc h) ∙ bit-suc b k) in
    omega arith

below-pow : (n : ℕ) → n < 2 ^ n
below-pow zero = zero-lt-suc zero
below-pow (suc n) = omega (arith, below-pow n, pow-suc 2 n)

pub ext : (a b : ℕ) → ((k : ℕ) → bit a k ≡ bit b k) → a ≡ b
ext a b e =
    ext_below (a + b) a b
    (lt_of_lt_of_le (below-pow a) (pow_mono (omega arith)))
    (lt_of_lt_of_le (below-pow b) (pow_mono (omega arith)))
    (λ k h. e k)
