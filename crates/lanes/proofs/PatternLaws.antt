-- The patterns are right, lane by lane, and the halves that the code makes are halves. Assumes nothing.
use Rattle.std.specs.Prelude.{ℕ, zero, suc, ◌+◌, ◌-◌, ◌*◌, ◌/◌, ◌%◌, ◌^◌, ◌≤◌, ◌<◌, ◌≡◌, refl, Bool, true, false, not, cond, ◌&&◌, ◌||◌, eqb, leb}
use Rattle.std.proofs.Common.{arith, mod-lt, lt_of_le_of_lt, sym, ◌∙◌, ap, pow_pos, eqb-true, lt-ltb}
use Rattle.std.specs.Bool.{beq}
use Rattle.std.proofs.Math.Bool.{and-true, and-false}
use Rattle.std.proofs.Math.Pow.{pow-lt}
use Rattle.std.proofs.lemmas.Nat.{and_mask, and_le_r, or_lt}
use Rattle.words.specs.Logic.{tests}
use Rattle.words.proofs.Logic.{by_bool, clash, and_both, not-not, not_flip}
use Rattle.words.specs.Word.{bit}
use Rattle.words.proofs.Bits.{bit-and, bit-or, bit_shr, bit_shl, bit-ones}
use Rattle.words.specs.Mask.{put, without}
use Rattle.lanes.specs.Pattern.{low, Half, part, copied}

-- every q l for l below n
unfoldable every : ℕ → (ℕ → Bool) → Bool
every zero q = true
every (suc n) q = every n q && q n

every-at : (n : ℕ) (q : ℕ → Bool) → every n q ≡ true → (l : ℕ) → l < n → q l ≡ true
unfolding every
every-at zero q e l h = absurd (omega arith)
every-at (suc n) q e l h =
    let b = and_both (every n q) (q n) e in
    by_bool (eqb l n)
    (λ i. rw (eqb-true l n i) b.1)
    (λ i. every-at n q b.0 l (omega tests))

beq-true : (a b : Bool) → beq a b ≡ true → a ≡ b
beq-true true true e = refl
beq-true true false e = clash false e refl
beq-true false true e = clash false e refl
beq-true false false e = refl

low_test : ℕ → ℕ → Bool
low_test p l = beq (bit (low p) l) (not (bit l p))

low_tests : every 6 (λ p. every 64 (low_test p)) ≡ true
unfolding every low bit low_test
low_tests = refl

pub bit-low : (p l : ℕ) → p < 6 → l < 64 → bit (low p) l ≡ not (bit l p)
unfolding low_test
bit-low p l h i = beq-true _ _ (every-at 64 (low_test p) (every-at 6 (λ p. every 64 (low_test p)) low_tests p h) l i)

low_small : (p : ℕ) → low p < 2 ^ 64
unfolding low
low_small p =
    by_bool (eqb p 0) (λ e. rw e (omega arith))
    (λ e0. by_bool (eqb p 1) (λ e. rw (e0, e) (omega arith))
    (λ e1. by_bool (eqb p 2) (λ e. rw (e0, e1, e) (omega arith))
    (λ e2. by_bool (eqb p 3) (λ e. rw (e0, e1, e2, e) (omega arith))
    (λ e3. by_bool (eqb p 4) (λ e. rw (e0, e1, e2, e3, e) (omega arith))
    (λ e4. by_bool (eqb p 5) (λ e. rw (e0, e1, e2, e3, e4, e) (omega arith)) (λ e. rw (e0, e1, e2, e3, e4, e) (omega arith)))))))

-- ---- a lane with one position set, as sums

abbrev low-is : ℕ → ℕ → Bool
low-is p l = eqb (put l p false) (cond (bit l p) (l - 2 ^ p) l)

abbrev high_is : ℕ → ℕ → Bool
high_is p l = eqb (put l p true) (cond (bit l p) l (2 ^ p + l))

abbrev other-is : ℕ → ℕ → Bool
other-is p l = cond (leb (2 ^ p) l) (beq (bit (l - 2 ^ p) p) (not (bit l p))) (not (bit l p))

abbrev put_test : ℕ → ℕ → Bool
put_test p l = low-is p l && (high_is p l && other-is p l)

put_tests : every 6 (λ p. every 64 (λ l. put_test p l)) ≡ true
unfolding every bit put without
put_tests = refl

module _ (p l : ℕ) (h : p < 6) (i : l < 64) where
  tested : put_test p l ≡ true
  tested = every-at 64 (λ l. put_test p l) (every-at 6 (λ p. every 64 (λ l. put_test p l)) put_tests p h) l i

  rest-tested : (high_is p l && other-is p l) ≡ true
  rest-tested = (and_both (low-is p l) (high_is p l && other-is p l) tested).1

  put_low : put l p false ≡ cond (bit l p) (l - 2 ^ p) l
  put_low = eqb-true _ _ (and_both (low-is p l) (high_is p l && other-is p l) tested).0

  put-high : put l p true ≡ cond (bit l p) l (2 ^ p + l)
  put-high = eqb-true _ _ (and_both (high_is p l) (other-is p l) rest-tested).0

  put_other : other-is p l ≡ true
  put_other = (and_both (high_is p l) (other-is p l) rest-tested).1

-- ---- the half of a word

bit-part : (t p : ℕ) (b : Bool) (l : ℕ) → bit (part t p b) l ≡ bit t (cond b (2 ^ p + l) l) && bit (low p) l
unfolding part
bit-part t p true l = bit-and _ _ l ∙ ap (λ (x : Bool). x && bit (low p) l) (bit_shr t (2 ^ p) l)
bit-part t p false l = bit-and _ _ l

bit_wrapped : (x n k : ℕ) → k < n → bit (x % 2 ^ n) k ≡ bit x k
bit_wrapped x n k h =
    ap (λ (y : ℕ). bit y k) (sym (and_mask x n)) ∙ bit-and x (2 ^ n - 1) k ∙ ap (λ (y : Bool). bit x k && y) (bit-ones n k ∙ lt-ltb k n h) ∙ and-true (bit x k)

bit-copied : (h p l : ℕ) → l < 64 → bit (copied h p) l ≡ bit h l || (leb (2 ^ p) l && bit h (l - 2 ^ p))
unfolding copied
bit-copied h p l i = bit-or h _ l ∙ ap (λ (y : Bool). bit h l || y) (bit_wrapped (h * 2 ^ (2 ^ p)) 64 l i ∙ bit_shl h (2 ^ p) l)

or-none : (a b : Bool) → b ≡ false → a || b ≡ a
or-none true b e = refl
or-none false b e = e

part-lt : (t p : ℕ) (b : Bool) → part t p b < 2 ^ 64
unfolding part
part-lt t p true = lt_of_le_of_lt (and_le_r (t / 2 ^ (2 ^ p)) (low p)) (low_small p)
part-lt t p false = lt_of_le_of_lt (and_le_r t (low p)) (low_small p)

copied-lt : (h p : ℕ) → h < 2 ^ 64 → copied h p < 2 ^ 64
unfolding copied
copied-lt h p i = or_lt 64 h _ i (mod-lt _ (pow_pos 64))

module _ (t p : ℕ) (b : Bool) (h : p < 6) (l : ℕ) (i : l < 64) where
  abbrev at : ℕ → ℕ
  at k = cond b (2 ^ p + k) k

  here : bit (part t p b) l ≡ bit t (at l) && not (bit l p)
  here = bit-part t p b l ∙ ap (λ (y : Bool). bit t (at l) && y) (bit-low p l h i)

  above : leb (2 ^ p) l ≡ true → bit (part t p b) (l - 2 ^ p) ≡ bit t (at (l - 2 ^ p)) && bit l p
  above q =
      let e : beq (bit (l - 2 ^ p) p) (not (bit l p)) ≡ true = rw q at (put_other p l h i) in
      bit-part t p b (l - 2 ^ p)
      ∙ ap (λ (y : Bool). bit t (at (l - 2 ^ p)) && y) (bit-low p (l - 2 ^ p) h (omega arith) ∙ ap not (beq-true (bit (l - 2 ^ p) p) (not (bit l p)) e) ∙ not-not (bit l p))

  reached : bit l p ≡ true → leb (2 ^ p) l ≡ true
  reached e = by_bool (leb (2 ^ p) l) (λ q. q) (λ q. clash (bit l p) e (not_flip (bit l p) true (rw q at (put_other p l h i))))

  at_clear : bit l p ≡ false → (b : Bool) → cond b (2 ^ p + l) l ≡ put l p b
  at_clear e true = sym (put-high p l h i ∙ rw e)
  at_clear e false = sym (put_low p l h i ∙ rw e)

  at_set : bit l p ≡ true → 2 ^ p ≤ l → (b : Bool) → cond b (2 ^ p + (l - 2 ^ p)) (l - 2 ^ p) ≡ put l p b
  at_set e q true = let z : 2 ^ p + (l - 2 ^ p) ≡ l = omega arith in z ∙ sym (put-high p l h i ∙ rw e)
  at_set e q false = sym (put_low p l h i ∙ rw e)

  half-bits : bit (copied (part t p b) p) l ≡ bit t (put l p b)
  half-bits = bit-copied (part t p b) p l i ∙ by_bool (bit l p) set clear
    where
      clear : bit l p ≡ false → (bit (part t p b) l || (leb (2 ^ p) l && bit (part t p b) (l - 2 ^ p))) ≡ bit t (put l p b)
      clear e =
          let z : (leb (2 ^ p) l && bit (part t p b) (l - 2 ^ p)) ≡ false =
          by_bool (leb (2 ^ p) l) (λ q. rw q (above q ∙ rw e (and-false (bit t (at (l - 2 ^ p)))))) (λ q. rw q) in
          or-none (bit (part t p b) l) (leb (2 ^ p) l && bit (part t p b) (l - 2 ^ p)) z
          ∙ here ∙ rw e (and-true (bit t (at l))) ∙ ap (bit t) (at_clear e b)

      set : bit l p ≡ true → (bit (part t p b) l || (leb (2 ^ p) l && bit (part t p b) (l - 2 ^ p))) ≡ bit t (put l p b)
      set e =
          let q = reached e in
          let z : bit (part t p b) l ≡ false = here ∙ rw e (and-false (bit t (at l))) in
          let y : bit (part t p b) (l - 2 ^ p) ≡ bit t (at (l - 2 ^ p)) = above q ∙ rw e (and-true (bit t (at (l - 2 ^ p)))) in
          rw (z, q, y) (ap (bit t) (at_set e (omega tests) b))

pub half-copied : (t p : ℕ) (b : Bool) → p < 6 → Half t p b (copied (part t p b) p)
half-copied t p b h = record { bits = half-bits t p b h; small = copied-lt (part t p b) p (part-lt t p b) }

-- two lanes that differ in one position are less than 64 apart
pub stride_lt : (p : ℕ) → p < 6 → 2 ^ p < 64
stride_lt p h = pow-lt h
