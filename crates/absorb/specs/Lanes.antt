-- Lanes: a cone of nodes over y and n side nodes, evaluated for all their values at once, one bit of a word for each. Assumes nothing.
use Rattle.std.specs.Prelude.{ℕ, zero, suc, ◌/◌, ◌%◌, ◌^◌, ◌<◌, ◌≡◌, refl, Bool, true, false, ◌&&◌, eqb}
use Rattle.std.proofs.Common.{arith, pow-suc, ◌∙◌, eqb-true, eq-eqb, lt-ltb, one-add}
use Rattle.std.proofs.Math.Path.{sym, ap, ap₂}
use Rattle.std.proofs.Math.Bool.{not}
use Rattle.std.specs.Bool.{beq}
use Rattle.std.specs.Int.Bits.{bit_and, bit_xor}
use Rattle.words.specs.Logic.{tests}
use Rattle.words.proofs.Logic.{by_bool, clash, and_both}
use Rattle.words.specs.Word.{bit, xorb}
use Rattle.words.proofs.Bits.{bit-and, bit-xor, bit-zero, bit-suc, bit_shr}
use Rattle.words.specs.Mask.{mask_of}
use Rattle.words.proofs.Mask.{mask_of-lt, bit-mask_of}
use Rattle.formula.specs.Assignment.{Assignment, assign, join}
use Rattle.formula.proofs.Assignment.{assign-same, assign_other}
use Rattle.formula.specs.Formula.{Formula, truth}
use Rattle.formula.proofs.Formula.{coincide}
use Rattle.net.specs.Net.{Fixed, Reads, Flips, Joins, Net, meaning, value, frees, Ordered, fit_at, at_fixed, at_reads, at_flips, at-joins, upward}
use Rattle.absorb.specs.Absorb.{Turns}
use Rattle.absorb.specs.Cone.{pattern}

-- the word of a cone's node: y's is bit 0 of the lane's number, side i's is bit i + 1, a gate's is made of words of the cone
pub data Lane (N : Net) (y n : ℕ) (sides : ℕ → ℕ) (W : ℕ → ℕ) (cone : ℕ → Bool) (k : ℕ) : Type 0 where
  variable : N k ≡ Reads y → ((j : ℕ) → j < 2 ^ suc n → bit (W k) j ≡ bit j 0) → Lane N y n sides W cone k
  side : (i : ℕ) → i < n → k ≡ sides i → ((j : ℕ) → j < 2 ^ suc n → bit (W k) j ≡ bit j (suc i)) → Lane N y n sides W cone k
  constant : (v : Bool) → N k ≡ Fixed v → ((j : ℕ) → j < 2 ^ suc n → bit (W k) j ≡ v) → Lane N y n sides W cone k
  opposite : (a : ℕ) → N k ≡ Flips a → cone a ≡ true → ((j : ℕ) → j < 2 ^ suc n → bit (W k) j ≡ not (bit (W a) j)) → Lane N y n sides W cone k
  joined : (d : Bool) (a b : ℕ) → N k ≡ Joins d a b → cone a ≡ true → cone b ≡ true
      → ((j : ℕ) → j < 2 ^ suc n → bit (W k) j ≡ join d (bit (W a) j) (bit (W b) j)) → Lane N y n sides W cone k

-- lane j has σ's values of y and of the side nodes
pub record Fits (N : Net) (y n : ℕ) (sides : ℕ → ℕ) (σ : Assignment) (j : ℕ) : Type 0 where
  pub below : j < 2 ^ suc n
  pub at-variable : σ y ≡ bit j 0
  pub at_side : (i : ℕ) → i < n → value N (sides i) σ ≡ bit j (suc i)

module _ (N : Net) (o : Ordered N) (y n : ℕ) (sides : ℕ → ℕ) (W : ℕ → ℕ) (cone : ℕ → Bool)
    (lanes : (k : ℕ) → cone k ≡ true → Lane N y n sides W cone k) where
  lane-step : (σ : Assignment) (j : ℕ) → Fits N y n sides σ j → (k : ℕ) → Lane N y n sides W cone k
      → ((i : ℕ) → i < k → cone i ≡ true → value N i σ ≡ bit (W i) j) → value N k σ ≡ bit (W k) j
  unfolding truth
  lane-step σ j f k (variable e w) h = ap (λ (g : Formula). truth g σ) (at_reads o e) ∙ f.at-variable ∙ sym (w j f.below)
  lane-step σ j f k (side i l e w) h = rw e (f.at_side i l) ∙ sym (w j f.below)
  lane-step σ j f k (constant v e w) h = at_fixed o e σ ∙ sym (w j f.below)
  lane-step σ j f k (opposite a e c w) h = ap (λ (g : Formula). truth g σ) (at_flips o e) ∙ ap not (h a (fit_at o e) c) ∙ sym (w j f.below)
  lane-step σ j f k (joined d a b e c c' w) h =
      ap (λ (g : Formula). truth g σ) (at-joins o e) ∙ ap₂ (join d) (h a (fit_at o e).0 c) (h b (fit_at o e).1 c') ∙ sym (w j f.below)

  -- the bit of a node's word at a lane that fits is its value
  pub lane-value : (σ : Assignment) (j : ℕ) → Fits N y n sides σ j → (k : ℕ) → cone k ≡ true → value N k σ ≡ bit (W k) j
  lane-value σ j f = upward (λ k. cone k ≡ true → value N k σ ≡ bit (W k) j) (λ k h c. lane-step σ j f k (lanes k c) h)

-- ---- each assignment has a lane

unfoldable pub lane_bits : Net → ℕ → (ℕ → ℕ) → Assignment → ℕ → Bool
lane_bits N y sides σ zero = σ y
lane_bits N y sides σ (suc i) = value N (sides i) σ

unfoldable pub lane_of : Net → ℕ → ℕ → (ℕ → ℕ) → Assignment → ℕ
lane_of N y n sides σ = mask_of (suc n) (lane_bits N y sides σ)

pub lane-fits : (N : Net) (y n : ℕ) (sides : ℕ → ℕ) (σ : Assignment) → Fits N y n sides σ (lane_of N y n sides σ)
unfolding lane_of lane_bits
lane-fits N y n sides σ =
    record {
      below = mask_of-lt (suc n) (lane_bits N y sides σ);
      at-variable = sym (bit-mask_of (suc n) (lane_bits N y sides σ) zero ∙ rw (lt-ltb zero (suc n) (omega arith)));
      at_side = λ i l. sym (bit-mask_of (suc n) (lane_bits N y sides σ) (suc i) ∙ rw (lt-ltb (suc i) (suc n) (omega arith)));
    }

-- ---- the test: the word of g at lane j + 1 is the other of that at j, for every even j

even-digit : (j : ℕ) → bit j 0 ≡ false → j % 2 ≡ 0
even-digit j e = go (j % 2) (omega arith) (sym (bit-zero j) ∙ e)
  where
    go : (x : ℕ) → x < 2 → eqb x 1 ≡ false → x ≡ 0
    go x l e = omega tests

even-half : (j : ℕ) → bit j 0 ≡ false → suc j / 2 ≡ j / 2
even-half j e = omega (arith, even-digit j e)

odd_next : (j : ℕ) → bit j 0 ≡ false → bit (suc j) 0 ≡ true
odd_next j e = bit-zero (suc j) ∙ eq-eqb (suc j % 2) 1 (omega (arith, even-digit j e))

even-below : (n j : ℕ) → bit j 0 ≡ false → j < 2 ^ suc n → suc j < 2 ^ suc n
even-below n j e l = omega (arith, even-digit j e, pow-suc 2 n)

module _ (N : Net) (o : Ordered N) (y n : ℕ) (sides : ℕ → ℕ) (W : ℕ → ℕ) (cone : ℕ → Bool)
    (lanes : (k : ℕ) → cone k ≡ true → Lane N y n sides W cone k)
    (unread : (i : ℕ) → i < n → frees N (sides i) y ≡ false) where
  -- y set to true moves to the next lane
  next_fits : (σ : Assignment) (j : ℕ) → Fits N y n sides (assign σ y false) j → Fits N y n sides (assign σ y true) (suc j)
  next_fits σ j f =
      let e : bit j 0 ≡ false = sym f.at-variable ∙ assign-same σ y false in
      record {
        below = even-below n j e f.below;
        at-variable = assign-same σ y true ∙ sym (odd_next j e);
        at_side = λ i l.
            coincide (meaning N (sides i)) (assign σ y true) (assign σ y false)
            (λ k t. let h : eqb k y ≡ false = by_bool (eqb k y) (λ q. clash (frees N (sides i) k) t (rw (eqb-true k y q) (unread i l))) (λ q. q) in
            assign_other σ y true k h ∙ sym (assign_other σ y false k h))
            ∙ f.at_side i l ∙ bit-suc j i ∙ ap (λ (x : ℕ). bit x i) (sym (even-half j e)) ∙ sym (bit-suc (suc j) i);
      }

  pub lanes_turn : (g : ℕ) → cone g ≡ true → ((j : ℕ) → j < 2 ^ suc n → bit j 0 ≡ false → bit (W g) (suc j) ≡ not (bit (W g) j)) → Turns y (value N g)
  lanes_turn g c test σ =
      let j = lane_of N y n sides (assign σ y false) in
      let f = lane-fits N y n sides (assign σ y false) in
      lane-value N o y n sides W cone lanes (assign σ y true) (suc j) (next_fits σ j f) g c
      ∙ test j f.below (sym f.at-variable ∙ assign-same σ y false)
      ∙ ap not (sym (lane-value N o y n sides W cone lanes (assign σ y false) j f g c))

-- ---- words of 64 lanes: y and five side nodes

-- p holds below n
unfoldable every : ℕ → (ℕ → Bool) → Bool
every zero p = true
every (suc n) p = p n && every n p

every-below : (n : ℕ) (p : ℕ → Bool) → every n p ≡ true → (j : ℕ) → j < n → p j ≡ true
unfolding every
every-below zero p e j l = absurd (omega arith)
every-below (suc n) p e j l =
    let h = and_both (p n) (every n p) e in
    by_bool (eqb j n) (λ i. rw (eqb-true j n i) h.0) (λ i. every-below n p h.1 j (omega tests))

pub beq_same : (a b : Bool) → beq a b ≡ true → a ≡ b
beq_same true true e = refl
beq_same true false e = clash false e refl
beq_same false true e = clash false e refl
beq_same false false e = refl

-- a pattern has that bit at each of the 64 lanes
pub bit-pattern : (i j : ℕ) → i < 6 → j < 64 → bit (pattern i) j ≡ bit j i
unfolding pattern bit every
bit-pattern zero j h l = beq_same _ _ (every-below 64 (λ k. beq (bit (pattern 0) k) (bit k 0)) refl j l)
bit-pattern (suc zero) j h l = beq_same _ _ (every-below 64 (λ k. beq (bit (pattern 1) k) (bit k 1)) refl j l)
bit-pattern (suc (suc zero)) j h l = beq_same _ _ (every-below 64 (λ k. beq (bit (pattern 2) k) (bit k 2)) refl j l)
bit-pattern (suc (suc (suc zero))) j h l = beq_same _ _ (every-below 64 (λ k. beq (bit (pattern 3) k) (bit k 3)) refl j l)
bit-pattern (suc (suc (suc (suc zero)))) j h l = beq_same _ _ (every-below 64 (λ k. beq (bit (pattern 4) k) (bit k 4)) refl j l)
bit-pattern (suc (suc (suc (suc (suc zero))))) j h l = beq_same _ _ (every-below 64 (λ k. beq (bit (pattern 5) k) (bit k 5)) refl j l)
bit-pattern (suc (suc (suc (suc (suc (suc i)))))) j h l = absurd (omega arith)

abbrev pub evens : ℕ
evens = 0x5555_5555_5555_5555

bit-evens : (j : ℕ) → j < 64 → bit evens j ≡ not (bit j 0)
unfolding bit every
bit-evens j l = beq_same _ _ (every-below 64 (λ k. beq (bit evens k) (not (bit k 0))) refl j l)

-- `(w ^ (w >> 1)) & 0x5555555555555555 == 0x5555555555555555`
pub turn_test : (w : ℕ) → bit_and (bit_xor w (w / 2 ^ 1)) evens ≡ evens → (j : ℕ) → j < 2 ^ 6 → bit j 0 ≡ false → bit w (suc j) ≡ not (bit w j)
turn_test w e j l h =
    let t : bit evens j ≡ true = bit-evens j l ∙ ap not h in
    go (bit w j) (bit w (suc j))
    (ap (λ (x : Bool). xorb (bit w j) x) (ap (bit w) (sym (one-add j)) ∙ sym (bit_shr w 1 j))
    ∙ sym (bit-xor w (w / 2 ^ 1) j)
    ∙ (and_both (bit (bit_xor w (w / 2 ^ 1)) j) (bit evens j) (sym (bit-and (bit_xor w (w / 2 ^ 1)) evens j) ∙ ap (λ (x : ℕ). bit x j) e ∙ t)).0)
  where
    go : (a b : Bool) → xorb a b ≡ true → b ≡ not a
    go true true e = clash false e refl
    go true false e = refl
    go false true e = refl
    go false false e = clash false e refl
