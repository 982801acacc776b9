-- The free variables below n as a word, kind by kind, and the bound on them. Assumes nothing.
use Rattle.std.specs.Prelude.{ℕ, ◌^◌, ◌<◌, ◌≡◌, refl, Bool, true, false, not, ◌&&◌, ◌||◌, eqb, ltb}
use Rattle.std.proofs.Common.{sym, ◌∙◌, eqb-true, lt-ltb}
use Rattle.std.proofs.Math.Bool.{and-false}
use Rattle.std.specs.Int.Bits.{bit_or}
use Rattle.words.proofs.Logic.{by_bool, clash, and_both, or_cases}
use Rattle.words.proofs.Bits.{bit-or, bit-none, bit-pow, ext}
use Rattle.words.specs.Mask.{without, range_mask}
use Rattle.words.proofs.Mask.{bit-without, bit-range_mask}
use Rattle.formula.specs.Assignment.{within}
use Rattle.formula.specs.Formula.{Formula, never, input, neg, gate, quant, free}
use Rattle.formula.specs.Ask.{free_mask, Bounded}
use Rattle.formula.proofs.Ask.{bit-free_mask}

pub free_mask-never : (n : ℕ) → free_mask n never ≡ 0
unfolding free
free_mask-never n = ext (free_mask n never) 0 (λ k. bit-free_mask n never k ∙ and-false (ltb k n) ∙ sym (bit-none k))

pub free_mask-input : (n x : ℕ) → x < n → free_mask n (input x) ≡ 2 ^ x
unfolding free
free_mask-input n x h =
    ext (free_mask n (input x)) (2 ^ x)
    (λ k. bit-free_mask n (input x) k
    ∙ by_bool (eqb k x) (λ e. rw (e, eqb-true k x e, lt-ltb x n h)) (λ e. rw e (and-false (ltb k n)))
    ∙ sym (bit-pow x k))

pub free_mask-neg : (n : ℕ) (f : Formula) → free_mask n (neg f) ≡ free_mask n f
unfolding free free_mask
free_mask-neg n f = refl

pub free_mask-gate : (n : ℕ) (d : Bool) (f g : Formula) → free_mask n (gate d f g) ≡ bit_or (free_mask n f) (free_mask n g)
unfolding free
free_mask-gate n d f g =
    ext (free_mask n (gate d f g)) (bit_or (free_mask n f) (free_mask n g))
    (λ k. simp (bit-or, bit-free_mask) (spread (ltb k n) (free f k) (free g k)))
  where
    spread : (t a b : Bool) → (t && (a || b)) ≡ (t && a) || (t && b)
    spread true a b = refl
    spread false a b = refl

pub free_mask-quant : (n : ℕ) (d : Bool) (b c : ℕ) (f : Formula) → free_mask n (quant d b c f) ≡ without (free_mask n f) (range_mask b c)
unfolding free within
free_mask-quant n d b c f =
    ext (free_mask n (quant d b c f)) (without (free_mask n f) (range_mask b c))
    (λ k. simp (bit-without, bit-range_mask, bit-free_mask) (assoc (ltb k n) (free f k) (not (within b c k))))
  where
    assoc : (t a b : Bool) → (t && (a && b)) ≡ (t && a) && b
    assoc true a b = refl
    assoc false a b = refl

-- ---- the bound

pub bounded-never : (n : ℕ) → Bounded n never
unfolding free
bounded-never n = record { below = λ k e. clash false e refl }

pub bounded-input : (n x : ℕ) → x < n → Bounded n (input x)
unfolding free
bounded-input n x h = record { below = λ k e. rw (eqb-true k x e) h }

pub bounded-neg : {n : ℕ} {f : Formula} → Bounded n f → Bounded n (neg f)
unfolding free
bounded-neg B = record { below = B.below }

pub bounded-gate : {n : ℕ} {f g : Formula} (d : Bool) → Bounded n f → Bounded n g → Bounded n (gate d f g)
unfolding free
bounded-gate {n} {f} {g} d B C = record { below = λ k e. or_cases (free f k) (free g k) e (B.below k) (C.below k) }

pub bounded-quant : {n : ℕ} {f : Formula} (d : Bool) (b c : ℕ) → Bounded n f → Bounded n (quant d b c f)
unfolding free
bounded-quant {n} {f} d b c B = record { below = λ k e. B.below k (and_both (free f k) (not (within b c k)) e).0 }
