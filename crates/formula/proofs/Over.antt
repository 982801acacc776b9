-- Quantification over a mask: some, or every, assignment that differs only in the variables of the mask. Assumes nothing.
use Rattle.std.specs.Prelude.{ℕ, zero, suc, ◌^◌, ◌<◌, ◌≡◌, refl, Bool, true, false, not, cond, ◌&&◌, ◌||◌, eqb, ltb}
use Rattle.std.proofs.Common.{arith, pow-suc, zero-lt-suc, sym, ◌∙◌, eqb-true, lt-ltb, le-ltb}
use Rattle.std.proofs.Math.Bool.{and-true, and-false}
use Rattle.std.specs.Int.Bits.{bit_or}
use Rattle.words.specs.Logic.{tests}
use Rattle.words.proofs.Logic.{by_bool, clash, or-false, and_both}
use Rattle.words.specs.Word.{bit}
use Rattle.words.proofs.Bits.{bit-or, bit_high}
use Rattle.words.specs.Mask.{range_mask}
use Rattle.formula.specs.Assignment.{Assignment, assign, within, On}
use Rattle.formula.proofs.Assignment.{assign-same, assign_other, within-suc, within-zero, sweep_finds, sweep_meets, by_value, differ}
use Rattle.formula.specs.Formula.{Formula, quant, truth, free}
use Rattle.formula.proofs.Formula.{coincide}
use Rattle.formula.specs.Ask.{Bounded}
use Rattle.formula.proofs.ReasonWord.{within-range}
use Rattle.formula.specs.Over.{Beside, blend, over, quants}

-- ---- one variable

within-one : (n k : ℕ) → within n 1 k ≡ eqb k n
within-one n k = within-suc n zero k ∙ rw (within-zero (suc n) k) (by_bool (eqb k n) (λ e. rw e) (λ e. rw e))

-- the places of m below n
part : ℕ → ℕ → ℕ → Bool
part m n k = ltb k n && bit m k

part-zero : (m k : ℕ) → part m zero k ≡ false
unfolding part
part-zero m k = rw (le-ltb k zero (omega arith))

part-suc : (m n k : ℕ) → part m (suc n) k ≡ cond (eqb k n) (bit m n) (part m n k)
unfolding part
part-suc m n k =
    by_bool (eqb k n)
    (λ e. rw (e, lt-ltb k (suc n) (omega tests), eqb-true k n e))
    (λ e. rw e (by_bool (ltb k n)
    (λ h. rw (h, lt-ltb k (suc n) (omega tests)))
    (λ h. rw (h, le-ltb k (suc n) (omega tests)))))

pub below-pow : (n : ℕ) → n < 2 ^ n
below-pow zero = zero-lt-suc zero
below-pow (suc n) = omega (arith, below-pow n, pow-suc 2 n)

part-all : (m k : ℕ) → part m m k ≡ bit m k
unfolding part
part-all m k =
    by_bool (ltb k m)
    (λ e. rw e)
    (λ e. rw (e, bit_high m k (below-pow m) (omega tests)))

-- ---- what the quantifiers of a part mean

abbrev Part : ℕ → ℕ → Assignment → Assignment → Type 0
Part m n τ σ = (k : ℕ) → part m n k ≡ false → τ k ≡ σ k

quants_finds : (d : Bool) (m n : ℕ) (f : Formula) (σ : Assignment) → truth (quants d m n f) σ ≡ d → (τ : Assignment) × Part m n τ σ × (truth f τ ≡ d)
unfolding quants truth part
quants_finds d m zero f σ e = (σ, λ k h. refl, e)
quants_finds d m (suc n) f σ e =
    by_bool (bit m n)
    (λ h.
    let s = sweep_finds d n 1 (truth (quants d m n f)) σ (rw h at e) in
    let t = quants_finds d m n f s.0 s.2 in (
      t.0,
      λ k p. by_bool (eqb k n)
          (λ i. clash (bit m n) h (rw (part-suc m n k, i) at p))
          (λ i. t.1 k (rw (part-suc m n k, i) at p) ∙ s.1 k (within-one n k ∙ i)),
      t.2,
    ))
    (λ h.
    let t = quants_finds d m n f σ (rw h at e) in
    (t.0, λ k p. t.1 k (by_bool (eqb k n) (λ i. rw (part, eqb-true k n i, h) (and-false (ltb n n))) (λ i. rw (part-suc m n k, i) at p)), t.2))

quants_meets : (d : Bool) (m n : ℕ) (f : Formula) (σ τ : Assignment) → Part m n τ σ → truth f τ ≡ d → truth (quants d m n f) σ ≡ d
unfolding quants truth part
quants_meets d m zero f σ τ t e = coincide f σ τ (λ k h. sym (t k (part-zero m k))) ∙ e
quants_meets d m (suc n) f σ τ t e =
    by_bool (bit m n)
    (λ h. rw h (sweep_meets d n 1 (truth (quants d m n f)) σ (assign σ n (τ n))
    (λ k w. assign_other σ n (τ n) k (sym (within-one n k) ∙ w))
    (quants_meets d m n f (assign σ n (τ n)) τ
    (λ k p. by_bool (eqb k n)
    (λ i. rw (eqb-true k n i, assign-same σ n (τ n)))
    (λ i. t k (rw (part-suc m n k, i) p) ∙ sym (assign_other σ n (τ n) k i)))
    e)))
    (λ h. rw h (quants_meets d m n f σ τ (λ k p. t k (by_bool (eqb k n) (λ i. rw (part-suc m n k, i) h) (λ i. rw (part-suc m n k, i) p))) e))

quants-free : (d : Bool) (m n : ℕ) (f : Formula) (k : ℕ) → free (quants d m n f) k ≡ free f k && not (part m n k)
unfolding quants free part
quants-free d m zero f k = rw (part-zero m k) (sym (and-true (free f k)))
quants-free d m (suc n) f k =
    by_bool (bit m n)
    (λ h. rw (h, within-one n k, part-suc m n k) (by_bool (eqb k n)
    (λ i. rw (i, h) (and-false (free (quants d m n f) k) ∙ sym (and-false (free f k))))
    (λ i. rw i (and-true (free (quants d m n f) k) ∙ quants-free d m n f k))))
    (λ h. rw (h, quants-free d m n f k, part-suc m n k) (by_bool (eqb k n)
    (λ i. rw (i, h, rest i h))
    (λ i. rw i)))
  where
    rest : eqb k n ≡ true → bit m n ≡ false → part m n k ≡ false
    rest i h = rw (eqb-true k n i, h) (and-false (ltb n n))

-- ---- what a quantifier over a mask means

module _ (d : Bool) (m : ℕ) (f : Formula) where
  -- decided: by an assignment that differs only in the mask
  pub over_finds : (σ : Assignment) → truth (over d m f) σ ≡ d → (τ : Assignment) × Beside m τ σ × (truth f τ ≡ d)
  unfolding over
  over_finds σ e = let t = quants_finds d m m f σ e in (t.0, λ k h. t.1 k (part-all m k ∙ h), t.2)

  -- and any such assignment decides it
  pub over_meets : (σ τ : Assignment) → Beside m τ σ → truth f τ ≡ d → truth (over d m f) σ ≡ d
  unfolding over
  over_meets σ τ t e = quants_meets d m m f σ τ (λ k h. t k (sym (part-all m k) ∙ h)) e

  -- undecided: by none
  pub over_misses : (σ : Assignment) → truth (over d m f) σ ≡ not d → (τ : Assignment) → Beside m τ σ → truth f τ ≡ not d
  over_misses σ e τ t = by_value d (truth f τ) (λ h. differ d (truth (over d m f) σ) (over_meets σ τ t h) e) (λ h. h)

  pub over-all : (σ : Assignment) → ((τ : Assignment) → Beside m τ σ → truth f τ ≡ not d) → truth (over d m f) σ ≡ not d
  over-all σ h =
      by_value d (truth (over d m f) σ)
      (λ e. let t = over_finds σ e in differ d (truth f t.0) t.2 (h t.0 t.1))
      (λ e. e)

  pub over-free : (k : ℕ) → free (over d m f) k ≡ free f k && not (bit m k)
  unfolding over
  over-free k = quants-free d m m f k ∙ rw (part-all m k)

-- in words, for each kind of quantifier
module _ (m : ℕ) (f : Formula) (σ : Assignment) where
  pub exists-some : truth (over true m f) σ ≡ true → (τ : Assignment) × Beside m τ σ × (truth f τ ≡ true)
  exists-some e = over_finds true m f σ e

  pub some-exists : (τ : Assignment) → Beside m τ σ → truth f τ ≡ true → truth (over true m f) σ ≡ true
  some-exists τ t e = over_meets true m f σ τ t e

  pub forall-every : truth (over false m f) σ ≡ true → (τ : Assignment) → Beside m τ σ → truth f τ ≡ true
  forall-every e τ t = over_misses false m f σ e τ t

  pub every-forall : ((τ : Assignment) → Beside m τ σ → truth f τ ≡ true) → truth (over false m f) σ ≡ true
  every-forall h = over-all false m f σ h

-- ---- equal truths

-- two truths that are d together are equal
pub same-value : (d a b : Bool) → (a ≡ d → b ≡ d) → (b ≡ d → a ≡ d) → a ≡ b
same-value d a b f g =
    by_value d a
    (λ e. e ∙ sym (f e))
    (λ e. by_value d b (λ h. differ d a (g h) e) (λ h. e ∙ sym h))

-- each assignment that decides the one has a partner that decides the other
pub over-same : (d : Bool) (m n : ℕ) (f g : Formula) (σ τ : Assignment)
    → ((α : Assignment) → Beside m α σ → truth f α ≡ d → (β : Assignment) × Beside n β τ × (truth g β ≡ d))
    → ((β : Assignment) → Beside n β τ → truth g β ≡ d → (α : Assignment) × Beside m α σ × (truth f α ≡ d))
    → truth (over d m f) σ ≡ truth (over d n g) τ
over-same d m n f g σ τ forth back =
    same-value d (truth (over d m f) σ) (truth (over d n g) τ)
    (λ e. let a = over_finds d m f σ e in let b = forth a.0 a.1 a.2 in over_meets d n g τ b.0 b.1 b.2)
    (λ e. let b = over_finds d n g τ e in let a = back b.0 b.1 b.2 in over_meets d m f σ a.0 a.1 a.2)

-- ---- a range is a mask

pub over-range : (d : Bool) (b c : ℕ) (f : Formula) (σ : Assignment) → truth (over d (range_mask b c) f) σ ≡ truth (quant d b c f) σ
unfolding truth
over-range d b c f σ =
    same-value d (truth (over d (range_mask b c) f) σ) (truth (quant d b c f) σ)
    (λ e. let t = over_finds d (range_mask b c) f σ e in sweep_meets d b c (truth f) σ t.0 (λ k h. t.1 k (within-range b c k ∙ h)) t.2)
    (λ e. let t = sweep_finds d b c (truth f) σ e in over_meets d (range_mask b c) f σ t.0 (λ k h. t.1 k (sym (within-range b c k) ∙ h)) t.2)

pub over-range-free : (d : Bool) (b c : ℕ) (f : Formula) (k : ℕ) → free (over d (range_mask b c) f) k ≡ free (quant d b c f) k
unfolding free
over-range-free d b c f k = over-free d (range_mask b c) f k ∙ rw (within-range b c k)

pub blend_on : (m : ℕ) (τ σ : Assignment) (k : ℕ) → bit m k ≡ true → blend m τ σ k ≡ τ k
unfolding blend
blend_on m τ σ k e = rw e

pub blend-off : (m : ℕ) (τ σ : Assignment) → Beside m (blend m τ σ) σ
unfolding blend
blend-off m τ σ k e = rw e

pub over-over : (d : Bool) (m n : ℕ) (f : Formula) (σ : Assignment) → truth (over d m (over d n f)) σ ≡ truth (over d (bit_or m n) f) σ
over-over d m n f σ =
    same-value d (truth (over d m (over d n f)) σ) (truth (over d (bit_or m n) f) σ)
    (λ e.
    let a = over_finds d m (over d n f) σ e in
    let b = over_finds d n f a.0 a.2 in
    over_meets d (bit_or m n) f σ b.0
    (λ k h. let p = or-false (bit m k) (bit n k) (sym (bit-or m n k) ∙ h) in b.1 k p.1 ∙ a.1 k p.0) b.2)
    (λ e.
    let t = over_finds d (bit_or m n) f σ e in
    over_meets d m (over d n f) σ (blend m t.0 σ) (blend-off m t.0 σ)
    (over_meets d n f (blend m t.0 σ) t.0
    (λ k h. by_bool (bit m k)
    (λ i. sym (blend_on m t.0 σ k i))
    (λ i. t.1 k (rw (bit-or, i, h)) ∙ sym (blend-off m t.0 σ k i))) t.2))

pub over-over-free : (d : Bool) (m n : ℕ) (f : Formula) (k : ℕ) → free (over d m (over d n f)) k ≡ free (over d (bit_or m n) f) k
over-over-free d m n f k =
    over-free d m (over d n f) k ∙ rw (over-free d n f k, over-free d (bit_or m n) f k, bit-or m n k) (go (free f k) (bit m k) (bit n k))
  where
    go : (a b c : Bool) → (a && not c) && not b ≡ a && not (b || c)
    go true true true = refl
    go true true false = refl
    go true false true = refl
    go true false false = refl
    go false b c = refl

-- over no variable, it is the body
pub over_none : (d : Bool) (f : Formula) → over d 0 f ≡ f
unfolding over quants
over_none d f = refl

-- a variable that is not free in the body may leave the mask, or join it
pub over_reads : (d : Bool) (m n : ℕ) (f : Formula) (σ : Assignment) → ((k : ℕ) → free f k ≡ true → bit m k ≡ bit n k) → truth (over d m f) σ ≡ truth (over d n f) σ
over_reads d m n f σ h =
    over-same d m n f f σ σ
    (λ α a e. (blend n α σ, blend-off n α σ, coincide f (blend n α σ) α (swap m n (λ k i. h k i) α a) ∙ e))
    (λ β b e. (blend m β σ, blend-off m β σ, coincide f (blend m β σ) β (swap n m (λ k i. sym (h k i)) β b) ∙ e))
  where
    swap : (u v : ℕ) → ((k : ℕ) → free f k ≡ true → bit u k ≡ bit v k) → (α : Assignment) → Beside u α σ → On (free f) (blend v α σ) α
    swap u v g α a k i =
        by_bool (bit v k)
        (λ e. blend_on v α σ k e)
        (λ e. blend-off v α σ k e ∙ sym (a k (g k i ∙ e)))

-- what is bound above the free variables of the body is above those of the quantifier
pub bounded-over : {n : ℕ} {f : Formula} (d : Bool) (m : ℕ) → Bounded n f → Bounded n (over d m f)
bounded-over {n} {f} d m B = record { below = λ k e. B.below k (and_both (free f k) (not (bit m k)) (sym (over-free d m f k) ∙ e)).0 }
