-- A node that is absorbed: the root of the net in which g is y serves for the root of the net. Assumes nothing.
use Rattle.std.specs.Prelude.{ℕ, ◌≡◌, Bool, true, false, not, eqb}
use Rattle.std.proofs.Math.Path.{refl, sym}
use Rattle.std.proofs.Common.{◌∙◌, ap, eqb-true}
use Rattle.words.specs.Logic.{tests}
use Rattle.words.proofs.Logic.{by_bool, clash, and_both, or_cases, or_right, not-not}
use Rattle.words.specs.Word.{bit}
use Rattle.formula.specs.Assignment.{Assignment, assign, only}
use Rattle.formula.proofs.Assignment.{assign-same, assign_other, assign_self, by_value}
use Rattle.formula.specs.Formula.{Formula, truth, free}
use Rattle.formula.proofs.Formula.{coincide}
use Rattle.formula.proofs.Over.{over-free}
use Rattle.net.specs.Net.{Reads, Binds, Net, meaning, value, frees, Ordered, at_reads, at-binds, replace, replace-here, replace-other, ordered-replace}
use Rattle.net.specs.Stands.{Serves}
use Rattle.absorb.specs.Absorb.{Turns, Absorb}
use Rattle.absorb.specs.Follow.{Zigzag, over_follow, alike, follow, Fewer, alike_free, follow_free, Same, Shift, spares_keeps, double_assign, outside, outside-free}

-- some value of y gives v the truth t
turned : (y : ℕ) (v : Assignment → Bool) → Turns y v → (σ : Assignment) (t : Bool) → (b : Bool) × (v (assign σ y b) ≡ t)
turned y v f σ t =
    by_value t (v (assign σ y true))
    (λ e. (true, e))
    (λ e. (false, sym (not-not (v (assign σ y false))) ∙ ap not (sym (f σ) ∙ e) ∙ not-not t))

-- σ with y set to v is a bijection of the assignments beside a mask that has y
turn_zigzag : (y : ℕ) (v : Assignment → Bool) → Turns y v → (m : ℕ) → bit m y ≡ true → Zigzag Same (Shift y v) m
turn_zigzag y v f m h =
    record {
      forth = λ σ τ α r b. (assign α y (v α), λ k i. assign_other α y (v α) k (other k i) ∙ b k i ∙ ap (λ (γ : Assignment). γ k) r, refl);
      back = λ σ τ β r b.
          let c = turned y v f β (β y) in (
            assign β y c.0,
            λ k i. assign_other β y c.0 k (other k i) ∙ b k i ∙ sym (ap (λ (γ : Assignment). γ k) r),
            sym (rw c.1 (double_assign β y c.0 (β y) ∙ assign_self β y (β y) refl)),
          );
    }
  where
    other : (k : ℕ) → bit m k ≡ false → eqb k y ≡ false
    other k i = by_bool (eqb k y) (λ e. clash (bit m y) h (rw (eqb-true k y e) at i)) (λ e. e)

-- ---- the net in which g is y

module _ {N : Net} {root g y : ℕ} (A : Absorb N root g y) where
  abbrev M : Net
  M = replace N g (Reads y)

  abbrev q : ℕ
  q = A.binder

  pub absorb_ordered : Ordered (replace N g (Reads y))
  absorb_ordered = ordered-replace N g (Reads y) A.ordered tt

  abbrev inner : ℕ → Bool
  inner = A.inside.inner

  same : (k : ℕ) → eqb k g ≡ false → M k ≡ N k
  same k e = replace-other N g (Reads y) k e

  -- below q it has under σ[y := g's value] the value that the old one has under σ
  inner-value : (k : ℕ) → inner k ≡ true → (σ : Assignment) → value N k σ ≡ value M k (assign σ y (value N g σ))
  unfolding truth
  inner-value k i σ =
      follow N M A.ordered absorb_ordered inner (Shift y (value N g))
      (λ j t h. by_bool (eqb j g)
      (λ e. rw (eqb-true j g e) (λ α β r.
      sym (ap (λ (f : Formula). truth f β) (at_reads absorb_ordered (replace-here N g (Reads y))) ∙ rw r (assign-same α y (value N g α)))))
      (λ e. alike N M A.ordered absorb_ordered inner (Shift y (value N g)) j (same j e) (A.inside.names j t e)
      (spares_keeps y (value N g) (frees N g) (λ α β s. coincide (meaning N g) α β s) (N j) (A.inside.spares j t e)) h))
      k i σ (assign σ y (value N g σ)) refl

  -- and no variable more, but y
  inner-free : (k : ℕ) → inner k ≡ true → Fewer N M (only y) k
  unfolding free
  inner-free =
      follow_free N M A.ordered absorb_ordered inner (only y)
      (λ j t h. by_bool (eqb j g)
      (λ e. rw (eqb-true j g e) (λ x s. or_right (frees N g x) (eqb x y) (sym (ap (λ (f : Formula). free f x) (at_reads absorb_ordered (replace-here N g (Reads y)))) ∙ s)))
      (λ e. alike_free N M A.ordered absorb_ordered inner (only y) j (same j e) (A.inside.names j t e) h))

  above : eqb q g ≡ false
  above = by_bool (eqb q g) (λ e. absurd (omega (tests, A.below))) (λ e. e)

  there : M q ≡ Binds A.decider A.mask A.body
  there = same q above ∙ A.binds

  -- so the quantifier has the value that it had
  quantifier-value : (σ : Assignment) → value N q σ ≡ value M q σ
  quantifier-value σ =
      ap (λ (f : Formula). truth f σ) (at-binds A.ordered A.binds)
      ∙ over_follow A.decider (meaning N A.body) (meaning M A.body) σ σ (turn_zigzag y (value N g) A.turns A.mask A.holds)
      (λ α β r. rw r (inner-value A.body A.inside.enters α)) refl
      ∙ sym (ap (λ (f : Formula). truth f σ) (at-binds absorb_ordered there))

  quantifier-free : (x : ℕ) → frees M q x ≡ true → frees N q x ≡ true
  quantifier-free x i =
      let c = and_both (frees M A.body x) (not (bit A.mask x))
      (sym (ap (λ (f : Formula). free f x) (at-binds absorb_ordered there) ∙ over-free A.decider A.mask (meaning M A.body) x) ∙ i) in
      ap (λ (f : Formula). free f x) (at-binds A.ordered A.binds) ∙ over-free A.decider A.mask (meaning N A.body) x
      ∙ or_cases (frees N A.body x) (eqb x y) (inner-free A.body A.inside.enters x c.0)
      (λ e. rw (e, c.1))
      (λ e. clash false (rw (eqb-true x y e, A.holds) at c.1) refl)

  away : (k : ℕ) → A.outside.outer k ≡ true → eqb k g ≡ false
  away k i = by_bool (eqb k g) (λ e. clash (A.outside.outer g) (rw (eqb-true k g e) at i) A.outside.hidden) (λ e. e)

  -- and the root has its truth, and no free variable more
  pub absorb_serves : Serves (meaning N root) (meaning (replace N g (Reads y)) root)
  absorb_serves =
      record {
        same = λ σ. sym (outside N M A.ordered absorb_ordered A.outside.outer q A.outside.names (λ k i e. same k (away k i)) quantifier-value root A.outside.enters σ);
        fewer = outside-free N M A.ordered absorb_ordered A.outside.outer q A.outside.names (λ k i e. same k (away k i)) quantifier-free root A.outside.enters;
      }
