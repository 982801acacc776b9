-- g stands for f: the same truth under every assignment, and the same free variables. Reasons and tables of the one are those of the other. g serves for f: the
-- same truth, and no free variable more. Reasons of g are those of f. Assumes nothing.
use Rattle.std.specs.Prelude.{ℕ, ◌≡◌, refl, Bool, true, not, ◌&&◌}
use Rattle.std.proofs.Common.{sym, ◌∙◌, ap}
use Rattle.words.proofs.Logic.{by_bool, and_both}
use Rattle.words.specs.Word.{bit}
use Rattle.words.specs.Mask.{Apart, without}
use Rattle.words.proofs.Mask.{bits_apart, bit-without}
use Rattle.formula.specs.Assignment.{Assignment}
use Rattle.formula.specs.Formula.{Formula, truth, free}
use Rattle.formula.specs.Reason.{Explains}
use Rattle.formula.specs.Over.{over, blend}
use Rattle.formula.proofs.Over.{over-free, over-same, over_meets, over_misses, over-all, blend_on, blend-off}

pub record Stands (f g : Formula) : Type 0 where
  pub same : (σ : Assignment) → truth g σ ≡ truth f σ
  pub reads : (k : ℕ) → free g k ≡ free f k

pub record Serves (f g : Formula) : Type 0 where
  pub same : (σ : Assignment) → truth g σ ≡ truth f σ
  pub fewer : (k : ℕ) → free g k ≡ true → free f k ≡ true

pub stands-refl : (f : Formula) → Stands f f
stands-refl f = record { same = λ σ. refl; reads = λ k. refl }

pub stands_trans : {f g h : Formula} → Stands f g → Stands g h → Stands f h
stands_trans a b = record { same = λ σ. b.same σ ∙ a.same σ; reads = λ k. b.reads k ∙ a.reads k }

pub stands-sym : {f g : Formula} → Stands f g → Stands g f
stands-sym a = record { same = λ σ. sym (a.same σ); reads = λ k. sym (a.reads k) }

pub explains_stands : {f g : Formula} {v : Bool} {r w : Assignment} → Stands f g → Explains g v r w → Explains f v r w
explains_stands s G = record { inside = λ k e. sym (s.reads k) ∙ G.inside k e; forces = λ σ h. sym (s.same σ) ∙ G.forces σ h }

-- quantifiers over formulas that stand for each other do
pub over-stands : {f g : Formula} (d : Bool) (m : ℕ) → Stands f g → Stands (over d m f) (over d m g)
over-stands {f} {g} d m s = record {
  same = λ σ. over-same d m m g f σ σ (λ α b t. (α, b, sym (s.same α) ∙ t)) (λ β b t. (β, b, s.same β ∙ t));
  reads = λ k. over-free d m g k ∙ ap (λ (x : Bool). x && not (bit m k)) (s.reads k) ∙ sym (over-free d m f k);
}

-- ---- what serves

pub stands_serves : {f g : Formula} → Stands f g → Serves f g
stands_serves s = record { same = s.same; fewer = λ k e. sym (s.reads k) ∙ e }

pub serves_trans : {f g h : Formula} → Serves f g → Serves g h → Serves f h
serves_trans a b = record { same = λ σ. b.same σ ∙ a.same σ; fewer = λ k e. a.fewer k (b.fewer k e) }

pub explains_serves : {f g : Formula} {v : Bool} {r w : Assignment} → Serves f g → Explains g v r w → Explains f v r w
explains_serves s G = record { inside = λ k e. s.fewer k (G.inside k e); forces = λ σ h. sym (s.same σ) ∙ G.forces σ h }

pub over_serves : {f g : Formula} (d : Bool) (m : ℕ) → Serves f g → Serves (over d m f) (over d m g)
over_serves {f} {g} d m s = record {
  same = λ σ. over-same d m m g f σ σ (λ α b t. (α, b, sym (s.same α) ∙ t)) (λ β b t. (β, b, s.same β ∙ t));
  fewer = λ k e. let h = and_both (free g k) (not (bit m k)) (sym (over-free d m g k) ∙ e) in over-free d m f k ∙ rw (s.fewer k h.0) h.1;
}

-- ---- the reasons of a quantifier over a mask, as words

module _ {f : Formula} {w : Assignment} (d : Bool) (m r : ℕ) where
  pub mask_decided : Explains f d (bit r) w → Explains (over d m f) d (bit (without r m)) w
  mask_decided F =
      record {
        inside = λ k e. let h = and_both (bit r k) (not (bit m k)) (sym (bit-without r m k) ∙ e) in over-free d m f k ∙ rw (F.inside k h.0) h.1;
        forces = λ σ h. over_meets d m f σ (blend m w σ) (blend-off m w σ)
            (F.forces (blend m w σ) (λ k e. by_bool (bit m k)
            (λ i. blend_on m w σ k i)
            (λ i. blend-off m w σ k i ∙ h k (bit-without r m k ∙ rw (e, i)))));
      }

  pub mask-undecided : Explains f (not d) (bit r) w → Apart r m → Explains (over d m f) (not d) (bit r) w
  mask-undecided F a =
      record {
        inside = λ k e. over-free d m f k ∙ rw (F.inside k e, bits_apart a k e);
        forces = λ σ h. over-all d m f σ (λ τ t. F.forces τ (λ k e. t k (bits_apart a k e) ∙ h k e));
      }

-- what does not decide a quantifier does not decide its body either
pub mask_below : {f : Formula} {w : Assignment} (d : Bool) (m r : ℕ) → Explains (over d m f) (not d) (bit r) w → Explains f (not d) (bit r) w
mask_below {f} d m r F = record {
  inside = λ k e. (and_both (free f k) (not (bit m k)) (sym (over-free d m f k) ∙ F.inside k e)).0;
  forces = λ σ h. over_misses d m f σ (F.forces σ h) σ (λ k e. refl);
}
