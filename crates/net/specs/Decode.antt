-- The net of a sheet: frame k is node k, a range is a mask. Assumes nothing.
use Rattle.std.specs.Prelude.{ℕ, ◌<◌, ◌≡◌, Bool}
use Rattle.std.proofs.Math.Path.{refl, sym, ap, ap₂, fun_ext}
use Rattle.std.proofs.Common.{◌∙◌}
use Rattle.std.proofs.Math.Bool.{true, false, not, ◌||◌}
use Rattle.words.specs.Mask.{range_mask}
use Rattle.formula.specs.Assignment.{Assignment, join, sweep}
use Rattle.formula.specs.Formula.{Formula, truth, free}
use Rattle.formula.proofs.ReasonWord.{within-range}
use Rattle.sheet.specs.declared.Kind.{Kind}
use Rattle.sheet.specs.declared.Kind.TheVariants.{Never, Input, Not, And, Or, Exists, Forall, Gauge}
use Rattle.sheet.specs.Frames.{formula_of}
use Rattle.sheet.proofs.Frames.{formula-is}
use Rattle.sheet.specs.Frames as Sheets
use Rattle.formula.specs.Over.{over}
use Rattle.formula.proofs.Over.{over-free, over-range}
use Rattle.net.specs.Net.{Node, Fixed, Reads, Flips, Joins, Binds, Net, build, meaning, value, frees, Fit, Ordered, meaning-is, upward}

unfoldable pub node_of_kind : Kind → Node
node_of_kind Never = Fixed false
node_of_kind (Input x) = Reads x
node_of_kind (Not a) = Flips a
node_of_kind (And a b) = Joins false a b
node_of_kind (Or a b) = Joins true a b
node_of_kind (Exists a b c) = Binds true (range_mask b c) a
node_of_kind (Forall a b c) = Binds false (range_mask b c) a
node_of_kind (Gauge x) = Reads x

unfoldable pub decoded : (ℕ → Kind) → Net
decoded κ k = node_of_kind (κ k)

pub decoded-ordered : (w : ℕ) (κ : ℕ → Kind) → Sheets.Ordered w κ → Ordered (decoded κ)
unfolding decoded node_of_kind
decoded-ordered w κ o = record { fit = λ k. go k (κ k) (o.fit k) }
  where
    go : (k : ℕ) (d : Kind) → Sheets.Fit w k d → Fit k (node_of_kind d)
    go k Never h = tt
    go k (Input x) h = tt
    go k (Not a) h = h
    go k (And a b) h = h
    go k (Or a b) h = h
    go k (Exists a b c) h = h.0
    go k (Forall a b c) h = h.0
    go k (Gauge x) h = tt

-- over bodies with equal truths
over-range-same : (d : Bool) (b c : ℕ) (f g : Formula) → ((σ : Assignment) → truth f σ ≡ truth g σ) → (σ : Assignment) → truth (over d (range_mask b c) f) σ ≡ sweep d b c (truth g) σ
unfolding truth
over-range-same d b c f g e σ = over-range d b c f σ ∙ ap (λ (p : Assignment → Bool). sweep d b c p σ) (fun_ext e)

module _ (w : ℕ) (κ : ℕ → Kind) (o : Sheets.Ordered w κ) where
  -- every frame has the truth of its formula
  pub decoded-value : (k : ℕ) (σ : Assignment) → value (decoded κ) k σ ≡ truth (formula_of κ k) σ
  unfolding decoded node_of_kind build Sheets.build truth
  decoded-value =
      upward (λ k. (σ : Assignment) → value (decoded κ) k σ ≡ truth (formula_of κ k) σ)
      (λ k h σ. ap (λ (f : Formula). truth f σ) (meaning-is (decoded κ) (decoded-ordered w κ o) k)
      ∙ go k h σ (κ k) (o.fit k)
      ∙ sym (ap (λ (f : Formula). truth f σ) (formula-is w κ o k)))
    where
      go : (k : ℕ) → ((j : ℕ) → j < k → (τ : Assignment) → value (decoded κ) j τ ≡ truth (formula_of κ j) τ) → (σ : Assignment)
          (d : Kind) → Sheets.Fit w k d → truth (build (meaning (decoded κ)) (node_of_kind d)) σ ≡ truth (Sheets.build (formula_of κ) d) σ
      go k h σ Never f = refl
      go k h σ (Input x) f = refl
      go k h σ (Not a) f = ap not (h a f σ)
      go k h σ (And a b) f = ap₂ (join false) (h a f.0 σ) (h b f.1 σ)
      go k h σ (Or a b) f = ap₂ (join true) (h a f.0 σ) (h b f.1 σ)
      go k h σ (Exists a b c) f = over-range-same true b c (meaning (decoded κ) a) (formula_of κ a) (h a f.0) σ
      go k h σ (Forall a b c) f = over-range-same false b c (meaning (decoded κ) a) (formula_of κ a) (h a f.0) σ
      go k h σ (Gauge x) f = refl

  -- and its free variables
  pub decoded-free : (k x : ℕ) → frees (decoded κ) k x ≡ free (formula_of κ k) x
  unfolding decoded node_of_kind build Sheets.build free
  decoded-free =
      upward (λ k. (x : ℕ) → frees (decoded κ) k x ≡ free (formula_of κ k) x)
      (λ k h x. ap (λ (f : Formula). free f x) (meaning-is (decoded κ) (decoded-ordered w κ o) k)
      ∙ go k h x (κ k) (o.fit k)
      ∙ sym (ap (λ (f : Formula). free f x) (formula-is w κ o k)))
    where
      go : (k : ℕ) → ((j : ℕ) → j < k → (x : ℕ) → frees (decoded κ) j x ≡ free (formula_of κ j) x) → (x : ℕ)
          (d : Kind) → Sheets.Fit w k d → free (build (meaning (decoded κ)) (node_of_kind d)) x ≡ free (Sheets.build (formula_of κ) d) x
      go k h x Never f = refl
      go k h x (Input y) f = refl
      go k h x (Not a) f = h a f x
      go k h x (And a b) f = ap₂ ◌||◌ (h a f.0 x) (h b f.1 x)
      go k h x (Or a b) f = ap₂ ◌||◌ (h a f.0 x) (h b f.1 x)
      go k h x (Exists a b c) f = over-free true (range_mask b c) (meaning (decoded κ) a) x ∙ rw (h a f.0 x, within-range b c x)
      go k h x (Forall a b c) f = over-free false (range_mask b c) (meaning (decoded κ) a) x ∙ rw (h a f.0 x, within-range b c x)
      go k h x (Gauge y) f = refl
