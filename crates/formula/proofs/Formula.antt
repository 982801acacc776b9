-- Formulas, their truth under an assignment, and their free variables. Assumes nothing.
use Rattle.std.specs.Prelude.{ℕ, ◌≡◌, refl, Bool, not}
use Rattle.std.proofs.Common.{ap, ap₂, eq-eqb}
use Rattle.std.proofs.Math.Bool.{true, false, and-false, and-true}
use Rattle.words.proofs.Logic.{or_left, or_right}
use Rattle.formula.specs.Assignment.{Assignment, within, join, On, Off}
use Rattle.formula.proofs.Assignment.{sweep_finds, sweep_meets, sweep_misses, sweep-all, sweep-reads}
use Rattle.formula.specs.Formula.{Formula, exists, forall, free, gate, input, neg, never, quant, truth}

-- a bound variable is not free, and every other one is as in the body
pub free_bound : (d : Bool) (b c : ℕ) (f : Formula) (k : ℕ) → within b c k ≡ true → free (quant d b c f) k ≡ false
unfolding free
free_bound d b c f k e = rw e (and-false (free f k))

pub free_other : (d : Bool) (b c : ℕ) (f : Formula) (k : ℕ) → within b c k ≡ false → free (quant d b c f) k ≡ free f k
unfolding free
free_other d b c f k e = rw e (and-true (free f k))

-- truth depends on the free variables only
pub coincide : (f : Formula) (σ τ : Assignment) → On (free f) σ τ → truth f σ ≡ truth f τ
unfolding truth free
coincide never σ τ h = refl
coincide (input x) σ τ h = h x (eq-eqb x x refl)
coincide (neg f) σ τ h = ap not (coincide f σ τ h)
coincide (gate d f g) σ τ h =
    ap₂ (join d)
    (coincide f σ τ (λ k e. h k (or_left (free f k) (free g k) e)))
    (coincide g σ τ (λ k e. h k (or_right (free f k) (free g k) e)))
coincide (quant d b c f) σ τ h = sweep-reads d (truth f) (free f) (λ σ τ h. coincide f σ τ h) b c σ τ h

-- ---- the quantifiers in words: τ is an assignment that differs from σ only in the bound variables

module _ (b c : ℕ) (f : Formula) (σ : Assignment) where
  -- true: there is one that makes the body true
  pub exists-some : truth (exists b c f) σ ≡ true → (τ : Assignment) × Off b c τ σ × (truth f τ ≡ true)
  unfolding truth
  exists-some e = sweep_finds true b c (truth f) σ e

  pub some-exists : (τ : Assignment) → Off b c τ σ → truth f τ ≡ true → truth (exists b c f) σ ≡ true
  unfolding truth
  some-exists τ t e = sweep_meets true b c (truth f) σ τ t e

  -- true: every one does
  pub forall-every : truth (forall b c f) σ ≡ true → (τ : Assignment) → Off b c τ σ → truth f τ ≡ true
  unfolding truth
  forall-every e τ t = sweep_misses false b c (truth f) σ e τ t

  pub every-forall : ((τ : Assignment) → Off b c τ σ → truth f τ ≡ true) → truth (forall b c f) σ ≡ true
  unfolding truth
  every-forall h = sweep-all false b c (truth f) σ h
