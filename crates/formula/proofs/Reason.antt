-- A reason: a mask of free variables whose values in w force a formula's truth. Assumes nothing.
use Rattle.std.specs.Prelude.{ℕ, ◌≡◌, refl, Bool, true, false, not, cond, eqb}
use Rattle.std.proofs.Common.{sym, ◌∙◌, ap, eq-eqb, eqb-true}
use Rattle.std.proofs.Math.Path.{fun_ext}
use Rattle.words.proofs.Logic.{by_bool, clash, and_both, or_cases, or_left, or_right}
use Rattle.formula.specs.Assignment.{Assignment, assign, within, On, Off, none, only, union, except, minus}
use Rattle.formula.proofs.Assignment.{assign-same, assign_other, assign_self, join-left, join-right, join-both, sweep_meets, sweep-all}
use Rattle.formula.specs.Formula.{Formula, never, input, neg, gate, quant, truth, free}
use Rattle.formula.proofs.Formula.{coincide}
use Rattle.formula.specs.Reason.{Explains}

-- a formula explains itself by all its free variables
pub explains_all : (f : Formula) (w : Assignment) → Explains f (truth f w) (free f) w
explains_all f w = record { inside = λ k e. e; forces = λ σ h. coincide f σ w h }

pub explains_never : (w : Assignment) → Explains never false none w
unfolding truth
explains_never w = record { inside = λ k e. clash false e refl; forces = λ σ h. refl }

pub explains_input : (x : ℕ) (w : Assignment) → Explains (input x) (w x) (only x) w
unfolding truth free
explains_input x w = record { inside = λ k e. e; forces = λ σ h. h x (eq-eqb x x refl) }

pub explains_neg : {f : Formula} {v : Bool} {r w : Assignment} → Explains f v r w → Explains (neg f) (not v) r w
unfolding truth free
explains_neg F = record { inside = F.inside; forces = λ σ h. ap not (F.forces σ h) }

-- ---- gates: one side that decides, or both sides

module _ {d : Bool} {f : Formula} {r w : Assignment} (g : Formula) where
  pub gate-left : Explains f d r w → Explains (gate d f g) d r w
  unfolding truth free
  gate-left F =
      record {
        inside = λ k e. or_left (free f k) (free g k) (F.inside k e);
        forces = λ σ h. join-left d (truth f σ) (truth g σ) (F.forces σ h);
      }

  pub gate-right : Explains f d r w → Explains (gate d g f) d r w
  unfolding truth free
  gate-right F =
      record {
        inside = λ k e. or_right (free g k) (free f k) (F.inside k e);
        forces = λ σ h. join-right d (truth g σ) (truth f σ) (F.forces σ h);
      }

module _ {f g : Formula} {v : Bool} {r q w : Assignment} (d : Bool) where
  pub gate-both : Explains f v r w → Explains g v q w → Explains (gate d f g) v (union r q) w
  unfolding truth free
  gate-both F G =
      record {
        inside =
            λ k e. or_cases (r k) (q k) e
            (λ h. or_left (free f k) (free g k) (F.inside k h))
            (λ h. or_right (free f k) (free g k) (G.inside k h));
        forces =
            λ σ h. join-both d v (truth f σ) (truth g σ)
            (F.forces σ (λ k e. h k (or_left (r k) (q k) e)))
            (G.forces σ (λ k e. h k (or_right (r k) (q k) e)));
      }

-- ---- quantifiers

-- w on the c variables from b on, σ elsewhere
unfoldable mix : ℕ → ℕ → Assignment → Assignment → Assignment
mix b c w σ k = cond (within b c k) (w k) (σ k)

mix-off : (b c : ℕ) (w σ : Assignment) → Off b c (mix b c w σ) σ
unfolding mix
mix-off b c w σ k e = rw e

mix_on : (r : ℕ → Bool) (b c : ℕ) (w σ : Assignment) → On (minus r b c) σ w → On r (mix b c w σ) w
unfolding mix
mix_on r b c w σ h k q = by_bool (within b c k) (λ e. rw e) (λ e. rw e (h k (rw (q, e))))

module _ {d : Bool} {b c : ℕ} {f : Formula} {r w : Assignment} where
  -- a body that decides: its reason without the bound variables
  pub quant_decided : Explains f d r w → Explains (quant d b c f) d (minus r b c) w
  unfolding truth free
  quant_decided F =
      record {
        inside = λ k e. let h = and_both (r k) (not (within b c k)) e in rw (F.inside k h.0) h.1;
        forces = λ σ h. sweep_meets d b c (truth f) σ (mix b c w σ) (mix-off b c w σ) (F.forces (mix b c w σ) (mix_on r b c w σ h));
      }

  -- a body that does not, whatever the bound variables are
  pub quant-undecided : Explains f (not d) r w → ((k : ℕ) → r k ≡ true → within b c k ≡ false) → Explains (quant d b c f) (not d) r w
  unfolding truth free
  quant-undecided F a =
      record {
        inside = λ k e. rw (F.inside k e, a k e);
        forces = λ σ h. sweep-all d b c (truth f) σ (λ τ t. F.forces τ (λ k e. t k (a k e) ∙ h k e));
      }

-- ---- branching on a variable x: the reasons of both halves, without x

branch_on : (m q : ℕ → Bool) (x : ℕ) (σ w : Assignment) → ((k : ℕ) → q k ≡ true → m k ≡ true) → On (except m x) σ w → On q σ (assign w x (σ x))
branch_on m q x σ w i h k e =
    by_bool (eqb k x)
    (λ s. rw (eqb-true k x s, assign-same))
    (λ s. h k (rw (i k e, s)) ∙ sym (assign_other w x (σ x) k s))

module _ {f : Formula} {v : Bool} {r q w : Assignment} (x : ℕ) where
  pub explains_branch : Explains f v r (assign w x false) → Explains f v q (assign w x true) → Explains f v (except (union r q) x) w
  explains_branch F G =
      record {
        inside = λ k h. or_cases (r k) (q k) (and_both (union r q k) (not (eqb k x)) h).0 (F.inside k) (G.inside k);
        forces =
            λ σ h. by_bool (σ x)
            (λ s. G.forces σ (rw s at (branch_on (union r q) q x σ w (λ k z. or_right (r k) (q k) z) h)))
            (λ s. F.forces σ (rw s at (branch_on (union r q) r x σ w (λ k z. or_left (r k) (q k) z) h)));
      }

  -- where w has x false already
  pub explains_branch_at : w x ≡ false → Explains f v r w → Explains f v q (assign w x true) → Explains f v (except (union r q) x) w
  explains_branch_at e F G = explains_branch (rw (assign_self w x false e) F) G

-- ---- changes that keep a reason: the assignment off the mask, an equal mask, a larger one

module _ {f : Formula} {v : Bool} {r w : Assignment} (F : Explains f v r w) where
  pub explains_set : (u : Assignment) → On r w u → Explains f v r u
  explains_set u e = record { inside = F.inside; forces = λ σ h. F.forces σ (λ k i. h k i ∙ sym (e k i)) }

  pub explains_mask : (q : ℕ → Bool) → ((k : ℕ) → r k ≡ q k) → Explains f v q w
  explains_mask q e = rw (fun_ext e) at F

  pub explains_weaken : (q : ℕ → Bool) → ((k : ℕ) → r k ≡ true → q k ≡ true) → ((k : ℕ) → q k ≡ true → free f k ≡ true) → Explains f v q w
  explains_weaken q i j = record { inside = j; forces = λ σ h. F.forces σ (λ k e. h k (i k e)) }

  pub explains_truth : truth f w ≡ v
  explains_truth = F.forces w (λ k e. refl)
