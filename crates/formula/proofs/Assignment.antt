-- Assignments of the variables, ranges of variables, and quantification over a range. Assumes nothing.
use Rattle.std.specs.Prelude.{ℕ, zero, suc, ◌+◌, ◌≡◌, refl, Bool, true, false, not, ◌||◌, eqb, leb, ltb}
use Rattle.std.proofs.Common.{arith, sym, ◌∙◌, ap, ap₂, true≢false, eqb-true, le-leb, lt-ltb, eq-eqb}
use Rattle.std.proofs.Math.Path.{fun_ext}
use Rattle.std.proofs.lemmas.Bool.{lt-leb}
use Rattle.words.specs.Logic.{tests}
use Rattle.words.proofs.Logic.{by_bool, or_right, or-false}
use Rattle.formula.specs.Assignment.{Assignment, Off, On, assign, join, minus, sweep, within}

-- ---- one variable set

pub assign-same : (σ : Assignment) (x : ℕ) (v : Bool) → assign σ x v x ≡ v
unfolding assign
assign-same σ x v = rw (eq-eqb x x refl)

pub assign_other : (σ : Assignment) (x : ℕ) (v : Bool) (k : ℕ) → eqb k x ≡ false → assign σ x v k ≡ σ k
unfolding assign
assign_other σ x v k e = rw e

pub assign_self : (σ : Assignment) (x : ℕ) (v : Bool) → σ x ≡ v → assign σ x v ≡ σ
unfolding assign
assign_self σ x v e = fun_ext (λ k. by_bool (eqb k x) (λ s. rw s (sym e ∙ ap σ (sym (eqb-true k x s)))) (λ s. rw s))

-- ---- ranges

pub within-zero : (b k : ℕ) → within b zero k ≡ false
unfolding within
within-zero b k = by_bool (leb b k) (λ e. rw e (omega tests)) (λ e. rw e)

pub within-suc : (b c k : ℕ) → within b (suc c) k ≡ eqb k b || within (suc b) c k
unfolding within
within-suc b c k =
    by_bool (eqb k b)
    (λ e. rw (e, le-leb b k (omega tests), lt-ltb k (b + suc c) (omega tests)))
    (λ e. by_bool (leb b k)
    (λ h. rw (e, h, le-leb (suc b) k (omega tests)) (ap (ltb k) (omega arith)))
    (λ h. rw (e, h, lt-leb (suc b) k (omega tests))))

-- ---- the value that decides a join

pub join-left : (d a b : Bool) → a ≡ d → join d a b ≡ d
unfolding join
join-left true a b e = rw e
join-left false a b e = rw e

pub join-right : (d a b : Bool) → b ≡ d → join d a b ≡ d
unfolding join
join-right true a b e = or_right a b e
join-right false true b e = e
join-right false false b e = refl

pub join-both : (d v a b : Bool) → a ≡ v → b ≡ v → join d a b ≡ v
unfolding join
join-both true true a b e h = rw e
join-both true false a b e h = rw (e, h)
join-both false true a b e h = rw (e, h)
join-both false false a b e h = rw e

-- one of the two values of a variable decides
pub join_pick : (d x : Bool) (g : Bool → Bool) → g x ≡ d → join d (g false) (g true) ≡ d
join_pick d true g e = join-right d (g false) (g true) e
join_pick d false g e = join-left d (g false) (g true) e

-- a join that is decided is decided by one of the two
pub join_cases {ℓ} : {A : Type ℓ} (d a b : Bool) → join d a b ≡ d → (a ≡ d → A) → (b ≡ d → A) → A
unfolding join
join_cases true true b e f g = f refl
join_cases true false b e f g = g e
join_cases false true b e f g = g e
join_cases false false b e f g = f refl

-- a value is d or not d, and not both
pub by_value {ℓ} : {A : Type ℓ} (d t : Bool) → (t ≡ d → A) → (t ≡ not d → A) → A
by_value true true f g = f refl
by_value true false f g = g refl
by_value false true f g = g refl
by_value false false f g = f refl

pub differ {ℓ} : {A : Type ℓ} (d t : Bool) → t ≡ d → t ≡ not d → A
differ true t e h = absurd (true≢false (sym e ∙ h))
differ false t e h = absurd (true≢false (sym h ∙ e))

-- ---- what a sweep means

off-suc : (b c : ℕ) (τ σ : Assignment) (v : Bool) → Off (suc b) c τ (assign σ b v) → Off b (suc c) τ σ
off-suc b c τ σ v t k w =
    let h = or-false (eqb k b) (within (suc b) c k) (sym (within-suc b c k) ∙ w) in
    t k h.1 ∙ assign_other σ b v k h.0

off_in : (b c : ℕ) (τ σ : Assignment) → Off b (suc c) τ σ → Off (suc b) c τ (assign σ b (τ b))
off_in b c τ σ t k w =
    by_bool (eqb k b)
    (λ e. rw (eqb-true k b e, assign-same σ b (τ b)))
    (λ e. t k (rw (within-suc, e, w)) ∙ sym (assign_other σ b (τ b) k e))

-- a decided sweep is decided by an assignment that differs only in the range
pub sweep_finds : (d : Bool) (b c : ℕ) (p : Assignment → Bool) (σ : Assignment) → sweep d b c p σ ≡ d → (τ : Assignment) × Off b c τ σ × (p τ ≡ d)
unfolding sweep
sweep_finds d b zero p σ e = (σ, λ k h. refl, e)
sweep_finds d b (suc c) p σ e =
    join_cases d _ _ e
    (λ h. let t = sweep_finds d (suc b) c p _ h in (t.0, off-suc b c t.0 σ _ t.1, t.2))
    (λ h. let t = sweep_finds d (suc b) c p _ h in (t.0, off-suc b c t.0 σ _ t.1, t.2))

-- and any such assignment decides it
pub sweep_meets : (d : Bool) (b c : ℕ) (p : Assignment → Bool) (σ τ : Assignment) → Off b c τ σ → p τ ≡ d → sweep d b c p σ ≡ d
unfolding sweep
sweep_meets d b zero p σ τ t e = ap p (fun_ext (λ k. sym (t k (within-zero b k)))) ∙ e
sweep_meets d b (suc c) p σ τ t e =
    join_pick d (τ b) (λ v. sweep d (suc b) c p (assign σ b v)) (sweep_meets d (suc b) c p (assign σ b (τ b)) τ (off_in b c τ σ t) e)

-- an undecided one, by none
pub sweep_misses : (d : Bool) (b c : ℕ) (p : Assignment → Bool) (σ : Assignment) → sweep d b c p σ ≡ not d → (τ : Assignment) → Off b c τ σ → p τ ≡ not d
sweep_misses d b c p σ e τ t = by_value d (p τ) (λ h. differ d (sweep d b c p σ) (sweep_meets d b c p σ τ t h) e) (λ h. h)

pub sweep-all : (d : Bool) (b c : ℕ) (p : Assignment → Bool) (σ : Assignment) → ((τ : Assignment) → Off b c τ σ → p τ ≡ not d) → sweep d b c p σ ≡ not d
sweep-all d b c p σ f =
    by_value d (sweep d b c p σ)
    (λ h. let t = sweep_finds d b c p σ h in differ d (p t.0) t.2 (f t.0 t.1))
    (λ h. h)

-- ---- a sweep reads nothing of the range, and elsewhere what its body reads

on_zero : (m : ℕ → Bool) (b : ℕ) (σ τ : Assignment) → On (minus m b zero) σ τ → On m σ τ
on_zero m b σ τ h k e = h k (rw (e, within-zero))

on_assign : (m : ℕ → Bool) (b c : ℕ) (σ τ : Assignment) (v : Bool) → On (minus m b (suc c)) σ τ → On (minus m (suc b) c) (assign σ b v) (assign τ b v)
on_assign m b c σ τ v h k e =
    by_bool (eqb k b)
    (λ q. rw (eqb-true k b q) (simp assign-same))
    (λ q. assign_other σ b v k q ∙ h k (rw (within-suc, q) e) ∙ sym (assign_other τ b v k q))

pub sweep-reads : (d : Bool) (p : Assignment → Bool) (m : ℕ → Bool) → ((σ τ : Assignment) → On m σ τ → p σ ≡ p τ)
    → (b c : ℕ) (σ τ : Assignment) → On (minus m b c) σ τ → sweep d b c p σ ≡ sweep d b c p τ
unfolding sweep
sweep-reads d p m reads b zero σ τ h = reads σ τ (on_zero m b σ τ h)
sweep-reads d p m reads b (suc c) σ τ h =
    ap₂ (join d)
    (sweep-reads d p m reads (suc b) c (assign σ b false) (assign τ b false) (on_assign m b c σ τ false h))
    (sweep-reads d p m reads (suc b) c (assign σ b true) (assign τ b true) (on_assign m b c σ τ true h))
