-- Twins of truth, ask, always and why that compute: they visit only the variables that the formula has, and stop where a value is decided.
-- (What a `let` binds is computed only where it is read.) Each is proved equal to its definition. Assumes nothing.
use Prim.Native.Nat.{ℕ, zero, suc, ◌+◌, ◌^◌, ◌<◌}
use native.Mathlib.Omega.{arith}
use Rattle.std.proofs.Common.{pow-suc, add_comm, sym, ap₂, ◌∙◌, inl, inr, ⊎_elim, eqb-true, ltb-true, ltb-false}
use Rattle.std.proofs.Math.Nat.{add-zero}
use Rattle.std.specs.Prelude.{◌≡◌, refl, Bool, true, false, not, cond, ◌&&◌, ◌⊎◌, eqb, ltb}
use Rattle.std.proofs.Math.Path.{ap, fun_ext}
use Rattle.std.specs.Bool.{beq}
use Rattle.std.proofs.Math.Arith.{lt-one}
use Rattle.words.specs.Logic.{tests}
use Rattle.words.proofs.Logic.{by_bool, clash, and_both}
use Rattle.words.specs.Word.{bit}
use Rattle.words.proofs.Bits.{bit-pow, bit_high}
use Rattle.words.specs.Mask.{Sub, Apart, without, inside, Top}
use Rattle.words.proofs.Mask.{bits_sub, sub_trans, sub-without, inside-sub, none-sub, sub-lt, apart-bits, apart-sym, add-one-sub, without_sub, top_bit, top_rest}
use Rattle.formula.specs.Assignment.{Assignment, assign, join, sweep, within, On}
use Rattle.formula.proofs.Assignment.{assign_other, join-both, sweep-reads}
use Rattle.formula.specs.Formula.{Formula, never, input, neg, gate, quant, truth, free}
use Rattle.formula.proofs.Formula.{coincide}
use Rattle.formula.specs.Ask.{Verdict, yes, no, free_mask, ask}
use Rattle.formula.proofs.Ask.{ask_chosen, ask_unchosen, free_mask-lt}
use Rattle.formula.specs.Why.{overlay, always, reduce, why}
use Rattle.formula.proofs.Why.{reduce_skip}
use Rattle.formula.specs.Compute.{always_over, ask_over, first_over, reduce_over, sweep_over, truth_over, why_over}

assign_on : (m : ℕ → Bool) (b : ℕ) (v : Bool) (σ : Assignment) → m b ≡ false → On m (assign σ b v) σ
assign_on m b v σ e k h = by_bool (eqb k b) (λ i. clash (m k) h (rw (eqb-true k b i) e)) (λ i. assign_other σ b v k i)

-- where p depends on the marked variables only
pub sweep_over-sweep : (d : Bool) (p : Assignment → Bool) (m : ℕ → Bool) → ((σ τ : Assignment) → On m σ τ → p σ ≡ p τ)
    → (b c : ℕ) (σ : Assignment) → sweep_over d m b c p σ ≡ sweep d b c p σ
unfolding sweep_over sweep
sweep_over-sweep d p m reads b zero σ = refl
sweep_over-sweep d p m reads b (suc c) σ =
    by_bool (m b)
    (λ e. rw e (ap₂ (join d) (sweep_over-sweep d p m reads (suc b) c (assign σ b false)) (sweep_over-sweep d p m reads (suc b) c (assign σ b true))))
    (λ e. rw e (sweep_over-sweep d p m reads (suc b) c σ ∙ sym (join-both d (sweep d (suc b) c p σ) (half false) (half true) (skips false e) (skips true e))))
  where
    half : Bool → Bool
    half v = sweep d (suc b) c p (assign σ b v)

    skips : (v : Bool) → m b ≡ false → half v ≡ sweep d (suc b) c p σ
    skips v e = sweep-reads d p m reads (suc b) c (assign σ b v) σ (λ k h. assign_on m b v σ e k (and_both (m k) (not (within (suc b) c k)) h).0)

pub truth_over-truth : (f : Formula) (σ : Assignment) → truth_over f σ ≡ truth f σ
unfolding truth_over truth
truth_over-truth never σ = refl
truth_over-truth (input x) σ = refl
truth_over-truth (neg f) σ = ap not (truth_over-truth f σ)
truth_over-truth (gate d f g) σ = ap₂ (join d) (truth_over-truth f σ) (truth_over-truth g σ)
truth_over-truth (quant d b c f) σ =
    sweep_over-sweep d (truth_over f) (free f) (λ σ τ h. truth_over-truth f σ ∙ coincide f σ τ h ∙ sym (truth_over-truth f τ)) b c σ
    ∙ ap (λ (p : Assignment → Bool). sweep d b c p σ) (fun_ext (λ τ. truth_over-truth f τ))

-- y is a choice of the places of m below k
record Choice (m k y : ℕ) : Type 0 where
  sub : Sub y m
  below : y < 2 ^ k

-- what first_over answers
record Hit (p : ℕ → Bool) (m k w : ℕ) (a : Verdict) : Type 0 where
  y : ℕ
  choice : Choice m k y
  is : a ≡ yes (w + y)
  passes : p (w + y) ≡ true
  before : (z : ℕ) → z < y → Sub z m → p (w + z) ≡ false

record Miss (p : ℕ → Bool) (m k w : ℕ) (a : Verdict) : Type 0 where
  is : a ≡ no
  none : (z : ℕ) → Choice m k z → p (w + z) ≡ false

-- a choice below k + 1 is one below k, or one below k and 2 ^ k
split-choice : {m k y : ℕ} → Choice m (suc k) y → Choice m k y ⊎ ((z : ℕ) × Choice m k z × (y ≡ 2 ^ k + z) × (bit m k ≡ true))
split-choice {m} {k} {y} C =
    by_bool (ltb y (2 ^ k))
    (λ i. inl (record { sub = C.sub; below = ltb-true y (2 ^ k) i }))
    (λ i.
    let t : Top y k = record { reach = ltb-false y (2 ^ k) i; under = C.below } in
    let r = top_rest t in
    inr (without y (2 ^ k), record { sub = sub_trans (without_sub y (2 ^ k)) C.sub; below = r.0 }, omega (arith, r.1), bits_sub C.sub k (top_bit t)))

high-choice : {m k y : ℕ} → bit m k ≡ true → Choice m k y → Choice m (suc k) (2 ^ k + y)
high-choice {m} {k} {y} h C = record { sub = rw (add_comm (2 ^ k) y) (add-one-sub k h (sub-without C.sub apart)); below = omega (arith, C.below, pow-suc 2 k) }
  where
    apart : Apart y (2 ^ k)
    apart = apart-sym (apart-bits (2 ^ k) y (λ j e. bit_high k j C.below (omega (tests, sym (bit-pow k j) ∙ e))))

low-choice : {m k y : ℕ} → Choice m k y → Choice m (suc k) y
low-choice {m} {k} {y} C = record { sub = C.sub; below = omega (arith, C.below, pow-suc 2 k) }

module _ (p : ℕ → Bool) (m : ℕ) where
  abbrev Answer : ℕ → ℕ → Verdict → Type 0
  Answer k w a = Hit p m k w a ⊎ Miss p m k w a

  -- w + (2 ^ k + z), as the high half has it
  moved : (w k z : ℕ) (v : Bool) → p (w + 2 ^ k + z) ≡ v → p (w + (2 ^ k + z)) ≡ v
  moved w k z v e = ap p (omega arith) ∙ e

  low-hit : {k w : ℕ} {a : Verdict} (b : Verdict) → Hit p m k w a → Hit p m (suc k) w (cond a.holds a b)
  low-hit b l = record { y = l.y; choice = low-choice l.choice; is = rw l.is; passes = l.passes; before = l.before }

  high-hit : {k w : ℕ} {a b : Verdict} → bit m k ≡ true → Miss p m k w a → Hit p m k (w + 2 ^ k) b → Hit p m (suc k) w (cond a.holds a b)
  high-hit {k} {w} {a} {b} e l h =
      record {
        y = 2 ^ k + h.y;
        choice = high-choice e h.choice;
        is = rw (l.is, h.is) (ap yes (omega arith));
        passes = moved w k h.y true h.passes;
        before =
            λ z i s. ⊎_elim
            (λ c. l.none z c)
            (λ c. rw c.2 (moved w k c.0 false (h.before c.0 (omega (arith, c.2)) c.1.sub)))
            (split-choice (record { sub = s; below = omega (arith, h.choice.below, pow-suc 2 k) }));
      }

  both_miss : {k w : ℕ} {a b : Verdict} → Miss p m k w a → Miss p m k (w + 2 ^ k) b → Miss p m (suc k) w (cond a.holds a b)
  both_miss {k} {w} l h =
      record {
        is = rw l.is h.is;
        none = λ z i. ⊎_elim (λ c. l.none z c) (λ c. rw c.2 (moved w k c.0 false (h.none c.0 c.1))) (split-choice i);
      }

  both_halves : {k w : ℕ} {a b : Verdict} → bit m k ≡ true → Answer k w a → Answer k (w + 2 ^ k) b → Answer (suc k) w (cond a.holds a b)
  both_halves {b = b} e l h = ⊎_elim (λ i. inl (low-hit b i)) (λ i. ⊎_elim (λ j. inl (high-hit e i j)) (λ j. inr (both_miss i j)) h) l

  -- a place that m does not have
  no-half : {k w : ℕ} {a : Verdict} → bit m k ≡ false → Answer k w a → Answer (suc k) w a
  no-half {k} {w} {a} e l =
      ⊎_elim
      (λ i. inl (record { y = i.y; choice = low-choice i.choice; is = i.is; passes = i.passes; before = i.before }))
      (λ i. inr (record { is = i.is; none = λ z c. ⊎_elim (λ q. i.none z q) (λ q. clash (bit m k) q.3 e) (split-choice c) }))
      l

  first_over-answers : (k w : ℕ) → Answer k w (first_over p m k w)
  unfolding first_over
  first_over-answers zero w =
      by_bool (p w)
      (λ e. rw e (inl (record { y = 0; choice = record { sub = none-sub m; below = omega arith }; is = ap yes (sym (add-zero w)); passes = ap p (add-zero w) ∙ e; before = λ z i s. absurd (omega arith) })))
      (λ e. rw e (inr (record { is = refl; none = λ z c. rw (lt-one c.below, add-zero w) e })))
  first_over-answers (suc k) w =
      by_bool (bit m k)
      (λ e. rw e (both_halves e (first_over-answers k w) (first_over-answers k (w + 2 ^ k))))
      (λ e. rw e (no-half e (first_over-answers k w)))

pub ask_over-ask : (n : ℕ) (f : Formula) (mask values : ℕ) → ask_over n f mask values ≡ ask n f mask values
unfolding ask_over
ask_over-ask n f mask values =
    by_bool (inside mask (free_mask n f) && inside values mask)
    (λ e. let q = and_both (inside mask (free_mask n f)) (inside values mask) e in
    rw e (⊎_elim
    (λ h. h.is ∙ sym (ask_chosen n f mask values h.y (inside-sub values mask q.1) (inside-sub mask (free_mask n f) q.0) h.choice.sub (same h.y true h.passes) (λ z i s. same z false (h.before z i s))))
    (λ h. h.is ∙ sym (ask_unchosen n f mask values (λ z s. same z false (h.none z (record { sub = s; below = sub-lt n (sub_trans s (without_sub (free_mask n f) mask)) (free_mask-lt n f) })))))
    (first_over-answers (λ w. truth_over f (bit w)) (without (free_mask n f) mask) n values)))
    (λ e. rw e)
  where
    same : (z : ℕ) (v : Bool) → truth_over f (bit (values + z)) ≡ v → truth f (bit (values + z)) ≡ v
    same z v e = sym (truth_over-truth f (bit (values + z))) ∙ e

overlay-reads : (f : Formula) (m w : ℕ) (σ τ : Assignment) → On (λ k. free f k && not (bit m k)) σ τ → On (free f) (overlay m w σ) (overlay m w τ)
unfolding overlay
overlay-reads f m w σ τ h k e = by_bool (bit m k) (λ i. rw i) (λ i. rw i (h k (rw (e, i))))

pub always_over-always : (n : ℕ) (f : Formula) (m w : ℕ) (v : Bool) → always_over n f m w v ≡ always n f m w v
unfolding always_over always
always_over-always n f m w v =
    ap (λ (p : Assignment → Bool). sweep_over false (λ k. free f k && not (bit m k)) 0 n p (bit w))
    (fun_ext (λ σ. ap (λ (t : Bool). beq t v) (truth_over-truth f (overlay m w σ))))
    ∙ sweep_over-sweep false (λ σ. beq (truth f (overlay m w σ)) v) (λ k. free f k && not (bit m k))
    (λ σ τ h. ap (λ (t : Bool). beq t v) (coincide f (overlay m w σ) (overlay m w τ) (overlay-reads f m w σ τ h))) 0 n (bit w)

pub reduce_over-reduce : (n : ℕ) (f : Formula) (w : ℕ) (v : Bool) (k m : ℕ) → reduce_over n f w v k m ≡ reduce n f w v k m
unfolding reduce_over reduce
reduce_over-reduce n f w v zero m = refl
reduce_over-reduce n f w v (suc k) m =
    reduce_over-reduce n f w v k (cond (bit m k && always_over n f (without m (2 ^ k)) w v) (without m (2 ^ k)) m)
    ∙ by_bool (bit m k)
    (λ e. rw (e, always_over-always n f (without m (2 ^ k)) w v))
    (λ e. rw e (sym (reduce_skip n f w v k m e)))

pub why_over-why : (n : ℕ) (f : Formula) (mask values : ℕ) → why_over n f mask values ≡ why n f mask values
unfolding why_over why
why_over-why n f mask values = rw (ask_over-ask n f mask values, reduce_over-reduce)
