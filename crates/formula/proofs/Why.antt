-- What WHY means: the reason that is left when no variable of it is idle. Assumes nothing.
use Prim.Native.Nat.{ℕ, zero, suc, ◌+◌, ◌^◌, ◌<◌}
use Rattle.std.proofs.Common.{arith, ap, ◌∙◌, eqb-true, eq-eqb, ltb-true, lt-ltb, le-leb}
use Rattle.std.specs.Prelude.{◌≡◌, refl, Bool, not, cond, eqb, ltb}
use Rattle.std.proofs.Math.Path.{sym}
use Rattle.std.proofs.Math.Bool.{true, false, and-false}
use Rattle.std.specs.Bool.{beq}
use Rattle.words.specs.Logic.{tests}
use Rattle.words.proofs.Logic.{by_bool, clash, and_both}
use Rattle.words.specs.Word.{bit}
use Rattle.words.proofs.Bits.{bit-pow}
use Rattle.words.specs.Mask.{Sub, without}
use Rattle.words.proofs.Mask.{bits_sub, sub_refl, sub_trans, without_sub, without_mono, without-none, bit-without}
use Rattle.formula.specs.Assignment.{Assignment, within, On, Off}
use Rattle.formula.proofs.Assignment.{differ, sweep_finds, sweep_misses, sweep-all}
use Rattle.formula.specs.Formula.{Formula, truth, free}
use Rattle.formula.proofs.Formula.{coincide}
use Rattle.formula.specs.Reason.{Explains}
use Rattle.formula.specs.Ask.{Verdict, Bounded, Entries, free_mask, ask}
use Rattle.formula.proofs.Ask.{bit-free_mask, bit-free, ask-word, ask-never}
use Rattle.formula.specs.Why.{always, overlay, reduce, start_mask, start_word, why}

-- ---- what always means

beq-true : (a b : Bool) → beq a b ≡ true → a ≡ b
beq-true true true e = refl
beq-true true false e = clash false e refl
beq-true false true e = clash false e refl
beq-true false false e = refl

beq-false : (a b : Bool) → beq a b ≡ false → a ≡ not b
beq-false true true e = clash true refl e
beq-false true false e = refl
beq-false false true e = refl
beq-false false false e = clash true refl e

true-beq : (a b : Bool) → a ≡ b → beq a b ≡ true
true-beq a true e = rw e
true-beq a false e = rw e

overlay_on : (m w : ℕ) (σ : Assignment) → On (bit m) (overlay m w σ) (bit w)
unfolding overlay
overlay_on m w σ k e = rw e

-- σ on the variables below n, w elsewhere
unfoldable low : ℕ → ℕ → Assignment → Assignment
low n w σ k = cond (within 0 n k) (σ k) (bit w k)

low-off : (n w : ℕ) (σ : Assignment) → Off 0 n (low n w σ) (bit w)
unfolding low
low-off n w σ k e = rw e

low_below : (n w : ℕ) (σ : Assignment) (k : ℕ) → k < n → low n w σ k ≡ σ k
unfolding low within
low_below n w σ k h = rw (le-leb 0 k (omega arith), lt-ltb k (0 + n) (omega arith))

overlay-same : (n m w : ℕ) (σ : Assignment) (k : ℕ) → k < n → On (bit m) σ (bit w) → overlay m w (low n w σ) k ≡ σ k
unfolding overlay
overlay-same n m w σ k h a = by_bool (bit m k) (λ e. rw e (sym (a k e))) (λ e. rw e (low_below n w σ k h))

module _ (n : ℕ) (f : Formula) (m w : ℕ) (v : Bool) where
  abbrev gives : Assignment → Bool
  gives σ = beq (truth f (overlay m w σ)) v

  pub always-every : Bounded n f → always n f m w v ≡ true → (σ : Assignment) → On (bit m) σ (bit w) → truth f σ ≡ v
  unfolding always
  always-every B e σ a =
      coincide f σ (overlay m w (low n w σ)) (λ k h. sym (overlay-same n m w σ k (B.below k h) a))
      ∙ beq-true (truth f (overlay m w (low n w σ))) v (sweep_misses false 0 n gives (bit w) e (low n w σ) (low-off n w σ))

  pub every-always : ((σ : Assignment) → On (bit m) σ (bit w) → truth f σ ≡ v) → always n f m w v ≡ true
  unfolding always
  every-always h = sweep-all false 0 n gives (bit w) (λ τ t. true-beq (truth f (overlay m w τ)) v (h (overlay m w τ) (overlay_on m w τ)))

  pub always-fails : always n f m w v ≡ false → (σ : Assignment) × On (bit m) σ (bit w) × (truth f σ ≡ not v)
  unfolding always
  always-fails e =
      let t = sweep_finds false 0 n gives (bit w) e in
      (overlay m w t.0, overlay_on m w t.0, beq-false (truth f (overlay m w t.0)) v t.2)

  pub fails-always : Bounded n f → (σ : Assignment) → On (bit m) σ (bit w) → truth f σ ≡ not v → always n f m w v ≡ false
  fails-always B σ a e = by_bool (always n f m w v) (λ h. differ v (truth f σ) (always-every B h σ a) e) (λ h. h)

  -- a reason inside m
  pub explains_always : (r : ℕ) → Explains f v (bit r) (bit w) → Sub r m → always n f m w v ≡ true
  explains_always r F s = every-always (λ σ a. F.forces σ (λ k e. a k (bits_sub s k e)))

  -- m itself is one
  pub always_explains : Bounded n f → Sub m (free_mask n f) → always n f m w v ≡ true → Explains f v (bit m) (bit w)
  always_explains B s e = record { inside = λ k h. sym (bit-free B k) ∙ bits_sub s k h; forces = always-every B e }

-- what a part of m forces, m does
pub always_mono : {n : ℕ} {f : Formula} {q m : ℕ} (w : ℕ) (v : Bool) → Bounded n f → Sub q m → always n f q w v ≡ true → always n f m w v ≡ true
always_mono {n} {f} {q} {m} w v B s e = every-always n f m w v (λ σ a. always-every n f q w v B e σ (λ k h. a k (bits_sub s k h)))

-- ---- what is left by reduce

module _ (n : ℕ) (f : Formula) (w : ℕ) (v : Bool) where
  pub reduce-drop : (k m : ℕ) → always n f (without m (2 ^ k)) w v ≡ true → reduce n f w v (suc k) m ≡ reduce n f w v k (without m (2 ^ k))
  unfolding reduce
  reduce-drop k m e = rw e

  pub reduce-keep : (k m : ℕ) → always n f (without m (2 ^ k)) w v ≡ false → reduce n f w v (suc k) m ≡ reduce n f w v k m
  unfolding reduce
  reduce-keep k m e = rw e

  -- a variable that m does not have
  pub reduce_skip : (k m : ℕ) → bit m k ≡ false → reduce n f w v (suc k) m ≡ reduce n f w v k m
  reduce_skip k m h =
      by_bool (always n f (without m (2 ^ k)) w v)
      (λ e. reduce-drop k m e ∙ ap (reduce n f w v k) (without-none m k h))
      (λ e. reduce-keep k m e)

  pub reduce-sub : (k m : ℕ) → Sub (reduce n f w v k m) m
  unfolding reduce
  reduce-sub zero m = sub_refl m
  reduce-sub (suc k) m =
      by_bool (always n f (without m (2 ^ k)) w v)
      (λ e. rw e (sub_trans (reduce-sub k (without m (2 ^ k))) (without_sub m (2 ^ k))))
      (λ e. rw e (reduce-sub k m))

  pub reduce-always : (k m : ℕ) → always n f m w v ≡ true → always n f (reduce n f w v k m) w v ≡ true
  unfolding reduce
  reduce-always zero m h = h
  reduce-always (suc k) m h =
      by_bool (always n f (without m (2 ^ k)) w v)
      (λ e. rw e (reduce-always k (without m (2 ^ k)) e))
      (λ e. rw e (reduce-always k m h))

  kept : (k m q : ℕ) → Bounded n f → Sub q m → always n f (without m (2 ^ k)) w v ≡ false → always n f (without q (2 ^ k)) w v ≡ false
  kept k m q B s e =
      by_bool (always n f (without q (2 ^ k)) w v)
      (λ h. clash (always n f (without m (2 ^ k)) w v) (always_mono w v B (without_mono (2 ^ k) s) h) e)
      (λ h. h)

  gone : (k m : ℕ) → bit (without m (2 ^ k)) k ≡ false
  gone k m = bit-without m (2 ^ k) k ∙ rw (bit-pow k k, eq-eqb k k refl) (and-false (bit m k))

  -- without any one of its variables below k, what is left does not force v
  pub reduce_needs : Bounded n f → (k m j : ℕ) → j < k → bit (reduce n f w v k m) j ≡ true → always n f (without (reduce n f w v k m) (2 ^ j)) w v ≡ false
  unfolding reduce
  reduce_needs B zero m j l h = absurd (omega arith)
  reduce_needs B (suc k) m j l h =
      by_bool (always n f (without m (2 ^ k)) w v)
      (λ e. rw e (by_bool (eqb j k)
      (λ i. clash (bit (without m (2 ^ k)) j) (bits_sub (reduce-sub k (without m (2 ^ k))) j (rw e at h)) (rw (eqb-true j k i) (gone k m)))
      (λ i. reduce_needs B k (without m (2 ^ k)) j (omega tests) (rw e at h))))
      (λ e. rw e (by_bool (eqb j k)
      (λ i. rw (eqb-true j k i) (kept k m (reduce n f w v k m) B (reduce-sub k m) e))
      (λ i. reduce_needs B k m j (omega tests) (rw e at h))))

  -- so no variable of it is idle: some assignment that agrees on the others gives f the other truth
  pub reduce_idle : Bounded n f → (m j : ℕ) → j < n → bit (reduce n f w v n m) j ≡ true
      → (σ : Assignment) × On (bit (without (reduce n f w v n m) (2 ^ j))) σ (bit w) × (truth f σ ≡ not v)
  reduce_idle B m j l h = always-fails n f (without (reduce n f w v n m) (2 ^ j)) w v (reduce_needs B n m j l h)

-- ---- why as a whole, from ASK's verdict

pub why-holds : (n : ℕ) (f : Formula) (mask values : ℕ) → (why n f mask values).holds ≡ (ask n f mask values).holds
unfolding why
why-holds n f mask values = refl

module _ {n : ℕ} {f : Formula} {mask values : ℕ} (E : Entries n f mask values) where
  abbrev verdict : Verdict
  verdict = ask n f mask values

  abbrev start : ℕ
  start = start_mask n f verdict.holds mask

  -- it starts inside the free variables
  start-sub : Sub start (free_mask n f)
  unfolding start_mask
  start-sub = by_bool verdict.holds (λ e. rw e (sub_refl (free_mask n f))) (λ e. rw e E.opened)

  -- and forces the verdict
  start-always : always n f start (start_word verdict values) verdict.holds ≡ true
  unfolding start_mask start_word
  start-always =
      by_bool verdict.holds
      (λ e. rw e (every-always n f (free_mask n f) verdict.word true
      (λ σ a. coincide f σ (bit verdict.word) (λ k h. a k (bit-free E.bounded k ∙ h)) ∙ (ask-word E e).holds)))
      (λ e. rw e (every-always n f mask values false (ask-never E e)))

  -- the reason forces the verdict's truth
  pub why_forces : (σ : Assignment) → On (bit (why n f mask values).word) σ (bit (start_word verdict values)) → truth f σ ≡ verdict.holds
  unfolding why
  why_forces =
      always-every n f (why n f mask values).word (start_word verdict values) verdict.holds E.bounded
      (reduce-always n f (start_word verdict values) verdict.holds n start start-always)

  why-start : Sub (why n f mask values).word start
  unfolding why
  why-start = reduce-sub n f (start_word verdict values) verdict.holds n start

  -- it has free variables only
  pub why-free : Sub (why n f mask values).word (free_mask n f)
  why-free = sub_trans why-start start-sub

  -- and on no entered ones only
  pub why-entered : verdict.holds ≡ false → Sub (why n f mask values).word mask
  unfolding start_mask
  why-entered e = rw e at why-start

  -- no variable of it is idle
  pub why_idle : (k : ℕ) → bit (why n f mask values).word k ≡ true
      → (σ : Assignment) × On (bit (without (why n f mask values).word (2 ^ k))) σ (bit (start_word verdict values)) × (truth f σ ≡ not verdict.holds)
  unfolding why
  why_idle k h =
      let l = and_both (ltb k n) (free f k) (sym (bit-free_mask n f k) ∙ bits_sub why-free k h) in
      reduce_idle n f (start_word verdict values) verdict.holds E.bounded start k (ltb-true k n l.0) h
