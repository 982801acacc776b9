-- What ASK means: whether the variables that are not entered can be chosen so that f is true, and the smallest choice. Assumes nothing.
use Rattle.std.specs.Prelude.{ℕ, ◌+◌, ◌^◌, ◌≤◌, ◌<◌, ◌≡◌, ◌&&◌, ltb}
use Rattle.std.proofs.Common.{arith, sym, ◌∙◌}
use Rattle.std.proofs.Math.Path.{refl}
use Rattle.std.proofs.Math.Bool.{true, false}
use borrow.Author.Tests.{ltb-true, lt-ltb, le-ltb}
use Rattle.words.specs.Logic.{tests}
use Rattle.words.proofs.Logic.{by_bool, clash, and_both}
use Rattle.words.specs.Word.{bit}
use Rattle.words.specs.Mask.{Sub, Apart, without, agree, inside}
use Rattle.words.proofs.Mask.{sub-bits, bits_sub, sub_trans, sub-lt, sub-le, sub-inside, inside-sub, or-sum, or-sub}
use Rattle.words.proofs.Mask.{without_sub, without-apart, without_mono, apart-sub, apart-sym, mask_of-lt, bit-mask_of, agree-bits, bits_agree, agree-split, agree-sum}
use Rattle.formula.specs.Assignment.{Assignment, On}
use Rattle.formula.specs.Formula.{Formula, truth, free}
use Rattle.formula.proofs.Formula.{coincide}
use Rattle.formula.specs.Reason.{Explains}
use Rattle.formula.specs.Least.{least}
use Rattle.formula.proofs.Least.{least-hit, least_miss, least-is, least-none}
use Rattle.formula.specs.Ask.{Bounded, Entries, First, Fit, Smallest, ask, fits, free_mask, no, verdict_at, word_of, yes}

pub bit-free_mask : (n : ℕ) (f : Formula) (k : ℕ) → bit (free_mask n f) k ≡ ltb k n && free f k
unfolding free_mask
bit-free_mask n f k = bit-mask_of n (free f) k

pub free_mask-lt : (n : ℕ) (f : Formula) → free_mask n f < 2 ^ n
unfolding free_mask
free_mask-lt n f = mask_of-lt n (free f)

pub bit-free : {n : ℕ} {f : Formula} → Bounded n f → (k : ℕ) → bit (free_mask n f) k ≡ free f k
bit-free {n} {f} B k =
    bit-free_mask n f k
    ∙ by_bool (free f k) (λ e. rw (e, lt-ltb k n (B.below k e))) (λ e. rw e (by_bool (ltb k n) (λ h. rw h) (λ h. rw h)))

module _ (n : ℕ) (f : Formula) (mask values w : ℕ) where
  pub fits-fit : fits n f mask values w ≡ true → Fit n f mask values w
  unfolding fits
  fits-fit e =
      let p = and_both (agree mask values w) (inside w (free_mask n f) && truth f (bit w)) e in
      let q = and_both (inside w (free_mask n f)) (truth f (bit w)) p.1 in
      record { agrees = p.0; stays = q.0; holds = q.1 }

  pub fit-fits : Fit n f mask values w → fits n f mask values w ≡ true
  unfolding fits
  fit-fits F = rw (F.agrees, F.stays, F.holds)

module _ (n : ℕ) (f : Formula) (mask values : ℕ) where
  pub ask-yes : (w : ℕ) → w < 2 ^ n → fits n f mask values w ≡ true → ((z : ℕ) → z < w → fits n f mask values z ≡ false) → ask n f mask values ≡ yes w
  unfolding ask verdict_at
  ask-yes w h e b = rw (least-is (fits n f mask values) 0 (2 ^ n) w (omega arith) (omega arith) e (λ k l i. b k i), lt-ltb w (2 ^ n) h)

  pub ask-no : ((z : ℕ) → z < 2 ^ n → fits n f mask values z ≡ false) → ask n f mask values ≡ no
  unfolding ask verdict_at
  ask-no b = rw (least-none (fits n f mask values) 0 (2 ^ n) (λ k l i. b k (omega arith)), le-ltb (0 + 2 ^ n) (2 ^ n) (omega arith))

  abbrev hit : ℕ
  hit = least (fits n f mask values) 0 (2 ^ n)

  pub ask-first : (ask n f mask values).holds ≡ true → First n f mask values (ask n f mask values).word
  unfolding ask verdict_at
  ask-first e =
      by_bool (ltb hit (2 ^ n))
      (λ h. rw h (record {
        below = ltb-true hit (2 ^ n) h;
        passes = least-hit (fits n f mask values) 0 (2 ^ n) (omega tests);
        before = λ z l. least_miss (fits n f mask values) 0 (2 ^ n) z (omega arith) l;
      }))
      (λ h. clash false (rw h at e) refl)

  pub ask-none : (ask n f mask values).holds ≡ false → ((z : ℕ) → z < 2 ^ n → fits n f mask values z ≡ false) × ((ask n f mask values).word ≡ 0)
  unfolding ask verdict_at
  ask-none e =
      by_bool (ltb hit (2 ^ n))
      (λ h. clash true refl (rw h at e))
      (λ h. (λ z l. least_miss (fits n f mask values) 0 (2 ^ n) z (omega arith) (omega tests), rw h))

-- ---- what a solver shows

module _ (n : ℕ) (f : Formula) (mask values : ℕ) where
  -- a reason for falsehood inside the entries
  pub ask_explained : {r : Assignment} → Explains f false r (bit values) → ((k : ℕ) → r k ≡ true → bit mask k ≡ true) → ask n f mask values ≡ no
  ask_explained {r} F i = ask-no n f mask values (λ z l. by_bool (fits n f mask values z) (λ e. refuted z (fits-fit n f mask values z e)) (λ e. e))
    where
      refuted : {A : Type 0} (z : ℕ) → Fit n f mask values z → A
      refuted z Z = clash (truth f (bit z)) Z.holds (F.forces (bit z) (λ k e. agree-bits mask values z Z.agrees k (i k e)))

  -- a word that fits, where each smaller word that agrees and stays inside makes f false
  pub ask_smallest : (w : ℕ) → w < 2 ^ n → Fit n f mask values w
      → ((z : ℕ) → z < w → agree mask values z ≡ true → inside z (free_mask n f) ≡ true → truth f (bit z) ≡ false) → ask n f mask values ≡ yes w
  ask_smallest w h F b =
      ask-yes n f mask values w h (fit-fits n f mask values w F)
      (λ z l. by_bool (fits n f mask values z)
      (λ e. let Z = fits-fit n f mask values z e in clash (truth f (bit z)) Z.holds (b z l Z.agrees Z.stays))
      (λ e. e))

  -- no choice z of the free variables that are not entered makes f true
  pub ask_unchosen : ((z : ℕ) → Sub z (without (free_mask n f) mask) → truth f (bit (values + z)) ≡ false) → ask n f mask values ≡ no
  ask_unchosen b = ask-no n f mask values (λ z l. by_bool (fits n f mask values z) (λ e. refuted z (fits-fit n f mask values z e)) (λ e. e))
    where
      refuted : {A : Type 0} (z : ℕ) → Fit n f mask values z → A
      refuted z Z =
          clash (truth f (bit z)) Z.holds
          (rw (agree-split mask values z Z.agrees) (b (without z mask) (without_mono mask (inside-sub z (free_mask n f) Z.stays))))

  -- the first by the choice y of the free variables that are not entered
  pub ask_chosen : (y : ℕ) → Sub values mask → Sub mask (free_mask n f) → Sub y (without (free_mask n f) mask) → truth f (bit (values + y)) ≡ true
      → ((z : ℕ) → z < y → Sub z (without (free_mask n f) mask) → truth f (bit (values + z)) ≡ false) → ask n f mask values ≡ yes (values + y)
  ask_chosen y vs ms ys e b =
      ask_smallest (values + y) (sub-lt n whole (free_mask-lt n f)) (record { agrees = agree-sum mask values y vs off-mask; stays = sub-inside whole; holds = e })
      (λ z l a i.
      let s = agree-split mask values z a in
      rw s (b (without z mask) (omega (arith, s)) (without_mono mask (inside-sub z (free_mask n f) i))))
    where
      off-mask : Apart y mask
      off-mask = apart-sym (apart-sub (apart-sym (without-apart (free_mask n f) mask)) ys)

      whole : Sub (values + y) (free_mask n f)
      whole = rw (← or-sum (apart-sym (apart-sub off-mask vs))) (or-sub (sub_trans vs ms) (sub_trans ys (without_sub (free_mask n f) mask)))

pub word_of-free : {n : ℕ} {f : Formula} → Bounded n f → (σ : Assignment) (k : ℕ) → free f k ≡ true → bit (word_of n f σ) k ≡ σ k
unfolding word_of
word_of-free {n} {f} B σ k e = bit-mask_of n (λ j. free f j && σ j) k ∙ rw (lt-ltb k n (B.below k e), e)

pub word_of-sub : {n : ℕ} {f : Formula} → Bounded n f → (σ : Assignment) → Sub (word_of n f σ) (free_mask n f)
unfolding word_of
word_of-sub {n} {f} B σ =
    sub-bits (word_of n f σ) (free_mask n f)
    (λ k e. let p = and_both (ltb k n) (free f k && σ k) (sym (bit-mask_of n (λ j. free f j && σ j) k) ∙ e) in
    bit-free_mask n f k ∙ rw (p.0, (and_both (free f k) (σ k) p.1).0))

-- a word's own is at most the word
pub word_of-le : (n : ℕ) (f : Formula) (z : ℕ) → word_of n f (bit z) ≤ z
unfolding word_of
word_of-le n f z =
    sub-le (sub-bits (word_of n f (bit z)) z
    (λ k e. let p = and_both (ltb k n) (free f k && bit z k) (sym (bit-mask_of n (λ j. free f j && bit z j) k) ∙ e) in
    (and_both (free f k) (bit z k) p.1).1))

module _ {n : ℕ} {f : Formula} {mask values : ℕ} (E : Entries n f mask values) where
  -- an assignment that agrees and makes f true has a word that fits
  pub wordOf-fits : (σ : Assignment) → On (bit mask) σ (bit values) → truth f σ ≡ true → fits n f mask values (word_of n f σ) ≡ true
  wordOf-fits σ a t =
      fit-fits n f mask values (word_of n f σ)
      (record {
        agrees = bits_agree mask values (word_of n f σ) E.valued (λ k e. same k (sym (bit-free E.bounded k) ∙ bits_sub E.opened k e) ∙ a k e);
        stays = sub-inside (word_of-sub E.bounded σ);
        holds = coincide f (bit (word_of n f σ)) σ same ∙ t;
      })
    where
      same : (k : ℕ) → free f k ≡ true → bit (word_of n f σ) k ≡ σ k
      same k e = word_of-free E.bounded σ k e

  pub some-ask : (σ : Assignment) → On (bit mask) σ (bit values) → truth f σ ≡ true → (ask n f mask values).holds ≡ true
  some-ask σ a t =
      by_bool (ask n f mask values).holds (λ e. e)
      (λ e. clash (fits n f mask values (word_of n f σ)) (wordOf-fits σ a t)
      ((ask-none n f mask values e).0 (word_of n f σ) (sub-lt n (word_of-sub E.bounded σ) (free_mask-lt n f))))

  -- no: each that agrees makes f false
  pub ask-never : (ask n f mask values).holds ≡ false → (σ : Assignment) → On (bit mask) σ (bit values) → truth f σ ≡ false
  ask-never e σ a = by_bool (truth f σ) (λ t. clash (ask n f mask values).holds (some-ask σ a t) e) (λ t. t)

module _ {n : ℕ} {f : Formula} {mask values : ℕ} (E : Entries n f mask values) where
  pub ask-word : (ask n f mask values).holds ≡ true → Smallest n f mask values (ask n f mask values).word
  ask-word e =
      let A = ask-first n f mask values e in
      let w = (ask n f mask values).word in
      let F = fits-fit n f mask values w A.passes in
      record {
        below = A.below;
        agrees = agree-bits mask values w F.agrees;
        stays = λ k h. sym (bit-free E.bounded k) ∙ bits_sub (inside-sub w (free_mask n f) F.stays) k h;
        holds = F.holds;
        least = λ z a t. by_bool (ltb z w) (λ h. clash (fits n f mask values (word_of n f (bit z))) (wordOf-fits E (bit z) a t) (A.before (word_of n f (bit z)) (omega (tests, word_of-le n f z)))) (λ h. omega tests);
      }

pub ask-some : (n : ℕ) (f : Formula) (mask values : ℕ) → (ask n f mask values).holds ≡ true → (σ : Assignment) × On (bit mask) σ (bit values) × (truth f σ ≡ true)
ask-some n f mask values e =
    let w = (ask n f mask values).word in
    let F = fits-fit n f mask values w (ask-first n f mask values e).passes in
    (bit w, agree-bits mask values w F.agrees, F.holds)
