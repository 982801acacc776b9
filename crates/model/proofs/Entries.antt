-- The entries that stand: what is always so of them, and their words. Assumes nothing.
use Rattle.std.specs.Prelude.{ℕ, zero, suc, ◌+◌, ◌^◌, ◌≤◌, ◌<◌, ◌≡◌, refl, Bool, true, false, cond, ◌||◌, List, [], ◌∷◌, ◌++◌, length, take, eqb, ltb}
use Rattle.std.proofs.Common.{arith, sym, ap, ◌∙◌, length-append, length-take, get_or-take, take-suc, eqb-true, eq-eqb, ltb-true, lt-ltb, le-ltb}
use Rattle.std.proofs.Math.ListN.{get_or-append}
use Rattle.std.proofs.lemmas.List.{get_or_at}
use Rattle.std.specs.Int.Bits.{bit_or, or_zero_r}
use Rattle.words.specs.Logic.{tests}
use Rattle.words.proofs.Logic.{by_bool, clash, and_both, or_cases, or_left, or_right}
use Rattle.words.specs.Word.{bit}
use Rattle.words.proofs.Bits.{bit-or, bit-pow, bit-none, ext}
use Rattle.words.specs.Mask.{Sub}
use Rattle.words.proofs.Mask.{sub-bits, bit-mask_of, mask_of-lt, sub-le}
use Rattle.formula.specs.Formula.{Formula, free}
use Rattle.formula.specs.Ask.{free_mask}
use Rattle.model.specs.declared.Entry.{Entry}
pub use Rattle.model.specs.Model.{entry_at, value_part}
use Rattle.model.specs.Model.{Meaning, meaning, no_entry, entered_mask, entered_values, entered, last_desk}
use Rattle.model.specs.Entries.{Entered, Words}

-- ---- which variables are entered

pub entered_at : (es : List Entry) (i : ℕ) → i < length es → entered es (entry_at es i).variable ≡ true
unfolding entered
entered_at [] i h = absurd (omega arith)
entered_at (e ∷ es) zero h = or_left (eqb e.variable e.variable) (entered es e.variable) (eq-eqb e.variable e.variable refl)
entered_at (e ∷ es) (suc i) h =
    or_right (eqb (entry_at es i).variable e.variable) (entered es (entry_at es i).variable) (entered_at es i (omega arith))

pub entered_find : (es : List Entry) (x : ℕ) → entered es x ≡ true → (i : ℕ) × (i < length es) × ((entry_at es i).variable ≡ x)
unfolding entered
entered_find [] x t = clash false t refl
entered_find (e ∷ es) x t = or_cases (eqb x e.variable) (entered es x) t
    (λ h. (0, omega arith, sym (eqb-true x e.variable h)))
    (λ h. let r = entered_find es x h in (suc r.0, omega (arith, r.1), r.2))

pub entered_snoc : (es : List Entry) (e : Entry) (x : ℕ) → entered (es ++ (e ∷ [])) x ≡ entered es x || eqb x e.variable
unfolding entered
entered_snoc [] e x = by_bool (eqb x e.variable) (λ t. rw t) (λ t. rw t)
entered_snoc (d ∷ es) e x = by_bool (eqb x d.variable) (λ t. rw t) (λ t. rw t (entered_snoc es e x))

-- ---- what is kept

pub none-entered : (m : Meaning) → Entered m []
none-entered m = record {
  opened = λ i h. absurd (omega arith);
  valued = λ i h. absurd (omega arith);
  desked = λ i h. absurd (omega arith);
  distinct = λ i j h. absurd (omega arith);
}

module _ {m : Meaning} {es : List Entry} (e : Entry) (d : Entered m es) (fresh : entered es e.variable ≡ false) where
  abbrev more : List Entry
  more = es ++ (e ∷ [])

  older : (i : ℕ) → i < length es → entry_at more i ≡ entry_at es i
  older i h = get_or-append es (e ∷ []) no_entry i h

  newest : (i : ℕ) → i < length more → length es ≤ i → entry_at more i ≡ e
  newest i h l = get_or_at es e [] no_entry i (omega (arith, simp length-append at h))

  apart : (i : ℕ) → i < length es → e.variable ≡ (entry_at more i).variable → ⊥
  apart i h s = clash (entered es e.variable) (rw (s, older i h) (entered_at es i h)) fresh

  pub entered-more : m.opens e.variable ≡ true → e.value < 2 → e.desk ≤ last_desk → Entered m (es ++ (e ∷ []))
  entered-more o v w = record {
    opened = λ i h. by_bool (ltb i (length es)) (λ t. rw (older i (omega tests)) (d.opened i (omega tests))) (λ t. rw (newest i h (omega tests)) o);
    valued = λ i h. by_bool (ltb i (length es)) (λ t. rw (older i (omega tests)) (d.valued i (omega tests))) (λ t. rw (newest i h (omega tests)) v);
    desked = λ i h. by_bool (ltb i (length es)) (λ t. rw (older i (omega tests)) (d.desked i (omega tests))) (λ t. rw (newest i h (omega tests)) w);
    distinct = λ i j h l s. by_bool (ltb i (length es))
        (λ t. by_bool (ltb j (length es))
        (λ u. d.distinct i j (omega tests) (omega tests) (rw (older i (omega tests), older j (omega tests)) at s))
        (λ u. absurd (apart i (omega tests) (sym (ap (λ (x : Entry). x.variable) (newest j l (omega tests))) ∙ sym s))))
        (λ t. by_bool (ltb j (length es))
        (λ u. absurd (apart j (omega tests) (sym (ap (λ (x : Entry). x.variable) (newest i h (omega tests))) ∙ s)))
        (λ u. omega (tests, simp length-append at h, simp length-append at l)));
  }

pub entered_less : {m : Meaning} {es : List Entry} (n : ℕ) → Entered m es → Entered m (take n es)
entered_less {m} {es} n d = record {
  opened = λ i h. rw (same i h) (d.opened i (shorter i h));
  valued = λ i h. rw (same i h) (d.valued i (shorter i h));
  desked = λ i h. rw (same i h) (d.desked i (shorter i h));
  distinct = λ i j h l s. d.distinct i j (shorter i h) (shorter j l) (rw (same i h, same j l) at s);
}
  where
    shorter : (i : ℕ) → i < length (take n es) → i < length es
    shorter i h = omega (arith, simp length-take at h)

    same : (i : ℕ) → i < length (take n es) → entry_at (take n es) i ≡ entry_at es i
    same i h = get_or-take n es i no_entry (omega (arith, simp length-take at h))

-- ---- at most as many entries stand as there are variables

-- how many numbers below n pass p
count : ℕ → (ℕ → Bool) → ℕ
count zero p = 0
count (suc n) p = count n p + cond (p n) 1 0

count-le : (n : ℕ) (p : ℕ → Bool) → count n p ≤ n
unfolding count
count-le zero p = omega arith
count-le (suc n) p = by_bool (p n) (λ e. rw e (omega (arith, count-le n p))) (λ e. rw e (omega (arith, count-le n p)))

-- one more number passes
count-more : (n x : ℕ) (p q : ℕ → Bool) → p x ≡ false → ((k : ℕ) → q k ≡ p k || eqb k x) → count n q ≡ count n p + cond (ltb x n) 1 0
unfolding count
count-more zero x p q f e = rw (le-ltb x 0 (omega arith))
count-more (suc n) x p q f e = by_bool (eqb n x)
    (λ t. let s : x ≡ n = omega tests in
    let g : p n ≡ false = rw (← s) f in
    rw (e n, t, g, lt-ltb x (suc n) (omega arith), count-more n x p q f e, le-ltb x n (omega arith)) (omega arith))
    (λ t. by_bool (ltb x n)
    (λ l. by_bool (p n)
    (λ g. rw (e n, t, g, lt-ltb x (suc n) (omega tests), count-more n x p q f e, l) (omega arith))
    (λ g. rw (e n, t, g, lt-ltb x (suc n) (omega tests), count-more n x p q f e, l) (omega arith)))
    (λ l. by_bool (p n)
    (λ g. rw (e n, t, g, le-ltb x (suc n) (omega tests), count-more n x p q f e, l) (omega arith))
    (λ g. rw (e n, t, g, le-ltb x (suc n) (omega tests), count-more n x p q f e, l) (omega arith))))

count_none : (n : ℕ) → count n (entered []) ≡ 0
unfolding count entered
count_none zero = refl
count_none (suc n) = omega (arith, count_none n)

-- an entry's variable is not that of an earlier one
pub not_earlier_lem : {m : Meaning} {es : List Entry} (i : ℕ) → Entered m es → i < length es → entered (take i es) (entry_at es i).variable ≡ false
not_earlier_lem {m} {es} i d h = by_bool (entered (take i es) (entry_at es i).variable)
    (λ t. let r = entered_find (take i es) (entry_at es i).variable t in
    let l : r.0 < i = omega (arith, simp length-take at r.1) in
    let s : r.0 ≡ i = d.distinct r.0 i (omega arith) h (rw (get_or-take i es r.0 no_entry l) at r.2) in
    absurd (omega arith))
    (λ t. t)

-- the variables of the first entries, counted
module _ {m : Meaning} {es : List Entry} (n : ℕ) (below : (x : ℕ) → m.opens x ≡ true → x < n) (d : Entered m es) where
  count_entries : (i : ℕ) → i ≤ length es → count n (entered (take i es)) ≡ i
  count_entries zero h = count_none n
  count_entries (suc i) h =
      let x = (entry_at es i).variable in
      count-more n x (entered (take i es)) (entered (take (suc i) es)) (not_earlier_lem i d h)
      (λ k. rw (take-suc es i no_entry h) (entered_snoc (take i es) (entry_at es i) k))
      ∙ rw (count_entries i (omega arith), lt-ltb x n (below x (d.opened i h))) (omega arith)

  pub entries-few : length es ≤ n
  entries-few = omega (arith, count_entries (length es) (omega arith), count-le n (entered (take (length es) es)))

or_assoc : (a b c : ℕ) → bit_or (bit_or a b) c ≡ bit_or a (bit_or b c)
or_assoc a b c = ext (bit_or (bit_or a b) c) (bit_or a (bit_or b c)) (λ k. simp bit-or (go (bit a k) (bit b k) (bit c k)))
  where
    go : (p q r : Bool) → ((p || q) || r) ≡ p || (q || r)
    go true q r = refl
    go false q r = refl

pub mask_snoc : (es : List Entry) (e : Entry) → entered_mask (es ++ (e ∷ [])) ≡ bit_or (entered_mask es) (2 ^ e.variable)
unfolding entered_mask
mask_snoc [] e = or_zero_r (2 ^ e.variable)
mask_snoc (d ∷ es) e = rw (mask_snoc es e) (sym (or_assoc (2 ^ d.variable) (entered_mask es) (2 ^ e.variable)))

pub values_snoc : (es : List Entry) (e : Entry) → entered_values (es ++ (e ∷ [])) ≡ bit_or (entered_values es) (value_part e)
unfolding entered_values
values_snoc [] e = or_zero_r (value_part e)
values_snoc (d ∷ es) e = rw (values_snoc es e) (sym (or_assoc (value_part d) (entered_values es) (value_part e)))

pub bit-entered_mask : (es : List Entry) (k : ℕ) → bit (entered_mask es) k ≡ entered es k
unfolding entered_mask entered
bit-entered_mask [] k = bit-none k
bit-entered_mask (e ∷ es) k = rw (bit-or, bit-pow, bit-entered_mask es k)

pub bit-part : (e : Entry) (k : ℕ) → bit (value_part e) k ≡ true → eqb k e.variable ≡ true
bit-part e k t = by_bool (eqb e.value 1)
    (λ h. sym (bit-pow e.variable k) ∙ (rw h at t))
    (λ h. clash (bit 0 k) (rw h at t) (bit-none k))

pub bit-value : (es : List Entry) (k : ℕ) → bit (entered_values es) k ≡ true → entered es k ≡ true
unfolding entered_values entered
bit-value [] k t = clash (bit 0 k) t (bit-none k)
bit-value (e ∷ es) k t = or_cases (bit (value_part e) k) (bit (entered_values es) k) (sym (bit-or (value_part e) (entered_values es) k) ∙ t)
    (λ h. or_left (eqb k e.variable) (entered es k) (bit-part e k h))
    (λ h. or_right (eqb k e.variable) (entered es k) (bit-value es k h))

-- a variable that is not entered has no value
pub value_none : (es : List Entry) (k : ℕ) → entered es k ≡ false → bit (entered_values es) k ≡ false
value_none es k f = by_bool (bit (entered_values es) k) (λ t. clash (entered es k) (bit-value es k t) f) (λ t. t)

-- the values lie in the mask
pub values-mask : (es : List Entry) → Sub (entered_values es) (entered_mask es)
values-mask es = sub-bits (entered_values es) (entered_mask es) (λ k t. bit-entered_mask es k ∙ bit-value es k t)

pub words_valued : {es : List Entry} {mask values : ℕ} → Words es mask values → Sub values mask
words_valued {es} w = rw (w.mask_is, w.values_are) (values-mask es)

-- ---- over a formula's meaning

pub opens_below : (n : ℕ) (f : Formula) (g x : ℕ) → (meaning n f g).opens x ≡ true → x < n
unfolding meaning
opens_below n f g x t = ltb-true x n (and_both (ltb x n) (free f x) t).0

-- what the code tests: a variable is open exactly if the word of the free variables has it
pub bit_opens : (n : ℕ) (f : Formula) (g x : ℕ) → bit (free_mask n f) x ≡ (meaning n f g).opens x
unfolding meaning free_mask
bit_opens n f g x = bit-mask_of n (free f) x

module _ (n : ℕ) (f : Formula) (g : ℕ) {es : List Entry} (d : Entered (meaning n f g) es) where
  -- the mask lies in the free variables
  pub mask-free : Sub (entered_mask es) (free_mask n f)
  mask-free = sub-bits (entered_mask es) (free_mask n f) (λ k t.
      let r = entered_find es k (sym (bit-entered_mask es k) ∙ t) in
      bit_opens n f g k ∙ (rw r.2 at (d.opened r.0 r.1)))

  pub words_opened : {mask values : ℕ} → Words es mask values → Sub mask (free_mask n f)
  words_opened w = rw w.mask_is mask-free

  pub mask_lt : entered_mask es < 2 ^ n
  unfolding free_mask
  mask_lt = omega (arith, sub-le mask-free, mask_of-lt n (free f))

  pub values-lt : entered_values es < 2 ^ n
  values-lt = omega (arith, sub-le (values-mask es), mask_lt)

  -- at most as many entries stand as there are variables: a place fits a byte where n is 32 or 64
  pub entries-at-most : length es ≤ n
  entries-at-most = entries-few n (opens_below n f g) d
