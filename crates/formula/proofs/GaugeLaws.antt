-- Where some variables are gauges: what ASK's verdict and word say in terms of assignments, what a solver shows, and when ASK is `ask`. Assumes nothing.
use Prim.Native.Nat.{ℕ, suc, ◌+◌, ◌^◌, ◌<◌}
use Rattle.std.proofs.Common.{arith, add-zero, ap₂, ◌∙◌, lt-ltb, ltb-true}
use Rattle.std.specs.Prelude.{◌≡◌, refl, not, ◌&&◌, ◌||◌, eqb, ltb}
use Rattle.std.proofs.Math.Path.{sym, ap}
use Rattle.std.proofs.Math.Bool.{Bool, true, false, and-false, or-false}
use Rattle.std.specs.Int.Bits.{bit_or, or_zero_r, and_zero_r}
use Rattle.words.specs.Logic.{not-true, tests}
use Rattle.words.proofs.Logic.{by_bool, clash, and_both, or_cases}
use Rattle.words.specs.Word.{bit}
use Rattle.words.proofs.Bits.{bit-and, bit-or, ext}
use Rattle.words.specs.Mask.{Sub, Apart, without, inside, mask_of}
use Rattle.words.proofs.Mask.{bit-without, bit-mask_of, sub-bits, bits_sub, bits_apart, apart-bits, sub-inside, inside-sub, sub_trans, sub-le, none-sub, or-sum, or-sub, apart-sym, apart-sub, sub-or-left, sub-or-right, without_sub}
use Rattle.formula.specs.Assignment.{Assignment, On}
use Rattle.formula.specs.Formula.{Formula, truth, free}
use Rattle.formula.proofs.Formula.{coincide}
use Rattle.formula.specs.Least.{least}
use Rattle.formula.proofs.Least.{least-is, least-hit, least_miss}
use Rattle.formula.specs.Ask.{Verdict, yes, free_mask, ask, Bounded, Entries, Smallest}
use Rattle.formula.proofs.Ask.{bit-free, ask-some, ask-never, ask-word}
use Rattle.formula.proofs.Ask as QuestionLaws
use Rattle.formula.specs.Over.{over, Beside, blend}
use Rattle.formula.proofs.Over.{blend_on, blend-off, over_meets, over-all, over_misses, over-free, bounded-over}
use Rattle.formula.specs.Why.{reduce, why, always}
use Rattle.formula.proofs.Why.{always-every, every-always, reduce-sub, reduce-always, reduce_idle}
use Rattle.formula.specs.Gauges.{unread, ours, possible, assured, fails, no_at, verdict, reason}
use Rattle.formula.specs.GaugeLaws.{Failing}

-- ---- the parts

module _ (n : ℕ) (f : Formula) (g mask : ℕ) where
  abbrev u : ℕ
  u = unread n f g mask

  abbrev e : ℕ
  e = ours n f g mask

  bit-unread : (k : ℕ) → bit u k ≡ (bit (free_mask n f) k && not (bit mask k)) && bit g k
  unfolding unread
  bit-unread k = simp (bit-and, bit-without)

  bit-ours : (k : ℕ) → bit e k ≡ (bit (free_mask n f) k && not (bit mask k)) && not (bit g k)
  unfolding ours
  bit-ours k = simp bit-without

  pub unread-free : Sub u (free_mask n f)
  unread-free = sub-bits u (free_mask n f) (λ k h. go (bit (free_mask n f) k) (bit mask k) (bit g k) (sym (bit-unread k) ∙ h))
    where
      go : (a b c : Bool) → (a && not b) && c ≡ true → a ≡ true
      go true b c h = refl
      go false b c h = h

  pub unread-apart : Apart u mask
  unread-apart = apart-bits u mask (λ k h. go (bit (free_mask n f) k) (bit mask k) (bit g k) (sym (bit-unread k) ∙ h))
    where
      go : (a b c : Bool) → (a && not b) && c ≡ true → b ≡ false
      go true true c h = clash false h refl
      go true false c h = refl
      go false b c h = clash false h refl

  pub ours-free : Sub e (free_mask n f)
  ours-free = sub-bits e (free_mask n f) (λ k h. go (bit (free_mask n f) k) (bit mask k) (bit g k) (sym (bit-ours k) ∙ h))
    where
      go : (a b c : Bool) → (a && not b) && not c ≡ true → a ≡ true
      go true b c h = refl
      go false b c h = h

  -- what is ours is free, and neither entered nor an unread gauge
  pub ours-rest : e ≡ without (free_mask n f) (bit_or mask u)
  ours-rest = ext e (without (free_mask n f) (bit_or mask u)) (λ k. simp (bit-ours, bit-without, bit-or, bit-unread) (go (bit (free_mask n f) k) (bit mask k) (bit g k)))
    where
      go : (a b c : Bool) → (a && not b) && not c ≡ a && not (b || ((a && not b) && c))
      go true true c = refl
      go true false true = refl
      go true false false = refl
      go false b c = refl

  pub ours-entered : Apart e mask
  ours-entered = apart-bits e mask (λ k h. go (bit (free_mask n f) k) (bit mask k) (bit g k) (sym (bit-ours k) ∙ h))
    where
      go : (a b c : Bool) → (a && not b) && not c ≡ true → b ≡ false
      go true true c h = clash false h refl
      go true false c h = refl
      go false b c h = clash false h refl

  pub ours-unread : Apart e u
  ours-unread = apart-bits e u (λ k h. bit-unread k ∙ go (bit (free_mask n f) k) (bit mask k) (bit g k) (sym (bit-ours k) ∙ h))
    where
      go : (a b c : Bool) → (a && not b) && not c ≡ true → (a && not b) && c ≡ false
      go a b true h = clash false (sym (and-false (a && not b)) ∙ h) refl
      go a b false h = and-false (a && not b)

-- `ask` is an EXISTS over what is not entered
pub ask-over : {n : ℕ} {f : Formula} {mask values : ℕ} → Entries n f mask values → truth (over true (without (free_mask n f) mask) f) (bit values) ≡ (ask n f mask values).holds
ask-over {n} {f} {mask} {values} E =
    by_bool (ask n f mask values).holds
    (λ h. let s = ask-some n f mask values h in
    over_meets true rest f (bit values) (blend rest s.0 (bit values)) (blend-off rest s.0 (bit values))
    (coincide f (blend rest s.0 (bit values)) s.0 (λ k i. same s.0 s.1 k i) ∙ s.2) ∙ sym h)
    (λ h. over-all true rest f (bit values) (λ τ t. ask-never E h τ (λ k i. t k (outside k i))) ∙ sym h)
  where
    rest : ℕ
    rest = without (free_mask n f) mask

    outside : (k : ℕ) → bit mask k ≡ true → bit rest k ≡ false
    outside k i = bit-without (free_mask n f) mask k ∙ rw i (and-false (bit (free_mask n f) k))

    inner : (k : ℕ) → free f k ≡ true → bit rest k ≡ false → bit mask k ≡ true
    inner k i h = by_bool (bit mask k) (λ m. m) (λ m. clash (bit rest k) (bit-without (free_mask n f) mask k ∙ rw (bit-free E.bounded k ∙ i, m)) h)

    same : (σ : Assignment) → On (bit mask) σ (bit values) → (k : ℕ) → free f k ≡ true → blend rest σ (bit values) k ≡ σ k
    same σ a k i = by_bool (bit rest k)
        (λ h. blend_on rest σ (bit values) k h)
        (λ h. blend-off rest σ (bit values) k h ∙ sym (a k (inner k i h)))

-- ---- settings of the unread gauges, with the entries

-- a bit that cannot be set
off : (b : Bool) → (b ≡ true → ⊥) → b ≡ false
off true h = absurd (h refl)
off false h = refl

module _ {n : ℕ} {f : Formula} (g : ℕ) {mask values : ℕ} (E : Entries n f mask values) where
  abbrev gs : ℕ
  gs = unread n f g mask

  abbrev may : Formula
  may = possible n f g mask

  abbrev must : Formula
  must = assured n f g mask

  -- a setting is apart from the values
  apart-values : {z : ℕ} → Sub z gs → Apart values z
  apart-values i = apart-sub (apart-sym (apart-sub (unread-apart n f g mask) E.valued)) i

  set-bit : (z k : ℕ) → Sub z gs → bit (values + z) k ≡ bit values k || bit z k
  set-bit z k i = ap (λ (x : ℕ). bit x k) (sym (or-sum (apart-values i))) ∙ bit-or values z k

  -- on the entered variables it is the values, on the unread gauges z
  pub set_entered : (z : ℕ) → Sub z gs → On (bit mask) (bit (values + z)) (bit values)
  set_entered z i k h = set-bit z k i ∙ rw (off (bit z k) (λ t. clash (bit mask k) h (bits_apart (unread-apart n f g mask) k (bits_sub i k t)))) (or-false (bit values k))

  pub set-gauges : (z : ℕ) → Sub z gs → On (bit gs) (bit (values + z)) (bit z)
  set-gauges z i k h = set-bit z k i ∙ rw (off (bit values k) (λ t. clash (bit mask k) (bits_sub E.valued k t) (bits_apart (unread-apart n f g mask) k h)))

  pub set_beside : (z : ℕ) → Sub z gs → Beside gs (bit (values + z)) (bit values)
  set_beside z i k h = set-bit z k i ∙ go (bit values k) (bit z k) (λ t. clash (bit gs k) (bits_sub i k t) h)
    where
      go : (a b : Bool) → (b ≡ true → ⊥) → (a || b) ≡ a
      go true b h = refl
      go false true h = absurd (h refl)
      go false false h = refl

  -- the gauges, entered at z
  pub set-entries : (z : ℕ) → Sub z gs → Entries n f (bit_or mask gs) (values + z)
  set-entries z i = record {
    bounded = E.bounded;
    opened = or-sub E.opened (unread-free n f g mask);
    valued = rw (← or-sum (apart-values i)) (or-sub (sub_trans E.valued (sub-or-left mask gs)) (sub_trans i (sub-or-right mask gs)));
  }

  -- what can be reached there is what `ask` says of it
  pub possible-ask : (z : ℕ) → Sub z gs → truth may (bit (values + z)) ≡ (ask n f (bit_or mask gs) (values + z)).holds
  unfolding possible
  possible-ask z i = ap (λ (x : ℕ). truth (over true x f) (bit (values + z))) (ours-rest n f g mask) ∙ ask-over (set-entries z i)

  -- the setting that an assignment has
  gauges_in : Assignment → ℕ
  gauges_in σ = mask_of n (λ k. bit gs k && σ k)

  in_sub : (σ : Assignment) → Sub (gauges_in σ) gs
  unfolding gauges_in
  in_sub σ = sub-bits (gauges_in σ) gs (λ k h. (and_both (bit gs k) (σ k) (and_both (ltb k n) (bit gs k && σ k) (sym (bit-mask_of n (λ j. bit gs j && σ j) k) ∙ h)).1).0)

  in_bit : (σ : Assignment) (k : ℕ) → bit gs k ≡ true → bit (gauges_in σ) k ≡ σ k
  unfolding gauges_in
  in_bit σ k h = bit-mask_of n (λ j. bit gs j && σ j) k ∙ rw (lt-ltb k n (E.bounded.below k (sym (bit-free E.bounded k) ∙ bits_sub (unread-free n f g mask) k h)), h)

  -- a variable that is free in `may` is entered or an unread gauge
  pub may_free : (k : ℕ) → free may k ≡ true → (bit mask k ≡ false → bit gs k ≡ true)
  unfolding possible
  may_free k h m =
      let p = and_both (free f k) (not (bit (ours n f g mask) k)) (sym (over-free true (ours n f g mask) f k) ∙ h) in
      by_bool (bit gs k) (λ t. t)
      (λ t. clash (bit (ours n f g mask) k)
      (ap (λ (x : ℕ). bit x k) (ours-rest n f g mask) ∙ bit-without (free_mask n f) (bit_or mask gs) k ∙ rw (bit-free E.bounded k ∙ p.0, bit-or mask gs k, m, t))
      (not-true (bit (ours n f g mask) k) p.1))

  -- an assignment that agrees with the entries is as good as its setting
  may-same : (σ : Assignment) → On (bit mask) σ (bit values) → truth may σ ≡ truth may (bit (values + gauges_in σ))
  may-same σ a = coincide may σ (bit (values + gauges_in σ)) (λ k h. by_bool (bit mask k)
      (λ m. a k m ∙ sym (set_entered (gauges_in σ) (in_sub σ) k m))
      (λ m. let q = may_free k h m in sym (set-gauges (gauges_in σ) (in_sub σ) k q ∙ in_bit σ k q)))

  -- ---- what is assured

  beside_on : (τ : Assignment) → Beside gs τ (bit values) → On (bit mask) τ (bit values)
  beside_on τ t k m = t k (bits_apart (apart-sym (unread-apart n f g mask)) k m)

  pub every-assured : ((z : ℕ) → Sub z gs → truth may (bit (values + z)) ≡ true) → truth must (bit values) ≡ true
  unfolding assured
  every-assured h = over-all false gs may (bit values) (λ τ t. may-same τ (beside_on τ t) ∙ h (gauges_in τ) (in_sub τ))

  pub assured-every : truth must (bit values) ≡ true → (z : ℕ) → Sub z gs → truth may (bit (values + z)) ≡ true
  unfolding assured
  assured-every h z i = over_misses false gs may (bit values) h (bit (values + z)) (set_beside z i)

  pub some_unassured : (z : ℕ) → Sub z gs → truth may (bit (values + z)) ≡ false → truth must (bit values) ≡ false
  unfolding assured
  some_unassured z i h = over_meets false gs may (bit values) (bit (values + z)) (set_beside z i) h

  -- ---- the verdict

  pub verdict-holds : (verdict n f g mask values).holds ≡ truth must (bit values)
  unfolding verdict
  verdict-holds = by_bool (truth must (bit values)) (λ h. rw h) (λ h. rw h)

  pub verdict-yes : truth must (bit values) ≡ true → {w : ℕ} → ask n f (bit_or mask gs) values ≡ yes w → verdict n f g mask values ≡ yes w
  unfolding verdict
  verdict-yes h q = rw (h, q)

  pub verdict-no : (z : ℕ) → Sub z gs → truth may (bit (values + z)) ≡ false → ((y : ℕ) → y < z → Sub y gs → truth may (bit (values + y)) ≡ true)
      → verdict n f g mask values ≡ no_at z
  unfolding verdict fails
  verdict-no z i h b =
      rw (some_unassured z i h, least-is (fails n f g mask values) 0 (suc gs) z (omega arith) (omega (arith, sub-le i)) (rw (sub-inside i, h)) (λ y l m. before y m))
    where
      before : (y : ℕ) → y < z → fails n f g mask values y ≡ false
      before y m = by_bool (inside y gs) (λ t. rw (t, b y m (inside-sub y gs t))) (λ t. rw t)

  -- with no unread gauge, ASK is `ask`
  pub verdict-plain : gs ≡ 0 → verdict n f g mask values ≡ ask n f mask values
  verdict-plain q =
      by_bool (ask n f mask values).holds
      (λ h. verdict-yes (every-assured (λ z i. possible-ask z i ∙ ap (λ (a : Verdict). a.holds) (plain z i) ∙ h)) {w = (ask n f mask values).word} (ask-none ∙ yes-is h)
      ∙ sym (yes-is h))
      (λ h. verdict-no 0 (none-sub gs) (possible-ask 0 (none-sub gs) ∙ ap (λ (a : Verdict). a.holds) (plain 0 (none-sub gs)) ∙ h) (λ y l i. absurd (omega arith))
      ∙ sym (no-is h))
    where
      mask_is : bit_or mask gs ≡ mask
      mask_is = rw q (or_zero_r mask)

      ask-none : ask n f (bit_or mask gs) values ≡ ask n f mask values
      ask-none = ap (λ (x : ℕ). ask n f x values) mask_is

      plain : (z : ℕ) → Sub z gs → ask n f (bit_or mask gs) (values + z) ≡ ask n f mask values
      plain z i =
          let s : z ≡ 0 = omega (arith, sub-le i, q) in
          ap (λ (x : ℕ). ask n f (bit_or mask gs) (values + x)) s ∙ ap (ask n f (bit_or mask gs)) (add-zero values) ∙ ask-none

      yes-is : (ask n f mask values).holds ≡ true → ask n f mask values ≡ yes (ask n f mask values).word
      yes-is h = ap (λ (b : Bool). record { holds = b; word = (ask n f mask values).word }) h

      no-is : (ask n f mask values).holds ≡ false → ask n f mask values ≡ no_at 0
      no-is h = ap₂ (λ (b : Bool) (w : ℕ). record { holds = b; word = w }) h (QuestionLaws.ask-none n f mask values h).1

-- no gauge at all
pub unread-none : (n : ℕ) (f : Formula) (mask : ℕ) → unread n f 0 mask ≡ 0
unfolding unread
unread-none n f mask = and_zero_r (without (free_mask n f) mask)

pub verdict-none : {n : ℕ} {f : Formula} {mask values : ℕ} → Entries n f mask values → verdict n f 0 mask values ≡ ask n f mask values
verdict-none {n} {f} {mask} E = verdict-plain 0 E (unread-none n f mask)

module _ {n : ℕ} {f : Formula} (g : ℕ) {mask values : ℕ} (E : Entries n f mask values) where
  abbrev hidden : ℕ
  hidden = unread n f g mask

  abbrev answer : Verdict
  answer = verdict n f g mask values

  -- an assignment that agrees with the entries and with z on the unread gauges
  on_both : (z : ℕ) → Sub z hidden → (τ : Assignment) → On (bit mask) τ (bit values) → On (bit hidden) τ (bit z) → On (bit (bit_or mask hidden)) τ (bit (values + z))
  on_both z i τ a b k h = or_cases (bit mask k) (bit hidden k) (sym (bit-or mask hidden k) ∙ h)
      (λ m. a k m ∙ sym (set_entered g E z i k m))
      (λ m. b k m ∙ sym (set-gauges g E z i k m))

  -- where it is possible, some such assignment makes f true; else none does
  possible-some : (z : ℕ) → Sub z hidden → truth (possible n f g mask) (bit (values + z)) ≡ true
      → (τ : Assignment) × On (bit mask) τ (bit values) × On (bit hidden) τ (bit z) × (truth f τ ≡ true)
  possible-some z i h =
      let s = ask-some n f (bit_or mask hidden) (values + z) (sym (possible-ask g E z i) ∙ h) in (
        s.0,
        λ k m. s.1 k (bits_sub (sub-or-left mask hidden) k m) ∙ set_entered g E z i k m,
        λ k m. s.1 k (bits_sub (sub-or-right mask hidden) k m) ∙ set-gauges g E z i k m,
        s.2,
      )

  impossible_never : (z : ℕ) → Sub z hidden → truth (possible n f g mask) (bit (values + z)) ≡ false
      → (τ : Assignment) → On (bit mask) τ (bit values) → On (bit hidden) τ (bit z) → truth f τ ≡ false
  impossible_never z i h τ a b = ask-never (set-entries g E z i) (sym (possible-ask g E z i) ∙ h) τ (on_both z i τ a b)

  -- yes: for every assignment that agrees with the entries there is one with the same unread gauges that makes f true
  pub verdict-every : answer.holds ≡ true → (σ : Assignment) → On (bit mask) σ (bit values)
      → (τ : Assignment) × On (bit mask) τ (bit values) × On (bit hidden) τ σ × (truth f τ ≡ true)
  verdict-every h σ a =
      let z = gauges_in g E σ in
      let i = in_sub g E σ in
      let s = possible-some z i (assured-every g E (sym (verdict-holds g E) ∙ h) z i) in
      (s.0, s.1, λ k m. s.2 k m ∙ in_bit g E σ k m, s.3)

  pub every-verdict : ((σ : Assignment) → On (bit mask) σ (bit values) → (τ : Assignment) × On (bit mask) τ (bit values) × On (bit hidden) τ σ × (truth f τ ≡ true))
      → answer.holds ≡ true
  every-verdict h = verdict-holds g E ∙ every-assured g E (λ z i. by_bool (truth (possible n f g mask) (bit (values + z))) (λ t. t)
      (λ t. let s = h (bit (values + z)) (set_entered g E z i) in
      clash (truth f s.0) s.3 (impossible_never z i t s.0 s.1 (λ k m. s.2 k m ∙ set-gauges g E z i k m))))

  -- yes: the word is the smallest that agrees with the entries, makes f true and has the unread gauges at 0
  pub verdict_smallest : answer.holds ≡ true → Smallest n f (bit_or mask hidden) values answer.word
  unfolding verdict
  verdict_smallest h =
      let t = sym (verdict-holds g E) ∙ h in
      let q : (ask n f (bit_or mask hidden) values).holds ≡ true =
      ap (λ (x : ℕ). (ask n f (bit_or mask hidden) x).holds) (sym (add-zero values)) ∙ sym (possible-ask g E 0 (none-sub hidden)) ∙ assured-every g E t 0 (none-sub hidden) in
      rw t (ask-word (rw (add-zero values) at (set-entries g E 0 (none-sub hidden))) q)

  -- no: the word is the smallest setting of the unread gauges that fails
  pub verdict_failing : answer.holds ≡ false → Failing n f g mask values answer.word
  unfolding verdict fails
  verdict_failing h = rw t (record {
    inside = inside-sub w hidden (and_both (inside w hidden) _ hit).0;
    fails = impossible_never w (inside-sub w hidden (and_both (inside w hidden) _ hit).0) (not-true _ (and_both (inside w hidden) _ hit).1);
    least = λ z i l. possible-some z i (by_bool (truth (possible n f g mask) (bit (values + z))) (λ p. p) (λ p. clash (fails n f g mask values z) (fits z i p) (least_miss p₀ 0 (suc hidden) z (omega arith) l)));
  })
    where
      p₀ : ℕ → Bool
      p₀ = fails n f g mask values

      w : ℕ
      w = least p₀ 0 (suc hidden)

      t : truth (assured n f g mask) (bit values) ≡ false
      t = sym (verdict-holds g E) ∙ h

      fits : (z : ℕ) → Sub z hidden → truth (possible n f g mask) (bit (values + z)) ≡ false → fails n f g mask values z ≡ true
      fits z i p = rw (sub-inside i, p)

      -- none fails: it would be assured
      reached : w < suc hidden
      reached = by_bool (ltb w (suc hidden)) (λ q. ltb-true w (suc hidden) q)
          (λ q. clash (truth (assured n f g mask) (bit values))
          (every-assured g E (λ z i. by_bool (truth (possible n f g mask) (bit (values + z))) (λ p. p)
          (λ p. clash (fails n f g mask values z) (fits z i p) (least_miss p₀ 0 (suc hidden) z (omega arith) (omega (tests, q, sub-le i)))))) t)

      hit : fails n f g mask values w ≡ true
      hit = least-hit p₀ 0 (suc hidden) (omega (arith, reached))

-- ---- the reason

pub bounded-assured : {n : ℕ} {f : Formula} (g mask : ℕ) → Bounded n f → Bounded n (assured n f g mask)
unfolding assured possible
bounded-assured {n} {f} g mask B = bounded-over false (unread n f g mask) (bounded-over true (ours n f g mask) B)

-- what is assured hangs on the entered variables only
pub assured-entered : {n : ℕ} {f : Formula} {mask values : ℕ} (g : ℕ) → Entries n f mask values → (k : ℕ) → free (assured n f g mask) k ≡ true → bit mask k ≡ true
unfolding assured
assured-entered {n} {f} {mask} g E k h =
    let p = and_both (free (possible n f g mask) k) (not (bit (unread n f g mask) k)) (sym (over-free false (unread n f g mask) (possible n f g mask) k) ∙ h) in
    by_bool (bit mask k) (λ m. m) (λ m. clash (not (bit (unread n f g mask) k)) p.1 (ap not (may_free g E k p.0 m)))

-- values of the same entered variables
pub revalued : {n : ℕ} {f : Formula} {mask values : ℕ} → Entries n f mask values → (y : ℕ) → Sub y mask → Entries n f mask y
revalued E y i = record { bounded = E.bounded; opened = E.opened; valued = i }

pub reason-plain : (n : ℕ) (f : Formula) (mask values : ℕ) → reason n f 0 mask values ≡ why n f mask values
unfolding reason
reason-plain n f mask values = refl

module _ {n : ℕ} {f : Formula} (g : ℕ) (some : eqb g 0 ≡ false) {mask values : ℕ} (E : Entries n f mask values) where
  abbrev held : Bool
  held = (verdict n f g mask values).holds

  abbrev kept : ℕ
  kept = (reason n f g mask values).word

  abbrev reduced : Verdict
  reduced = record { holds = held; word = reduce n (assured n f g mask) values held n mask }

  pub reason-is : reason n f g mask values ≡ reduced
  unfolding reason
  reason-is = rw some

  pub reason-holds : (reason n f g mask values).holds ≡ held
  reason-holds = ap (λ (a : Verdict). a.holds) reason-is

  reason-word : kept ≡ reduce n (assured n f g mask) values held n mask
  reason-word = ap (λ (a : Verdict). a.word) reason-is

  -- it has entered variables only
  pub reason-entered : Sub kept mask
  reason-entered = rw reason-word (reduce-sub n (assured n f g mask) values held n mask)

  start : always n (assured n f g mask) mask values held ≡ true
  start = every-always n (assured n f g mask) mask values held
      (λ σ a. coincide (assured n f g mask) σ (bit values) (λ k h. a k (assured-entered g E k h)) ∙ sym (verdict-holds g E))

  -- the entered variables may have any other values off the reason: the verdict is the same
  pub reason_forces : (y : ℕ) → Sub y mask → On (bit kept) (bit y) (bit values) → (verdict n f g mask y).holds ≡ held
  reason_forces y i a =
      verdict-holds g (revalued E y i)
      ∙ always-every n (assured n f g mask) kept values held (bounded-assured g mask E.bounded)
      (rw reason-word (reduce-always n (assured n f g mask) values held n mask start)) (bit y) a

  -- no variable of it is idle: with any one taken out, some other values give the other verdict
  pub reason_needed : (k : ℕ) → bit kept k ≡ true
      → (y : ℕ) × Sub y mask × On (bit (without kept (2 ^ k))) (bit y) (bit values) × ((verdict n f g mask y).holds ≡ not held)
  reason_needed k h =
      let l : k < n = E.bounded.below k (sym (bit-free E.bounded k) ∙ bits_sub E.opened k (bits_sub reason-entered k h)) in
      let s = rw (← reason-word) at (reduce_idle n (assured n f g mask) values held (bounded-assured g mask E.bounded) mask k l (rw reason-word at h)) in
      let y = entries_in s.0 in (
        y,
        entries-sub s.0,
        λ j i. entries-bit s.0 j (bits_sub reason-entered j (bits_sub (without_sub kept (2 ^ k)) j i)) ∙ s.1 j i,
        verdict-holds g (revalued E y (entries-sub s.0))
            ∙ coincide (assured n f g mask) (bit y) s.0 (λ j i. entries-bit s.0 j (assured-entered g E j i)) ∙ s.2,
      )
    where
      entries_in : Assignment → ℕ
      entries_in σ = mask_of n (λ j. bit mask j && σ j)

      entries-sub : (σ : Assignment) → Sub (entries_in σ) mask
      entries-sub σ = sub-bits (entries_in σ) mask (λ j i. (and_both (bit mask j) (σ j) (and_both (ltb j n) (bit mask j && σ j) (sym (bit-mask_of n (λ m. bit mask m && σ m) j) ∙ i)).1).0)

      entries-bit : (σ : Assignment) (j : ℕ) → bit mask j ≡ true → bit (entries_in σ) j ≡ σ j
      entries-bit σ j i = bit-mask_of n (λ m. bit mask m && σ m) j ∙ rw (lt-ltb j n (E.bounded.below j (sym (bit-free E.bounded j) ∙ bits_sub E.opened j i)), i)
