-- What it means that no cause holds: of a frame, and of the frames below one. Assumes nothing.
use Prim.Native.Nat.{ℕ, zero, suc, ◌+◌, ◌≤◌, ◌<◌}
use native.Mathlib.Omega.{arith}
use Rattle.std.specs.Prelude.{◌≡◌, Bool, true, ◌&&◌, ◌||◌, eqb, leb, ltb}
use Rattle.std.proofs.Math.Path.{refl, subst}
use Rattle.std.proofs.Common.{sym, ◌∙◌, ap, eqb-true, eq-eqb, ne_eqb, le-ltb}
use Rattle.std.proofs.Math.Bool.{false}
use Rattle.words.specs.Logic.{tests}
use Rattle.words.proofs.Logic.{by_bool, clash, and_both, or-false, or_left, or_right, or_cases}
use Rattle.formula.specs.Assignment.{within}
use Rattle.sheet.specs.Cause.{some_holds, Numbered}
use Rattle.sheet.proofs.Cause.{some_append, numbered_append}
use Rattle.form.specs.Form.{variables}
use Rattle.sheet.specs.Fields.{Sheet, frames, kind_of, kind}
use Rattle.sheet.specs.Frames.{Fit, OrderedBelow}
use Rattle.sheet.specs.Rules.{some_below, used, spare_set, names, some_late, bad_range, bad_variables, binds, names_input, names_gauge, some_before, Past, meet, named_both, binds_gauge, length_causes, size_causes, field_causes, causes_at, causes_below, root_causes, frame_causes, sheet_causes}
use Rattle.form.specs.declared.Form.{Form}
use Rattle.sheet.specs.declared.Fields.{Fields}
use Rattle.sheet.specs.declared.Kind.{Kind}
use Rattle.sheet.specs.declared.Kind.TheVariants.{Never, Input, Not, And, Or, Exists, Forall, Gauge}
use Rattle.sheet.specs.RuleLaws.{Clean, CleanAt}

-- ---- some number below n

pub some_below_lem : (n : ℕ) (p : ℕ → Bool) (v : ℕ) → v < n → p v ≡ true → some_below n p ≡ true
unfolding some_below
some_below_lem zero p v h e = absurd (omega arith)
some_below_lem (suc n) p v h e = by_bool (eqb v n)
    (λ q. or_right (some_below n p) (p n) (ap p (sym (let w : v ≡ n = omega tests in w)) ∙ e))
    (λ q. or_left (some_below n p) (p n) (some_below_lem n p v (omega tests) e))

pub none_below : (n : ℕ) (p : ℕ → Bool) → some_below n p ≡ false → (v : ℕ) → v < n → p v ≡ false
none_below n p e v h = by_bool (p v) (λ t. clash (some_below n p) (some_below_lem n p v h t) e) (λ t. t)

pub below_none : (n : ℕ) (p : ℕ → Bool) → ((v : ℕ) → v < n → p v ≡ false) → some_below n p ≡ false
unfolding some_below
below_none zero p h = refl
below_none (suc n) p h = rw (below_none n p (λ v l. h v (omega arith)), h n (omega arith))

-- ---- what some frame before one does

module _ (p : Kind → ℕ → Bool) (κ : ℕ → Kind) where
  pub before-by : (k j v : ℕ) → j < k → p (κ j) v ≡ true → some_before p κ k v ≡ true
  unfolding some_before
  before-by zero j v h e = absurd (omega arith)
  before-by (suc k) j v h e = by_bool (eqb j k)
      (λ q. or_right (some_before p κ k v) (p (κ k) v) (ap (λ (i : ℕ). p (κ i) v) (sym (let w : j ≡ k = omega tests in w)) ∙ e))
      (λ q. or_left (some_before p κ k v) (p (κ k) v) (before-by k j v (omega tests) e))

  pub by_before : (k v : ℕ) → some_before p κ k v ≡ true → (j : ℕ) × (j < k) × (p (κ j) v ≡ true)
  unfolding some_before
  by_before zero v e = clash false e refl
  by_before (suc k) v e = or_cases (some_before p κ k v) (p (κ k) v) e
      (λ t. let r = by_before k v t in (r.0, omega (arith, r.1), r.2))
      (λ t. (k, omega arith, t))

-- ---- the variable that a frame names

pub input-is : (d : Kind) (v : ℕ) → names_input d v ≡ true → d ≡ Input v
unfolding names_input
input-is Never v e = clash false e refl
input-is (Input x) v e = ap Input (sym (eqb-true v x e))
input-is (Not a) v e = clash false e refl
input-is (And a b) v e = clash false e refl
input-is (Or a b) v e = clash false e refl
input-is (Exists a b c) v e = clash false e refl
input-is (Forall a b c) v e = clash false e refl
input-is (Gauge x) v e = clash false e refl

pub gauge-is : (d : Kind) (v : ℕ) → names_gauge d v ≡ true → d ≡ Gauge v
unfolding names_gauge
gauge-is Never v e = clash false e refl
gauge-is (Input x) v e = clash false e refl
gauge-is (Not a) v e = clash false e refl
gauge-is (And a b) v e = clash false e refl
gauge-is (Or a b) v e = clash false e refl
gauge-is (Exists a b c) v e = clash false e refl
gauge-is (Forall a b c) v e = clash false e refl
gauge-is (Gauge x) v e = ap Gauge (sym (eqb-true v x e))

pub is-input : (d : Kind) (v : ℕ) → d ≡ Input v → names_input d v ≡ true
unfolding names_input
is-input d v e = rw e (eq-eqb v v refl)

pub is_gauge : (d : Kind) (v : ℕ) → d ≡ Gauge v → names_gauge d v ≡ true
unfolding names_gauge
is_gauge d v e = rw e (eq-eqb v v refl)

-- ---- ranges of variables

pub range-fits : (F : Form) (b c : ℕ) → bad_range F b c ≡ false → (1 ≤ c) × (c ≤ variables F) × (b + c ≤ variables F)
unfolding bad_range
range-fits F b c e =
    let p = or-false (eqb c 0) _ e in
    let q = or-false (ltb (variables F) c) _ p.1 in
    (omega (tests, p.0), omega (tests, q.0), omega (tests, q.1))

pub fits-range : (F : Form) (b c : ℕ) → 1 ≤ c → c ≤ variables F → b + c ≤ variables F → bad_range F b c ≡ false
unfolding bad_range
fits-range F b c l m h = rw (ne_eqb c 0 (λ e. omega arith), le-ltb (variables F) c m, le-ltb (variables F) (b + c) h)

range-low : (F : Form) (b c v : ℕ) → bad_range F b c ≡ false → within b c v ≡ true → v < variables F
unfolding within
range-low F b c v g e = omega (tests, (and_both (leb b v) (ltb v (b + c)) e).1, (range-fits F b c g).2)

-- a variable that is bound is one of the sheet's
pub binds-low : (F : Form) (d : Kind) (v : ℕ) → bad_variables F d ≡ false → binds d v ≡ true → v < variables F
unfolding bad_variables binds
binds-low F Never v g e = clash false e refl
binds-low F (Input x) v g e = clash false e refl
binds-low F (Not a) v g e = clash false e refl
binds-low F (And a b) v g e = clash false e refl
binds-low F (Or a b) v g e = clash false e refl
binds-low F (Exists a b c) v g e = range-low F b c v g e
binds-low F (Forall a b c) v g e = range-low F b c v g e
binds-low F (Gauge x) v g e = clash false e refl

-- and so is one that is named
pub input-low : (F : Form) (d : Kind) (v : ℕ) → bad_variables F d ≡ false → names_input d v ≡ true → v < variables F
unfolding bad_variables
input-low F d v g e = omega (tests, ap (bad_variables F) (sym (input-is d v e)) ∙ g)

pub gauge_low : (F : Form) (d : Kind) (v : ℕ) → bad_variables F d ≡ false → names_gauge d v ≡ true → v < variables F
unfolding bad_variables
gauge_low F d v g e = omega (tests, ap (bad_variables F) (sym (gauge-is d v e)) ∙ g)

-- ---- sets of variables

pub meet-none : (F : Form) (p q : ℕ → Bool) → ((v : ℕ) → v < variables F → p v ≡ true → q v ≡ true → ⊥) → meet F p q ≡ false
unfolding meet
meet-none F p q h =
    below_none (variables F) (λ v. p v && q v) (λ v l. by_bool (p v && q v) (λ e. let b = and_both (p v) (q v) e in absurd (h v l b.0 b.1)) (λ e. e))

pub none-meet : (F : Form) (p q : ℕ → Bool) → meet F p q ≡ false → (v : ℕ) → v < variables F → p v ≡ true → q v ≡ false
unfolding meet
none-meet F p q e v l h = ap (λ (t : Bool). t && q v) (sym h) ∙ none_below (variables F) (λ v. p v && q v) e v l

-- neither way round
pub neither_named : (F : Form) (d : Kind) (p : Past) → named_both F d p ≡ false → (meet F (names_input d) p.gauges ≡ false) × (meet F (names_gauge d) p.inputs ≡ false)
unfolding named_both
neither_named F d p e = or-false (meet F (names_input d) p.gauges) _ e

pub neither_bound : (F : Form) (d : Kind) (p : Past) → binds_gauge F d p ≡ false → (meet F (binds d) p.gauges ≡ false) × (meet F (names_gauge d) p.bound ≡ false)
unfolding binds_gauge
neither_bound F d p e = or-false (meet F (binds d) p.gauges) _ e

-- ---- frames

one_late : (k a : ℕ) → (leb k a || false) ≡ false → a < k
one_late k a e = omega (tests, (or-false (leb k a) false e).0)

two_late : (k a b : ℕ) → (leb k a || (leb k b || false)) ≡ false → (a < k) × (b < k)
two_late k a b e = let p = or-false (leb k a) (leb k b || false) e in (omega (tests, p.0), one_late k b p.1)

pub fit-kind : (F : Form) (k : ℕ) (d : Kind) → some_late k (names d) ≡ false → bad_variables F d ≡ false → Fit (variables F) k d
unfolding some_late names bad_variables
fit-kind F k Never e g = tt
fit-kind F k (Input x) e g = omega (tests, g)
fit-kind F k (Not a) e g = one_late k a e
fit-kind F k (And a b) e g = two_late k a b e
fit-kind F k (Or a b) e g = two_late k a b e
fit-kind F k (Exists a b c) e g = (one_late k a e, (range-fits F b c g).2)
fit-kind F k (Forall a b c) e g = (one_late k a e, (range-fits F b c g).2)
fit-kind F k (Gauge x) e g = omega (tests, g)

module _ (F : Form) (f : Fields) (k : ℕ) (p : Past) where
  pub none-clean : some_holds (field_causes F f k p) ≡ false → Clean F f k p
  unfolding some_holds field_causes
  none-clean e =
      let d = kind_of f in
      let e6 = or-false (ltb 7 f.k) _ e in
      let e7 = or-false (spare_set (used d) f.a f.b f.c) _ e6.1 in
      let e8 = or-false (some_late k (names d)) _ e7.1 in
      let e9 = or-false (bad_variables F d) _ e8.1 in
      let e22 = or-false (named_both F d p) _ e9.1 in
      let e23 = or-false (binds_gauge F d p) _ e22.1 in
      let e10 = or-false (meet F (binds d) p.bound) _ e23.1 in
      record { known = e6.0; spare = e7.0; earlier = e8.0; variable = e9.0; unmixed = e22.0; unbound = e23.0; once = e10.0 }

  pub clean-none : Clean F f k p → some_holds (field_causes F f k p) ≡ false
  unfolding some_holds field_causes
  clean-none g = rw (g.known, g.spare, g.earlier, g.variable, g.unmixed, g.unbound, g.once)

  pub field_numbered : Numbered (field_causes F f k p)
  unfolding field_causes
  field_numbered = (omega arith, (omega arith, (omega arith, (omega arith, (omega arith, (omega arith, (omega arith, tt)))))))

module _ (s : Sheet) where
  pub below-clean : (k : ℕ) → some_holds (causes_below s k) ≡ false → (j : ℕ) → j < k → CleanAt s j
  unfolding causes_below
  below-clean zero e j h = absurd (omega arith)
  below-clean (suc k) e j h =
      let p = or-false (some_holds (causes_below s k)) (some_holds (causes_at s k)) (sym (some_append (causes_below s k) (causes_at s k)) ∙ e) in
      by_bool (eqb j k)
      (λ q. let w : j ≡ k = omega tests in subst (CleanAt s) (sym w) (none-clean s.form _ k _ p.1))
      (λ q. below-clean k p.0 j (omega tests))

  pub clean-below : (k : ℕ) → ((j : ℕ) → j < k → CleanAt s j) → some_holds (causes_below s k) ≡ false
  unfolding causes_below some_holds
  clean-below zero h = refl
  clean-below (suc k) h =
      some_append (causes_below s k) (causes_at s k) ∙ rw (clean-below k (λ j l. h j (omega arith)), clean-none s.form _ k _ (h k (omega arith)))

  -- the frames below a count name only earlier frames and only the sheet's variables
  pub below-ordered : (k : ℕ) → k ≤ frames s → ((j : ℕ) → j < k → CleanAt s j) → OrderedBelow k (variables s.form) (kind s)
  below-ordered k m h j l = fit-kind s.form j _ (h j l).earlier (h j l).variable

  below_numbered : (k : ℕ) → Numbered (causes_below s k)
  unfolding causes_below
  below_numbered zero = tt
  below_numbered (suc k) = numbered_append (causes_below s k) (causes_at s k) (below_numbered k) (field_numbered s.form _ k _)

  pub frame_numbered : Numbered (frame_causes s)
  unfolding frame_causes
  frame_numbered = numbered_append (causes_below s (frames s)) (root_causes s) (below_numbered (frames s)) (omega arith, tt)

  pub size_numbered : Numbered (size_causes s)
  unfolding length_causes
  size_numbered = (omega arith, (omega arith, tt))

  pub sheet_numbered : Numbered (sheet_causes s)
  sheet_numbered = numbered_append (size_causes s) (frame_causes s) size_numbered frame_numbered
