-- A sheet is accepted exactly if it keeps document 01's and 02's rules, and refused by a number at a place exactly if that cause holds and none
-- earlier in the order does; what the layers above use of a sheet that is accepted. Assumes nothing.
use Rattle.std.specs.Prelude.{ℕ, zero, suc, ◌+◌, ◌≤◌, ◌<◌, ◌≡◌, Bool, not, ◌&&◌, ◌||◌, ◌↔◌, length, eqb, leb, ltb}
use Rattle.std.proofs.Common.{arith, sym, ◌∙◌, ap, subst, inl, inr, ⊎_elim}
use Rattle.std.proofs.Math.Path.{refl}
use Rattle.std.proofs.Math.Bool.{true, false}
use mathlib.Core.List.Memᴰ
use mathlib.Core.List.{List, [], ◌∷◌, Memᴰ}
use borrow.Author.Tests.{ne_eqb, eq-eqb, le-leb, le-ltb, lt-leb}
use Rattle.words.specs.Logic.{not-false, tests}
use Rattle.words.proofs.Logic.{by_bool, clash, or-false}
use Rattle.formula.specs.Formula.{Formula, free}
use Rattle.formula.specs.Ask.{Bounded}
use Rattle.formula.proofs.FreeMask.{bounded-never, bounded-input, bounded-neg, bounded-gate, bounded-quant}
use Rattle.sheet.specs.Cause.{Refusal, accepted, some_holds, Foremost}
use Rattle.sheet.proofs.Cause.{some_append, none_first, first-none, foremost_exactly}
use Rattle.form.specs.Form.{rest}
use Rattle.form.proofs.FormLaws.{rest-whole, whole-rest, whole-frames, frames-some}
use Rattle.form.specs.Form as Sizes
use Rattle.form.specs.declared.Form.{Form}
use Rattle.sheet.specs.Fields.{Sheet, frames, most_frames, variables, kind}
use Rattle.sheet.specs.Frames.{formula, formula_of, build, Fit, Ordered}
use Rattle.sheet.proofs.Frames.{formula-is, kind-past}
use Rattle.sheet.specs.Rules.{last, spare_set, names, some_late, bad_variables, binds, names_input, names_gauge, some_before, bound_before, meet, named_both, binds_gauge, length_causes, size_causes, causes_below, root_causes, frame_causes, sheet_causes, sheet_refusal}
use Rattle.sheet.specs.RuleLaws.{CleanAt}
use Rattle.sheet.proofs.RuleLaws.{before-by, by_before, input-is, gauge-is, is-input, is_gauge, range-fits, fits-range, binds-low, input-low, gauge_low, meet-none, none-meet, neither_named, neither_bound, below-clean, clean-below, below-ordered, sheet_numbered}
use Rattle.sheet.specs.Keeps.{Quantifies, Reads, Keeps}
use Rattle.sheet.specs.declared.Kind.{Kind}
use Rattle.sheet.specs.declared.Kind.TheVariants.{Never, Input, Not, And, Or, Exists, Forall, Gauge}
use Rattle.sheet.specs.Accepted.{Accepted, Sized}

pub none_sized : (s : Sheet) → some_holds (size_causes s) ≡ false → Sized s
unfolding some_holds length_causes
none_sized s e =
    let n = length s.bytes in
    let p = or-false (eqb n 0 || not (eqb (rest s.form n) 0)) _ e in
    let q = or-false (eqb n 0) (not (eqb (rest s.form n) 0)) p.0 in
    let t = or-false (ltb (most_frames s) (frames s)) false p.1 in
    let r = not-false (eqb (rest s.form n) 0) q.1 in
    let z : rest s.form n ≡ 0 = omega (tests, r) in
    record { whole = rest-whole s.form n z; least = whole-frames s.form n (λ z. omega (tests, q.0)) z; most = omega (tests, t.0) }

pub sized_none : (s : Sheet) → Sized s → some_holds (size_causes s) ≡ false
unfolding some_holds length_causes
sized_none s z =
    rw (
      ne_eqb (length s.bytes) 0 (frames-some s.form (length s.bytes) z.least),
      eq-eqb (rest s.form (length s.bytes)) 0 (whole-rest s.form (length s.bytes) z.whole),
      le-ltb (most_frames s) (frames s) z.most,
    )

spare-zero : (n a b c : ℕ) → spare_set n a b c ≡ false → ((n < 1 → a ≡ 0) × (n < 2 → b ≡ 0) × (n < 3 → c ≡ 0))
unfolding spare_set
spare-zero n a b c e =
    let p = or-false (leb n 0 && not (eqb a 0)) _ e in
    let q = or-false (leb n 1 && not (eqb b 0)) _ p.1 in
    (λ h. zero_it n 0 a p.0 (omega arith), λ h. zero_it n 1 b q.0 (omega arith), λ h. zero_it n 2 c q.1 (omega arith))
  where
    zero_it : (n m x : ℕ) → (leb n m && not (eqb x 0)) ≡ false → n ≤ m → x ≡ 0
    zero_it n m x e h = by_bool (eqb x 0) (λ t. omega tests) (λ t. clash (leb n m && not (eqb x 0)) (rw (le-leb n m h, t)) e)

zero-spare : (n a b c : ℕ) → (n < 1 → a ≡ 0) → (n < 2 → b ≡ 0) → (n < 3 → c ≡ 0) → spare_set n a b c ≡ false
unfolding spare_set
zero-spare n a b c f g h = rw (spare-false n 0 a (λ l. f (omega arith)), spare-false n 1 b (λ l. g (omega arith)), spare-false n 2 c (λ l. h (omega arith)))
  where
    spare-false : (n m x : ℕ) → (n ≤ m → x ≡ 0) → (leb n m && not (eqb x 0)) ≡ false
    spare-false n m x h = by_bool (leb n m) (λ t. rw (t, eq-eqb x 0 (h (omega tests)))) (λ t. rw t)

late_none : (k : ℕ) (l : List ℕ) → some_late k l ≡ false → (a : ℕ) → Memᴰ a l → a < k
unfolding some_late
late_none k [] e a m = absurd (Memᴰ.not-nil m)
late_none k (x ∷ l) e a m =
    let p = or-false (leb k x) (some_late k l) e in
    ⊎_elim (λ q. omega (tests, p.0)) (λ q. late_none k l p.1 a q) (Memᴰ.cases_cons m)

none_late : (k : ℕ) (l : List ℕ) → ((a : ℕ) → Memᴰ a l → a < k) → some_late k l ≡ false
unfolding some_late
none_late k [] h = refl
none_late k (x ∷ l) h = rw (lt-leb k x (h x (Memᴰ.head refl)), none_late k l (λ a m. h a (Memᴰ.tail m)))

variables_good : (F : Form) (d : Kind) → ((x : ℕ) → Reads d x → x < Sizes.variables F)
    → ((a b c : ℕ) → Quantifies d a b c → (1 ≤ c) × (c ≤ Sizes.variables F) × (b + c ≤ Sizes.variables F)) → bad_variables F d ≡ false
unfolding bad_variables
variables_good F Never f g = refl
variables_good F (Input x) f g = lt-leb (Sizes.variables F) x (f x (inl refl))
variables_good F (Not a) f g = refl
variables_good F (And a b) f g = refl
variables_good F (Or a b) f g = refl
variables_good F (Exists a b c) f g = let r = g a b c (inl refl) in fits-range F b c r.0 r.1 r.2
variables_good F (Forall a b c) f g = let r = g a b c (inr refl) in fits-range F b c r.0 r.1 r.2
variables_good F (Gauge x) f g = lt-leb (Sizes.variables F) x (f x (inr refl))

input_good : (F : Form) (d : Kind) (x : ℕ) → bad_variables F d ≡ false → Reads d x → x < Sizes.variables F
unfolding bad_variables
input_good F d x e (inl q) = omega (tests, ap (bad_variables F) (sym q) ∙ e)
input_good F d x e (inr q) = omega (tests, ap (bad_variables F) (sym q) ∙ e)

range_good : (F : Form) (d : Kind) (a b c : ℕ) → bad_variables F d ≡ false → Quantifies d a b c → (1 ≤ c) × (c ≤ Sizes.variables F) × (b + c ≤ Sizes.variables F)
unfolding bad_variables
range_good F d a b c e (inl q) = range-fits F b c (ap (bad_variables F) (sym q) ∙ e)
range_good F d a b c e (inr q) = range-fits F b c (ap (bad_variables F) (sym q) ∙ e)

-- ---- no cause holds exactly if the rules are kept

module _ (s : Sheet) where
  -- a frame that does q to v, where no frame before it that does p has a variable in common with it
  clashes : (p q : Kind → ℕ → Bool) (j k v : ℕ) → j < k → meet s.form (q (kind s k)) (some_before p (kind s) k) ≡ false → v < variables s → p (kind s j) v ≡ true → q (kind s k) v ≡ true → ⊥
  clashes p q j k v h e l a b = clash (some_before p (kind s) k v) (before-by p (kind s) k j v h a) (none-meet s.form _ _ e v l b)

  -- and back
  apart : (p q : Kind → ℕ → Bool) (k : ℕ) → ((j v : ℕ) → j < k → p (kind s j) v ≡ true → q (kind s k) v ≡ true → ⊥) → meet s.form (q (kind s k)) (some_before p (kind s) k) ≡ false
  apart p q k h = meet-none s.form _ _ (λ v l b a. let r = by_before p (kind s) k v a in h r.0 v r.1 r.2 b)

  -- frame k is clean: what it does not do behind frame j
  module _ (j k v : ℕ) (h : j < k) (g : CleanAt s k) where
    twice : binds (kind s j) v ≡ true → binds (kind s k) v ≡ true → ⊥
    twice a b = clashes binds binds j k v h g.once (binds-low s.form _ v g.variable b) a b

    input-behind : names_gauge (kind s j) v ≡ true → names_input (kind s k) v ≡ true → ⊥
    input-behind a b = clashes names_gauge names_input j k v h (neither_named s.form _ _ g.unmixed).0 (input-low s.form _ v g.variable b) a b

    gauge_behind_input : names_input (kind s j) v ≡ true → names_gauge (kind s k) v ≡ true → ⊥
    gauge_behind_input a b = clashes names_input names_gauge j k v h (neither_named s.form _ _ g.unmixed).1 (gauge_low s.form _ v g.variable b) a b

    binder-behind : names_gauge (kind s j) v ≡ true → binds (kind s k) v ≡ true → ⊥
    binder-behind a b = clashes names_gauge binds j k v h (neither_bound s.form _ _ g.unbound).0 (binds-low s.form _ v g.variable b) a b

    gauge_behind_binder : binds (kind s j) v ≡ true → names_gauge (kind s k) v ≡ true → ⊥
    gauge_behind_binder a b = clashes binds names_gauge j k v h (neither_bound s.form _ _ g.unbound).1 (gauge_low s.form _ v g.variable b) a b

  -- one frame does not do both
  input-no_gauge : (d : Kind) (v : ℕ) → names_input d v ≡ true → names_gauge d v ≡ true → ⊥
  unfolding names_input
  input-no_gauge d v a b = clash false (ap (λ (d : Kind). names_input d v) (sym (gauge-is d v b)) ∙ a) refl

  gauge_no_binder : (d : Kind) (v : ℕ) → names_gauge d v ≡ true → binds d v ≡ true → ⊥
  unfolding binds
  gauge_no_binder d v a b = clash false (ap (λ (d : Kind). binds d v) (sym (gauge-is d v a)) ∙ b) refl

  keeps : Sized s → ((k : ℕ) → k < frames s → CleanAt s k) → some_holds (root_causes s) ≡ false → Keeps s
  unfolding some_holds
  keeps z g r =
      record {
        whole = z.whole;
        least = z.least;
        most = z.most;
        known = λ k h. omega (tests, (g k h).known);
        spare_a = λ k h. (spare-zero _ _ _ _ (g k h).spare).0;
        spare_b = λ k h. (spare-zero _ _ _ _ (g k h).spare).1;
        spare_c = λ k h. (spare-zero _ _ _ _ (g k h).spare).2;
        earlier = λ k a h m. late_none k (names (kind s k)) (g k h).earlier a m;
        variable = λ k x h q. input_good s.form (kind s k) x (g k h).variable q;
        range = λ k a b c h q. range_good s.form (kind s k) a b c (g k h).variable q;
        unmixed = λ j k x i h p q. mixed j k x (omega arith) (omega arith) (is-input (kind s j) x p) (is_gauge (kind s k) x q);
        unbound = λ j k x i h p. by_bool (binds (kind s k) x) (λ q. absurd (bound j k x (omega arith) (omega arith) (is_gauge (kind s j) x p) q)) (λ q. q);
        once = λ j k v i h p q. one j k v i h p q;
        closed = λ k v h p. none-meet s.form _ _ (or-false _ false r).0 v (binds-low s.form (kind s k) v (g k h).variable p) (before-by binds (kind s) (frames s) k v h p);
      }
    where
      mixed : (j k v : ℕ) → j < frames s → k < frames s → names_input (kind s j) v ≡ true → names_gauge (kind s k) v ≡ true → ⊥
      mixed j k v i h p q = by_bool (ltb j k)
          (λ t. gauge_behind_input j k v (omega tests) (g k h) p q)
          (λ t. by_bool (ltb k j)
          (λ u. input-behind k j v (omega tests) (g j i) q p)
          (λ u. let e : j ≡ k = omega tests in input-no_gauge (kind s j) v p (ap (λ (i : ℕ). names_gauge (kind s i) v) e ∙ q)))

      bound : (j k v : ℕ) → j < frames s → k < frames s → names_gauge (kind s j) v ≡ true → binds (kind s k) v ≡ true → ⊥
      bound j k v i h p q = by_bool (ltb j k)
          (λ t. binder-behind j k v (omega tests) (g k h) p q)
          (λ t. by_bool (ltb k j)
          (λ u. gauge_behind_binder k j v (omega tests) (g j i) q p)
          (λ u. let e : j ≡ k = omega tests in gauge_no_binder (kind s j) v p (ap (λ (i : ℕ). binds (kind s i) v) e ∙ q)))

      one : (j k v : ℕ) → j < frames s → k < frames s → binds (kind s j) v ≡ true → binds (kind s k) v ≡ true → j ≡ k
      one j k v i h p q = by_bool (ltb j k)
          (λ t. absurd (twice j k v (omega tests) (g k h) p q))
          (λ t. by_bool (ltb k j) (λ u. absurd (twice k j v (omega tests) (g j i) q p)) (λ u. omega tests))

  clean : Keeps s → (k : ℕ) → k < frames s → CleanAt s k
  unfolding named_both binds_gauge
  clean K k h =
      record {
        known = le-ltb 7 _ (K.known k h);
        spare = zero-spare _ _ _ _ (K.spare_a k h) (K.spare_b k h) (K.spare_c k h);
        earlier = none_late k (names (kind s k)) (λ a m. K.earlier k a h m);
        variable = variables_good s.form (kind s k) (λ x q. K.variable k x h q) (λ a b c q. K.range k a b c h q);
        unmixed = rw (
          apart names_gauge names_input k (λ j v l p q. K.unmixed k j v (omega arith) (omega arith) (input-is _ v q) (gauge-is _ v p)),
          apart names_input names_gauge k (λ j v l p q. K.unmixed j k v (omega arith) (omega arith) (input-is _ v p) (gauge-is _ v q)),
        );
        unbound = rw (
          apart names_gauge binds k (λ j v l p q. clash _ q (K.unbound j k v (omega arith) (omega arith) (gauge-is _ v p))),
          apart binds names_gauge k (λ j v l p q. clash _ p (K.unbound k j v (omega arith) (omega arith) (gauge-is _ v q))),
        );
        once = apart binds binds k (λ j v l p q. omega (arith, K.once j k v (omega arith) h p q));
      }

  root : Keeps s → some_holds (root_causes s) ≡ false
  unfolding some_holds
  root K = rw (meet-none s.form (bound_before (kind s) (frames s)) (free (formula s (last s))) (λ v l p q. still-free v q (by_before binds (kind s) (frames s) v p)))
    where
      still-free : (v : ℕ) → free (formula s (last s)) v ≡ true → ((j : ℕ) × (j < frames s) × (binds (kind s j) v ≡ true)) → ⊥
      still-free v q r = clash (free (formula s (last s)) v) q (K.closed r.0 v r.1 r.2)

  -- the frames' causes by themselves
  pub frames-clean : some_holds (frame_causes s) ≡ false → ((k : ℕ) → k < frames s → CleanAt s k) × (some_holds (root_causes s) ≡ false)
  unfolding frame_causes
  frames-clean e =
      let p = or-false _ _ (sym (some_append (causes_below s (frames s)) (root_causes s)) ∙ e) in
      (below-clean s (frames s) p.0, p.1)

  pub none-keeps : some_holds (sheet_causes s) ≡ false → Keeps s
  none-keeps e =
      let p = or-false _ _ (sym (some_append (size_causes s) (frame_causes s)) ∙ e) in
      let q = frames-clean p.1 in
      keeps (none_sized s p.0) q.0 q.1

  pub keeps-none : Keeps s → some_holds (sheet_causes s) ≡ false
  unfolding frame_causes
  keeps-none K =
      some_append (size_causes s) (frame_causes s)
      ∙ rw (
        sized_none s (record { whole = K.whole; least = K.least; most = K.most }),
        some_append (causes_below s (frames s)) (root_causes s),
        clean-below s (frames s) (clean K),
        root K,
      )

  -- ---- accepted exactly if the rules are kept; refused by n at k exactly if that cause is foremost

  pub accepted_exactly : (sheet_refusal s ≡ accepted) ↔ Keeps s
  accepted_exactly = (
    λ e. none-keeps (first-none (sheet_causes s) (sheet_numbered s) (ap (λ (r : Refusal). r.number) e)),
    λ K. none_first (sheet_causes s) (keeps-none K),
  )

  pub refused_exactly : (n k : ℕ) → 0 < n → (sheet_refusal s ≡ record { number = n; place = k }) ↔ Foremost (sheet_causes s) (record { number = n; place = k })
  refused_exactly n k h = foremost_exactly (sheet_causes s) n k h

-- ---- for the layers above

fit-past : (n k : ℕ) (d : Kind) → d ≡ Never → Fit n k d
fit-past n k d e = subst (Fit n k) (sym e) tt

-- every frame names only earlier frames and only the sheet's variables
pub clean-ordered : (s : Sheet) → ((k : ℕ) → k < frames s → CleanAt s k) → Ordered (variables s) (kind s)
clean-ordered s g =
    record {
      fit = λ k. by_bool (ltb k (frames s))
          (λ t. below-ordered s (frames s) (omega arith) g k (omega tests))
          (λ t. fit-past (variables s) k (kind s k) (kind-past s k (omega tests)));
    }

build-bounded : (n k : ℕ) (g : ℕ → Formula) (d : Kind) → Fit n k d → ((a : ℕ) → a < k → Bounded n (g a)) → Bounded n (build g d)
unfolding build
build-bounded n k g Never w h = bounded-never n
build-bounded n k g (Input x) w h = bounded-input n x w
build-bounded n k g (Not a) w h = bounded-neg (h a w)
build-bounded n k g (And a b) w h = bounded-gate false (h a w.0) (h b w.1)
build-bounded n k g (Or a b) w h = bounded-gate true (h a w.0) (h b w.1)
build-bounded n k g (Exists a b c) w h = bounded-quant true b c (h a w.0)
build-bounded n k g (Forall a b c) w h = bounded-quant false b c (h a w.0)
build-bounded n k g (Gauge x) w h = bounded-input n x w

bounded_to : (n : ℕ) (κ : ℕ → Kind) → Ordered n κ → (m k : ℕ) → k < m → Bounded n (formula_of κ k)
bounded_to n κ o zero k h = absurd (omega arith)
bounded_to n κ o (suc m) k h =
    subst (Bounded n) (sym (formula-is n κ o k))
    (build-bounded n k (formula_of κ) (κ k) (o.fit k) (λ a l. bounded_to n κ o m a (omega arith)))

-- the free variables of every frame are the sheet's
pub ordered-bounded : (n : ℕ) (κ : ℕ → Kind) → Ordered n κ → (k : ℕ) → Bounded n (formula_of κ k)
ordered-bounded n κ o k = bounded_to n κ o (suc k) k (omega arith)

pub accepted-formula : {s : Sheet} → Accepted s → (k : ℕ) → formula s k ≡ build (formula s) (kind s k)
accepted-formula {s} A k = formula-is (variables s) (kind s) A.ordered k

pub none-accepted : (s : Sheet) → some_holds (size_causes s) ≡ false → some_holds (frame_causes s) ≡ false → Accepted s
none-accepted s e h =
    let o = clean-ordered s (frames-clean s h).0 in
    record { sized = none_sized s e; ordered = o; bounded = ordered-bounded (variables s) (kind s) o }

pub accepted-sheet : (s : Sheet) → (sheet_refusal s).number ≡ 0 → Accepted s
accepted-sheet s e =
    let p = or-false _ _ (sym (some_append (size_causes s) (frame_causes s)) ∙ first-none (sheet_causes s) (sheet_numbered s) e) in
    none-accepted s p.0 p.1
