-- What a reader may conclude of a normal sheet. Each theorem stands under its sentence. Assumes nothing.
use Rattle.std.specs.Prelude.{ℕ, ◌+◌, ◌≤◌, ◌<◌, ◌≡◌, refl, Bool, true, false, ◌&&◌, ◌↔◌, length}
use Rattle.std.proofs.Common.{arith, ◌∙◌, subst, inl, inr, ⊎_elim}
use Rattle.std.proofs.Math.Path.{sym, ap, ap₂}
use Rattle.std.proofs.Math.Bool.{and-false}
use mathlib.Core.List.Memᴰ
use mathlib.Core.List.{[], ◌∷◌, Memᴰ}
use Rattle.words.proofs.Logic.{by_bool, clash, and_both, and_intro, same_test}
use Rattle.form.specs.Form as Sizes
use Rattle.form.specs.declared.Form.{Form}
use Rattle.formula.specs.Assignment.{Assignment}
use Rattle.formula.specs.Formula.{Formula, truth, free}
use Rattle.sheet.specs.Fields.{Sheet, frames, variables, fields_at, kind}
use Rattle.sheet.specs.Frames.{formula, Fit}
use Rattle.sheet.specs.Rules as Rules
use Rattle.sheet.specs.Rules.{last, used, names}
use Rattle.sheet.proofs.Gauges.{gauge_named, some_gauge}
use Rattle.sheet.specs.Keeps.{Quantifies, Keeps}
use Rattle.sheet.specs.declared.Fields.{Fields}
use Rattle.sheet.specs.declared.Kind.{Kind}
use Rattle.sheet.specs.declared.Kind.TheVariants.{Never, Input, Not, And, Or, Exists, Forall, Gauge}
use Rattle.normal.specs.Normal.{fields_of, reading, gate_of, quant_of, Placed, place, gauge_of, normal_frames, frames_bytes, normal_bytes, normal}
use Rattle.normal.proofs.BytesLaws.{bytes-length, bytes-fields}
use Rattle.normal.specs.PlaceLaws.{Says, nothing, reads, denies, joins, binds, formula_at}
use Rattle.normal.proofs.PlaceLaws.{says_fit, formed, formula_once}
use Rattle.normal.specs.FormulaLaws.{binder, occurs}
use Rattle.normal.proofs.FormulaLaws.{frame-binds, free-occurs, occurs-free, occurs_read, place-reads, every-part}
use Rattle.normal.proofs.NormalLaws.{sheet_says, last_in, normal-written, stem, normal-few, normal-some, normal-frames, normal-kind, normal-at, normal_says}
pub use Rattle.normal.proofs.NormalLaws.{normal-formula}
use Rattle.normal.specs.Certificate.{SameTree, open_gauge}

-- ---- what a kind's fields are

known : (d : Kind) → (fields_of d).k ≤ 7
unfolding fields_of
known Never = omega arith
known (Input x) = omega arith
known (Not a) = omega arith
known (And a b) = omega arith
known (Or a b) = omega arith
known (Exists a b c) = omega arith
known (Forall a b c) = omega arith
known (Gauge x) = omega arith

-- spare fields are 0
spare : (d : Kind) → (used d < 1 → (fields_of d).a ≡ 0) × (used d < 2 → (fields_of d).b ≡ 0) × (used d < 3 → (fields_of d).c ≡ 0)
unfolding fields_of used
spare Never = (λ h. refl, λ h. refl, λ h. refl)
spare (Input x) = (λ h. absurd (omega arith), λ h. refl, λ h. refl)
spare (Not a) = (λ h. absurd (omega arith), λ h. refl, λ h. refl)
spare (And a b) = (λ h. absurd (omega arith), λ h. absurd (omega arith), λ h. refl)
spare (Or a b) = (λ h. absurd (omega arith), λ h. absurd (omega arith), λ h. refl)
spare (Exists a b c) = (λ h. absurd (omega arith), λ h. absurd (omega arith), λ h. absurd (omega arith))
spare (Forall a b c) = (λ h. absurd (omega arith), λ h. absurd (omega arith), λ h. absurd (omega arith))
spare (Gauge x) = (λ h. absurd (omega arith), λ h. refl, λ h. refl)

one_earlier : (k a x : ℕ) → a < k → Memᴰ x (a ∷ []) → x < k
one_earlier k a x h m = ⊎_elim (λ e. omega (arith, e)) (λ n. absurd (Memᴰ.not-nil n)) (Memᴰ.cases_cons m)

two_earlier : (k a b x : ℕ) → a < k → b < k → Memᴰ x (a ∷ (b ∷ [])) → x < k
two_earlier k a b x h g m = ⊎_elim (λ e. omega (arith, e)) (λ n. one_earlier k b x g n) (Memᴰ.cases_cons m)

fit-names : (w k : ℕ) (d : Kind) → Fit w k d → (x : ℕ) → Memᴰ x (names d) → x < k
unfolding names
fit-names w k Never f x m = absurd (Memᴰ.not-nil m)
fit-names w k (Input y) f x m = absurd (Memᴰ.not-nil m)
fit-names w k (Not a) f x m = one_earlier k a x f m
fit-names w k (And a b) f x m = two_earlier k a b x f.0 f.1 m
fit-names w k (Or a b) f x m = two_earlier k a b x f.0 f.1 m
fit-names w k (Exists a b c) f x m = one_earlier k a x f.0 m
fit-names w k (Forall a b c) f x m = one_earlier k a x f.0 m
fit-names w k (Gauge y) f x m = absurd (Memᴰ.not-nil m)

-- what a frame says of its variables
abbrev Proper : (ℕ → Bool) → Kind → Type 0
Proper γ Never = Unit {0}
Proper γ (Input x) = γ x ≡ false
Proper γ (Not a) = Unit {0}
Proper γ (And a b) = Unit {0}
Proper γ (Or a b) = Unit {0}
Proper γ (Exists a b c) = 1 ≤ c
Proper γ (Forall a b c) = 1 ≤ c
Proper γ (Gauge x) = γ x ≡ true

proper-reading : (γ : ℕ → Bool) (g : Bool) (x : ℕ) → γ x ≡ g → Proper γ (reading g x)
proper-reading γ true x e = e
proper-reading γ false x e = e

proper-gate : (γ : ℕ → Bool) (d : Bool) (a b : ℕ) → Proper γ (gate_of d a b)
proper-gate γ true a b = tt
proper-gate γ false a b = tt

proper-quant : (γ : ℕ → Bool) (d : Bool) (b c a : ℕ) → 1 ≤ c → Proper γ (quant_of d b c a)
proper-quant γ true b c a h = h
proper-quant γ false b c a h = h

says_proper : {γ : ℕ → Bool} {w k : ℕ} {d : Kind} → Says γ w k d → Proper γ d
says_proper nothing = tt
says_proper {γ} (reads x h) = proper-reading γ (γ x) x refl
says_proper (denies a h) = tt
says_proper {γ} (joins d a b g h) = proper-gate γ d a b
says_proper {γ} (binds d b c a h m n) = proper-quant γ d b c a m

module _ (s : Sheet) (K : Keeps s) where
  abbrev N : Sheet
  N = normal s

  abbrev γ : ℕ → Bool
  γ = gauge_of s

  in_list : {k : ℕ} → k < frames N → k < length (normal_frames s)
  in_list h = omega (arith, h, normal-frames s K)

  fields-of : (k : ℕ) → k < frames N → fields_at N k ≡ fields_of (kind N k)
  fields-of k h = bytes-fields s.form (normal_frames s) k (in_list h) ∙ ap fields_of (sym (normal-kind s K k))

  fit : (k : ℕ) → k < frames N → Fit (variables s) k (kind N k)
  fit k h = says_fit (normal_says s K k h)

  proper : (k : ℕ) {d : Kind} → k < frames N → kind N k ≡ d → Proper γ d
  proper k h e = subst (Proper γ) e (says_proper (normal_says s K k h))

  -- frame j has the formula of a frame of the sheet, so it binds the same variables
  pub record Stem (j : ℕ) : Type 0 where
    pub frame : ℕ
    pub inside : frame < frames s
    pub same : formula_at (normal_frames s) j ≡ formula s frame
    pub bound : (v : ℕ) → Rules.binds (kind N j) v ≡ Rules.binds (kind s frame) v

  stem_of : (j : ℕ) → j < frames N → Stem j
  stem_of j h =
      let r = stem s K j (in_list h) in
      record {
        frame = r.0;
        inside = r.1.0;
        same = r.1.1;
        bound = λ v. frame-binds j v (formed (normal_says s K) j h)
            ∙ ap (λ (f : Formula). binder f v) (normal-at s K j ∙ r.1.1)
            ∙ sym (frame-binds r.0 v (formed (sheet_says s K) r.0 r.1.0));
      }

  range : (k a b c : ℕ) → k < frames N → Quantifies (kind N k) a b c → (1 ≤ c) × (c ≤ variables s) × (b + c ≤ variables s)
  range k a b c h (inl e) = let f = subst (Fit (variables s) k) e (fit k h) in (proper k h e, omega (arith, f.1), f.1)
  range k a b c h (inr e) = let f = subst (Fit (variables s) k) e (fit k h) in (proper k h e, omega (arith, f.1), f.1)

  -- It is accepted: it keeps the rules of its form.
  pub normal-keeps : Keeps N
  normal-keeps = record {
    whole = ap (Sizes.frame_start s.form) (normal-frames s K) ∙ sym (bytes-length s.form (normal_frames s));
    least = omega (arith, normal-frames s K, normal-some s K);
    most = omega (arith, normal-frames s K, normal-few s K, K.most);
    known = λ k h. rw (fields-of k h) (known (kind N k));
    spare_a = λ k h u. ap (λ (f : Fields). f.a) (fields-of k h) ∙ (spare (kind N k)).0 u;
    spare_b = λ k h u. ap (λ (f : Fields). f.b) (fields-of k h) ∙ (spare (kind N k)).1 u;
    spare_c = λ k h u. ap (λ (f : Fields). f.c) (fields-of k h) ∙ (spare (kind N k)).2 u;
    earlier = λ k a h m. fit-names (variables s) k (kind N k) (fit k h) a m;
    variable = λ k x h q. ⊎_elim (λ e. subst (Fit (variables s) k) e (fit k h)) (λ e. subst (Fit (variables s) k) e (fit k h)) q;
    range = λ k a b c h q. range k a b c h q;
    unmixed = λ j k x i h p q. clash (γ x) (proper k h q) (proper j i p);
    unbound = λ j k x i h p.
        let g = gauge_named s x (proper j i p) in
        let r = stem_of k h in
        r.bound x ∙ K.unbound g.0 r.frame x g.1 r.inside g.2;
    once = λ j k v i h p q.
        let a = stem_of j i in
        let b = stem_of k h in
        let e = K.once a.frame b.frame v a.inside b.inside (sym (a.bound v) ∙ p) (sym (b.bound v) ∙ q) in
        formula_once (normal-written s K) j k (in_list i) (in_list h) (a.same ∙ ap (formula s) e ∙ sym b.same);
    closed = λ k v h p.
        let r = stem_of k h in
        ap (λ (f : Formula). free f v) (normal-formula s K) ∙ K.closed r.frame v r.inside (sym (r.bound v) ∙ p);
  }

  -- It has the same value under every assignment.
  pub normal-value : (σ : Assignment) → truth (formula N (last N)) σ ≡ truth (formula s (last s)) σ
  normal-value σ = ap (λ (f : Formula). truth f σ) (normal-formula s K)

  -- It has the same open variables.
  pub normal_open : (x : ℕ) → free (formula N (last N)) x ≡ free (formula s (last s)) x
  normal_open x = ap (λ (f : Formula). free f x) (normal-formula s K)

  -- the variables that its formula reads are gauges if they are gauges of the sheet
  read_gauges : (x : ℕ) → occurs (formula s (last s)) x ≡ true → gauge_of N x ≡ γ x
  read_gauges x o = same_test (gauge_of N x) (γ x)
      (λ e. let r = gauge_named N x e in proper r.0 r.1 r.2)
      (λ e. let r = occurs_read (normal_says s K) x (last N) (last_in N normal-keeps) (ap (λ (f : Formula). occurs f x) (normal-formula s K) ∙ o) in
      some_gauge N normal-keeps r.0 x r.1 (r.2 ∙ ap (λ (g : Bool). reading g x) e))

  -- The same of them are gauges.
  pub normal-gauges : (x : ℕ) → open_gauge N x ≡ open_gauge s x
  unfolding open_gauge
  normal-gauges x = by_bool (free (formula s (last s)) x)
      (λ e. ap₂ (λ (a b : Bool). a && b) (read_gauges x (free-occurs (formula s (last s)) x e)) (normal_open x))
      (λ e. ap (λ (b : Bool). gauge_of N x && b) (normal_open x ∙ e) ∙ and-false (gauge_of N x)
      ∙ sym (ap (λ (b : Bool). γ x && b) e ∙ and-false (γ x)))

  -- Writing it again changes nothing.
  pub normal-again : normal_bytes N ≡ normal_bytes s
  unfolding normal_frames
  normal-again = ap (λ (p : Placed). frames_bytes s.form p.frames)
      (ap (λ (f : Formula). place (gauge_of N) f []) (normal-formula s K)
      ∙ place-reads (gauge_of N) γ (formula s (last s)) [] (λ x o. read_gauges x o))

  -- a gauge that the formula reads is open, since no frame binds it
  pub read_open : (x : ℕ) → γ x ≡ true → occurs (formula s (last s)) x ≡ true → open_gauge s x ≡ true
  unfolding open_gauge
  read_open x e o =
      let g = gauge_named s x e in
      and_intro (γ x) (free (formula s (last s)) x) e
      (occurs-free (formula s (last s)) x
      (every-part (sheet_says s K) (λ f. binder f x ≡ false)
      (λ k h. sym (frame-binds k x (formed (sheet_says s K) k h)) ∙ K.unbound g.0 k x g.1 h g.2)
      (last s) (last_in s K)) o)

gauge_open : (s : Sheet) (x : ℕ) → open_gauge s x ≡ true → gauge_of s x ≡ true
unfolding open_gauge
gauge_open s x e = (and_both (gauge_of s x) (free (formula s (last s)) x) e).0

module _ (s t : Sheet) (K : Keeps s) (L : Keeps t) (one : s.form ≡ t.form) where
  same-sheet : normal_bytes s ≡ normal_bytes t → normal s ≡ normal t
  same-sheet e = λ j. record { form = one j; bytes = e j }

  same-placed : SameTree s t → normal_bytes s ≡ normal_bytes t
  unfolding normal_frames
  same-placed T = ap₂ (λ (F : Form) (p : Placed). frames_bytes F p.frames) one
      (place-reads (gauge_of s) (gauge_of t) (formula s (last s)) [] (λ x o. same_test (gauge_of s x) (gauge_of t x)
      (λ e. gauge_open t x (sym (T.gauges x) ∙ read_open s K x e o))
      (λ e. gauge_open s x (T.gauges x ∙ read_open t L x e (ap (λ (f : Formula). occurs f x) (sym T.tree) ∙ o))))
      ∙ ap (λ (f : Formula). place (gauge_of t) f []) T.tree)

  -- They give equal bytes exactly if their unfolded formulas are the same tree.
  pub same-tree : (normal_bytes s ≡ normal_bytes t) ↔ SameTree s t
  same-tree = (
    λ e. let n = same-sheet e in
        record {
          tree = sym (normal-formula s K) ∙ ap (λ (u : Sheet). formula u (last u)) n ∙ normal-formula t L;
          gauges = λ x. sym (normal-gauges s K x) ∙ ap (λ (u : Sheet). open_gauge u x) n ∙ normal-gauges t L x;
        },
    same-placed,
  )
