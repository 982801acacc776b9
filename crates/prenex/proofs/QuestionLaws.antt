-- The sheet of a question keeps the rules for a sheet and has no gauge, and its formula has the question's truth and free variables. Assumes nothing.
use Rattle.std.specs.Prelude.{ℕ, ◌+◌, ◌-◌, ◌≤◌, ◌<◌, ◌≡◌, refl, Bool, true, false, not, ◌&&◌, ltb, length, get_or}
use Rattle.std.proofs.Common.{le_trans, zero-add, arith, ◌∙◌, ⊎_elim, length-append}
use Rattle.std.proofs.Math.Path.{sym, subst}
use Rattle.std.proofs.Math.Bool.{and-false}
use mathlib.Core.List.Memᴰ
use mathlib.Core.List.{List, [], ◌∷◌, Memᴰ}
use Rattle.words.specs.Logic.{tests}
use Rattle.words.proofs.Logic.{by_bool, clash}
use Rattle.formula.specs.Formula.{free}
use Rattle.sheet.specs.Fields.{Sheet, narrow, frames, kind}
use Rattle.sheet.specs.Frames.{formula, Fit, Ordered, OrderedBelow}
use Rattle.sheet.proofs.Frames.{kind-past}
use Rattle.sheet.specs.Rules.{used, names}
use Rattle.sheet.proofs.Gauges.{no-gauges}
use Rattle.sheet.specs.Keeps.{Quantifies, Reads, Keeps}
use Rattle.sheet.specs.declared.Kind.{Kind}
use Rattle.sheet.specs.declared.Kind.TheVariants.{Never, Input, Not, And, Or, Exists, Forall, Gauge}
use Rattle.prenex.specs.Question.{Literal, Block, Clause, Question, matrix_truth, question_truth, occurs, all_atoms, quantified}
use Rattle.prenex.specs.Question.{Every, Distinct, SomeBelow, Proper}
use Rattle.prenex.specs.Kinds.{variables, matrix_kinds, block_kinds, kinds, frame_bytes, sheet_bytes, sheet_of}
use Rattle.prenex.specs.SheetLaws.{fields_of, Has}
use Rattle.prenex.proofs.SheetLaws.{sheet-length, sheet-frames, sheet-fields, sheet-kind, has_left, has_right, sheet_has}
use Rattle.prenex.specs.ChainLaws.{Plain, plain-input, plain-not, plain-and, plain-or}
use Rattle.prenex.proofs.Every.{every_map, every-wider}
use Rattle.prenex.specs.MatrixLaws.{MatrixStands}
use Rattle.prenex.proofs.MatrixLaws.{matrix-stands}
use Rattle.prenex.specs.PrefixLaws.{BlocksBelow, Stands, Ranged, Binds}
use Rattle.prenex.proofs.PrefixLaws.{stands_same, stands-blocks, binds-same, binds-none, binds-join, binds-blocks}
use Rattle.prenex.specs.QuestionLaws.{ClausesBelow, SheetOf, SheetOfMatrix}

-- ---- the fields of a frame

fields-known : (d : Kind) → (fields_of d).k ≤ 7
unfolding frame_bytes
fields-known Never = omega arith
fields-known (Input x) = omega arith
fields-known (Not a) = omega arith
fields-known (And a b) = omega arith
fields-known (Or a b) = omega arith
fields-known (Exists a b c) = omega arith
fields-known (Forall a b c) = omega arith
fields-known (Gauge x) = omega arith

-- those that a kind does not use are 0
fields-spare : (d : Kind) → (used d < 1 → (fields_of d).a ≡ 0) × (used d < 2 → (fields_of d).b ≡ 0) × (used d < 3 → (fields_of d).c ≡ 0)
unfolding frame_bytes used
fields-spare Never = (λ h. refl, λ h. refl, λ h. refl)
fields-spare (Input x) = (λ h. absurd (omega arith), λ h. refl, λ h. refl)
fields-spare (Not a) = (λ h. absurd (omega arith), λ h. refl, λ h. refl)
fields-spare (And a b) = (λ h. absurd (omega arith), λ h. absurd (omega arith), λ h. refl)
fields-spare (Or a b) = (λ h. absurd (omega arith), λ h. absurd (omega arith), λ h. refl)
fields-spare (Exists a b c) = (λ h. absurd (omega arith), λ h. absurd (omega arith), λ h. absurd (omega arith))
fields-spare (Forall a b c) = (λ h. absurd (omega arith), λ h. absurd (omega arith), λ h. absurd (omega arith))
fields-spare (Gauge x) = (λ h. absurd (omega arith), λ h. refl, λ h. refl)

-- ---- the rules

one_earlier : (k a b : ℕ) → b < k → Memᴰ a (b ∷ []) → a < k
one_earlier k a b h m = ⊎_elim (λ e. omega arith) (λ n. absurd (Memᴰ.not-nil n)) (Memᴰ.cases_cons m)

fit_earlier : (k a : ℕ) (d : Kind) → Fit variables k d → Memᴰ a (names d) → a < k
unfolding names
fit_earlier k a Never w m = absurd (Memᴰ.not-nil m)
fit_earlier k a (Input x) w m = absurd (Memᴰ.not-nil m)
fit_earlier k a (Not b) w m = one_earlier k a b w m
fit_earlier k a (And b c) w m = ⊎_elim (λ e. omega (arith, e, w.0)) (λ n. one_earlier k a c w.1 n) (Memᴰ.cases_cons m)
fit_earlier k a (Or b c) w m = ⊎_elim (λ e. omega (arith, e, w.0)) (λ n. one_earlier k a c w.1 n) (Memᴰ.cases_cons m)
fit_earlier k a (Exists b c e) w m = one_earlier k a b w.0 m
fit_earlier k a (Forall b c e) w m = one_earlier k a b w.0 m
fit_earlier k a (Gauge x) w m = absurd (Memᴰ.not-nil m)

fit-variable : (k x : ℕ) (d : Kind) → Fit variables k d → Reads d x → x < 32
fit-variable k x d w q = ⊎_elim (λ e. subst (Fit variables k) e w) (λ e. subst (Fit variables k) e w) q

fit-range : (k a b c : ℕ) (d : Kind) → Fit variables k d → Ranged d → Quantifies d a b c → (1 ≤ c) × (c ≤ 32) × (b + c ≤ 32)
fit-range k a b c d w r q =
    ⊎_elim
    (λ e. let f : Fit variables k (Exists a b c) = subst (Fit variables k) e w in (subst Ranged e r, omega (arith, f.1), f.1))
    (λ e. let f : Fit variables k (Forall a b c) = subst (Fit variables k) e w in (subst Ranged e r, omega (arith, f.1), f.1))
    q

-- none of these frames is a gauge
bound-ungauged : {κ : ℕ → Kind} {n e : ℕ} {m : ℕ → Bool} → Binds κ n e m → (k x : ℕ) → n ≤ k → k < e → κ k ≡ Gauge x → ⊥
bound-ungauged b k x i j q = subst Ranged q (b.ranged k i j)

-- kinds whose frames are in order and bind each variable of m once, none of them open in the last frame, make a sheet
sheet-keeps : (ks : List Kind) (m : ℕ → Bool) → 1 ≤ length ks → length ks ≤ 200
    → OrderedBelow (length ks) variables (kind (narrow (sheet_bytes ks))) → Binds (kind (narrow (sheet_bytes ks))) 0 (length ks) m
    → ((v : ℕ) → m v ≡ true → free (formula (narrow (sheet_bytes ks)) (length ks - 1)) v ≡ false) → Keeps (narrow (sheet_bytes ks))
sheet-keeps ks m l u o b c = record {
  whole = omega (arith, sheet-length ks);
  least = omega (arith, n);
  most = omega (arith, n);
  known = λ k h. rw (sheet-fields ks k (rw n at h)) (fields-known (get_or ks k Never));
  spare_a = λ k h i. rw (sheet-fields ks k (rw n at h)) ((fields-spare (get_or ks k Never)).0 (rw (sheet-kind ks k) at i));
  spare_b = λ k h i. rw (sheet-fields ks k (rw n at h)) ((fields-spare (get_or ks k Never)).1 (rw (sheet-kind ks k) at i));
  spare_c = λ k h i. rw (sheet-fields ks k (rw n at h)) ((fields-spare (get_or ks k Never)).2 (rw (sheet-kind ks k) at i));
  earlier = λ k a h i. fit_earlier k a (kind s k) (o k (rw n at h)) i;
  variable = λ k x h e. fit-variable k x (kind s k) (o k (rw n at h)) e;
  range = λ k a x y h q. fit-range k a x y (kind s k) (o k (rw n at h)) (b.ranged k (omega arith) (rw n at h)) q;
  unmixed = λ j k x h i p q. bound-ungauged b k x (omega arith) (rw n at i) q;
  unbound = λ j k x h i q. absurd (bound-ungauged b j x (omega arith) (rw n at h) q);
  once = λ j k v h i. b.once j k v (omega arith) (rw n at h) (omega arith) (rw n at i);
  closed = λ k v h t. rw n (c v (b.bound k v (omega arith) (rw n at h) t));
}
  where
    s : Sheet
    s = narrow (sheet_bytes ks)

    n : frames s ≡ length ks
    n = sheet-frames ks

plain_ranged : {k : ℕ} {d : Kind} → Plain k d → Ranged d
plain_ranged (plain-input h) = tt
plain_ranged (plain-not h) = tt
plain_ranged (plain-and h i) = tt
plain_ranged (plain-or h i) = tt

-- past the end there is Never
sheet-ordered : (ks : List Kind) → OrderedBelow (length ks) variables (kind (narrow (sheet_bytes ks))) → Ordered variables (kind (narrow (sheet_bytes ks)))
sheet-ordered ks o = record {
  fit = λ k.
      by_bool (ltb k (length ks))
      (λ e. o k (omega tests))
      (λ e. rw (kind-past (narrow (sheet_bytes ks)) k (omega (tests, sheet-frames ks))) tt);
}

-- variables below a number that is at most 32
pub clauses-below : {n : ℕ} {cs : List Clause} → n ≤ variables → Every (SomeBelow (λ (l : Literal). l.variable) n) cs → ClausesBelow cs
clauses-below = every-wider

pub matrix-sheet : (cs : List Clause) → 1 ≤ length cs → ClausesBelow cs → length (matrix_kinds cs) ≤ 200 → SheetOfMatrix cs
matrix-sheet cs l b u =
    let n = sheet-frames (matrix_kinds cs) in
    let w = matrix-stands cs l b (sheet_has (matrix_kinds cs)) in
    record {
      ordered = sheet-ordered (matrix_kinds cs) w.ordered;
      least = omega (arith, n, w.least);
      most = omega (arith, n);
      unbound = λ k v i. w.unbound k v (rw n at i);
      ungauged = no-gauges (narrow (sheet_bytes (matrix_kinds cs))) (λ k i x e. subst Ranged e (plain_ranged (w.plain k (rw n at i))));
      truth-is = λ σ. rw n (w.truth-is σ);
      free-is = λ x. rw n (w.free-is x);
    }

blocks-below : {n : ℕ} {bs : List Block} → n ≤ variables → Every (λ (b : Block). SomeBelow (λ (x : ℕ). x) n b.atoms) bs → BlocksBelow bs
blocks-below h w = every_map (λ b x. every_map (λ y z. le_trans z h) x.below) w

-- frames that have the kinds of a question: what they mean, and what they bind
module _ (κ : ℕ → Kind) (q : Question) (h : Has κ 0 (kinds q)) (matrix : MatrixStands κ q.clauses) (below : BlocksBelow q.blocks) where
  abbrev start : ℕ
  start = length (matrix_kinds q.clauses)

  abbrev prefix : List Kind
  prefix = block_kinds q.blocks start

  has_prefix : Has κ start prefix
  unfolding kinds
  has_prefix = subst (λ (i : ℕ). Has κ i prefix) (zero-add start) (has_right (matrix_kinds q.clauses) prefix h)

  end : start + length prefix ≡ length (kinds q)
  unfolding kinds
  end = sym (length-append (matrix_kinds q.clauses) prefix)

  question_stands : Stands κ (length (kinds q)) (question_truth q) (λ x. occurs q.clauses x && not (quantified q.blocks x))
  unfolding question_truth
  question_stands =
      let first : Stands κ start (matrix_truth q.clauses) (occurs q.clauses) =
      record { least = matrix.least; ordered = matrix.ordered; truth-is = matrix.truth-is; free-is = matrix.free-is } in
      stands_same end (λ σ. refl) (λ x. refl) (stands-blocks below has_prefix first)

  -- the matrix binds nothing
  question_binds : Distinct (all_atoms q.blocks) → Binds κ 0 (length (kinds q)) (quantified q.blocks)
  question_binds o =
      let none_before = binds-none κ 0 start (λ k i j. plain_ranged (matrix.plain k j)) (λ k v i j. matrix.unbound k v j) in
      binds-same end (λ v. refl) (binds-join none_before (binds-blocks below o has_prefix) (λ v t. clash false t refl))

has_matrix : {κ : ℕ → Kind} (q : Question) → Has κ 0 (kinds q) → Has κ 0 (matrix_kinds q.clauses)
unfolding kinds
has_matrix q h = has_left (matrix_kinds q.clauses) (block_kinds q.blocks (length (matrix_kinds q.clauses))) h

pub question_sheet : (q : Question) → Proper q → q.variables ≤ 32 → length (kinds q) ≤ 200 → SheetOf q
unfolding sheet_of
question_sheet q w l u =
    let h = sheet_has (kinds q) in
    let n = sheet-frames (kinds q) in
    let below = blocks-below l w.blocks-below in
    let matrix = matrix-stands q.clauses w.some-clause (clauses-below l w.clauses-below) (has_matrix q h) in
    let whole = question_stands (kind (narrow (sheet_of q))) q h matrix below in
    let bound = question_binds (kind (narrow (sheet_of q))) q h matrix below w.once in
    record {
      keeps = sheet-keeps (kinds q) (quantified q.blocks) whole.least u whole.ordered bound
          (λ v t. whole.free-is v ∙ rw t (and-false (occurs q.clauses v)));
      ungauged = no-gauges (narrow (sheet_of q)) (λ k i x e. bound-ungauged bound k x (omega arith) (rw n at i) e);
      truth-is = λ σ. rw n (whole.truth-is σ);
      free-is = λ x. rw n (whole.free-is x);
    }
