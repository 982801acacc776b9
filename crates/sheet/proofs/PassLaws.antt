-- One pass over the frames: what holds before frame k, how it comes to hold before the next, and what the check answers. Assumes nothing.
use Prim.Native.Nat.{ℕ, zero, suc, ◌+◌, ◌-◌, ◌^◌, ◌≤◌, ◌<◌}
use Rattle.std.proofs.Common.{add-one, arith, ◌∙◌, subst, get_or-set_other}
use Rattle.std.specs.Prelude.{◌≡◌, refl, Bool, false, ◌||◌, length, get_or, set, eqb}
use Rattle.std.proofs.Math.Path.{sym, ap}
use Rattle.std.proofs.Math.Bool.{true, or-false}
use mathlib.Core.List.{List, [], ◌∷◌}
use Rattle.std.proofs.Math.ListN.{length-set}
use Rattle.std.proofs.Math.Seq.{get_or-set_same}
use Rattle.words.specs.Logic.{tests}
use Rattle.words.proofs.Logic.{by_bool, clash, or_left, or_right}
use Rattle.words.specs.Word.{bit}
use Rattle.words.proofs.Bits.{bit-or, bit-none, ext}
use Rattle.formula.specs.Formula.{free}
use Rattle.formula.specs.Ask.{free_mask}
use Rattle.formula.proofs.Ask.{free_mask-lt, bit-free}
use Rattle.sheet.specs.Cause.{Cause, Refusal, first, some_holds}
use Rattle.sheet.proofs.Cause.{some_append, first-later, first_earlier, first-none, none_first}
use Rattle.form.proofs.FormLaws.{few-variables}
use Rattle.sheet.specs.Fields.{Sheet, frames, most_frames, variables, kind}
use Rattle.sheet.specs.Frames.{formula, Fit}
use Rattle.sheet.proofs.Frames.{fit-later, fit-more, formula-below}
use Rattle.sheet.specs.Rules.{last, bad_variables, some_before, bound_before, gauges, Past, past_of, meet, length_causes, size_causes, field_causes, causes_of, causes_at, causes_below, root_causes, frame_causes, sheet_causes}
use Rattle.form.specs.declared.Form.{Form}
use Rattle.sheet.specs.declared.Fields.{Fields}
use Rattle.sheet.specs.declared.Kind.{Kind}
use Rattle.sheet.specs.declared.rules.Seen.{Seen}
use Rattle.sheet.specs.RuleLaws.{CleanAt}
use Rattle.sheet.proofs.RuleLaws.{none-clean, clean-below, below-ordered, field_numbered, size_numbered}
use Rattle.sheet.proofs.AcceptedLaws.{clean-ordered, ordered-bounded}
use Rattle.sheet.proofs.Gauges.{gauges-all}
use Rattle.sheet.specs.Check.{Checks, past_by, seen_after, free_word}
use Rattle.sheet.proofs.CheckLaws.{bit-bound_mask, bit-input_mask, bit-gauge_mask, freeWord-is, meet-same}
use Rattle.sheet.specs.Pass.{Passed, RootChecks}

pub passed_none : (s : Sheet) (words : List ℕ) (seen : Seen) (k : ℕ) → frames s ≤ most_frames s → most_frames s ≤ length words
    → k ≡ 0 → (seen.bound ≡ 0) × ((seen.inputs ≡ 0) × (seen.gauges ≡ 0)) → Passed s words seen k
unfolding some_before
passed_none s words seen k m l e z =
    rw e (record {
      most = m;
      room = l;
      within = omega arith;
      clean = λ j h. absurd (omega arith);
      frees = λ a h. absurd (omega arith);
      bounds = λ v. rw z.0 (bit-none v);
      inputs = λ v. rw z.1.0 (bit-none v);
      gauges = λ v. rw z.1.1 (bit-none v);
    })

module _ (s : Sheet) (words : List ℕ) (seen : Seen) (k : ℕ) (P : Passed s words seen k) (h : k < frames s) where
  past_same : past_by seen ≡ past_of (kind s) k
  past_same = λ i. record { bound = λ v. P.bounds v i; inputs = λ v. P.inputs v i; gauges = λ v. P.gauges v i }

  -- the causes at frame k, by the words
  pub causes-same : causes_of s k (past_by seen) ≡ causes_at s k
  causes-same = ap (causes_of s k) past_same

  pub fault_clean : (first (causes_of s k (past_by seen))).number ≡ 0 → CleanAt s k
  fault_clean e =
      none-clean s.form _ k _ (first-none (causes_at s k) (field_numbered s.form _ k _) (ap (λ (l : List Cause). (first l).number) (sym causes-same) ∙ e))

  module _ (g : CleanAt s k) where
    clean-next : (j : ℕ) → j < suc k → CleanAt s j
    clean-next j l = by_bool (eqb j k)
        (λ q. let e : k ≡ j = omega tests in subst (CleanAt s) e g)
        (λ q. P.clean j (omega tests))

    pub fit_next : Fit (variables s) k (kind s k)
    fit_next = below-ordered s (suc k) h clean-next k (omega arith)

    free-next : free_word words (kind s k) ≡ free_mask (variables s) (formula s k)
    free-next =
        freeWord-is (variables s) k words (formula s) (kind s k) P.frees fit_next
        ∙ ap (free_mask (variables s)) (sym (formula-below (variables s) (suc k) (kind s) (below-ordered s (suc k) h clean-next) k (omega arith)))

    pub pass_next : Passed s (set words k (free_word words (kind s k))) (seen_after seen (kind s k)) (k + 1)
    unfolding some_before
    pass_next = rw (add-one k) (record {
      most = P.most;
      room = simp length-set P.room;
      within = omega arith;
      clean = clean-next;
      frees = λ a l. by_bool (eqb a k)
          (λ q. let e : a ≡ k = omega tests in rw (e, get_or-set_same words k (free_word words (kind s k)) 0 (omega (arith, P.room, P.most))) free-next)
          (λ q. rw (get_or-set_other words k a (free_word words (kind s k)) 0 (λ e. omega tests)) (P.frees a (omega tests)));
      bounds = λ v. rw (bit-or, P.bounds v, bit-bound_mask);
      inputs = λ v. rw (bit-or, P.inputs v, bit-input_mask);
      gauges = λ v. rw (bit-or, P.gauges v, bit-gauge_mask);
    })

-- a word of the table is one of the form's
pub passed_small : (s : Sheet) (words : List ℕ) (seen : Seen) (k a : ℕ) → Passed s words seen k → a < k → get_or words a 0 < 2 ^ variables s
passed_small s words seen k a P l = rw (P.frees a l) (free_mask-lt (variables s) (formula s a))

-- the same of a kind, and of words that the code has worked out
module _ (s : Sheet) (words : List ℕ) (seen : Seen) (k : ℕ) (P : Passed s words seen k) (h : k < frames s) (g : CleanAt s k) (d : Kind) (e : d ≡ kind s k) where
  pub kind-fit : Fit (variables s) (most_frames s) d
  kind-fit = subst (Fit (variables s) (most_frames s)) (sym e) (fit-later (variables s) k (most_frames s) (kind s k) (omega (arith, P.most)) (fit_next s words seen k P h g))

  pub kind-room : Fit 64 (length words) d
  kind-room = fit-more (variables s) 64 (most_frames s) (length words) d (few-variables s.form) P.room kind-fit

  pub kind-range : bad_variables s.form d ≡ false
  kind-range = ap (bad_variables s.form) e ∙ g.variable

  pub pass_read : (l : List ℕ) (r : Seen) → l ≡ set words k (free_word words d) → r ≡ seen_after seen d → Passed s l r (k + 1)
  pass_read l r p q = rw (p, q, e) (pass_next s words seen k P h g)

-- ---- the answers

-- every cause of the list is told at k
abbrev At : ℕ → List Cause → Type 0
At k [] = Unit {0}
At k (c ∷ cs) = (c.place ≡ k) × At k cs

place_of : (cs : List Cause) (k : ℕ) → At k cs → some_holds cs ≡ true → (first cs).place ≡ k
unfolding first some_holds
place_of [] k a e = clash false e refl
place_of (c ∷ cs) k a e = by_bool c.holds
    (λ h. rw h a.0)
    (λ h. rw h (place_of cs k a.1 (ap (λ (t : Bool). t || some_holds cs) (sym h) ∙ e)))

field-place : (F : Form) (f : Fields) (k : ℕ) (p : Past) → some_holds (field_causes F f k p) ≡ true → (first (field_causes F f k p)).place ≡ k
unfolding first some_holds field_causes
field-place F f k p e = place_of (field_causes F f k p) k (refl, (refl, (refl, (refl, (refl, (refl, (refl, tt))))))) e

module _ (s : Sheet) (k : ℕ) (clean : (j : ℕ) → j < k → CleanAt s j) (e : some_holds (causes_at s k) ≡ true) where
  -- a cause at frame k comes before those of later frames
  holds-below : (m : ℕ) → k < m → some_holds (causes_below s m) ≡ true
  unfolding causes_below
  holds-below zero h = absurd (omega arith)
  holds-below (suc m) h = some_append (causes_below s m) (causes_at s m) ∙ by_bool (eqb k m)
      (λ q. let w : m ≡ k = omega tests in or_right (some_holds (causes_below s m)) (some_holds (causes_at s m)) (ap (λ (j : ℕ). some_holds (causes_at s j)) w ∙ e))
      (λ q. or_left (some_holds (causes_below s m)) (some_holds (causes_at s m)) (holds-below m (omega tests)))

  first_below : (m : ℕ) → k < m → first (causes_below s m) ≡ first (causes_at s k)
  unfolding causes_below
  first_below zero h = absurd (omega arith)
  first_below (suc m) h = by_bool (eqb k m)
      (λ q. let w : m ≡ k = omega tests in rw w (first-later (causes_below s k) (causes_at s k) (clean-below s k clean)))
      (λ q. let l : k < m = omega tests in first_earlier (causes_below s m) (causes_at s m) (holds-below m l) ∙ first_below m l)

module _ (s : Sheet) (words : List ℕ) (seen : Seen) (k : ℕ) (P : Passed s words seen k) (h : k < frames s) where
  fault_holds : (n : ℕ) → n ≡ (first (causes_of s k (past_by seen))).number → (n ≡ 0 → ⊥) → some_holds (causes_at s k) ≡ true
  fault_holds n e z = by_bool (some_holds (causes_at s k)) (λ t. t)
      (λ t. absurd (z (e ∙ ap (λ (l : List Cause). (first l).number) (causes-same s words seen k P h)
      ∙ ap (λ (r : Refusal). r.number) (none_first (causes_at s k) t))))

  -- refused at frame k
  pub fault_checks : (n : ℕ) → n ≡ (first (causes_of s k (past_by seen))).number → (n ≡ 0 → ⊥) → Checks (frame_causes s) s n k 0 0
  unfolding frame_causes
  fault_checks n e z =
      let t = fault_holds n e z in
      let below = holds-below s k P.clean t (frames s) h in
      let f = first_earlier (causes_below s (frames s)) (root_causes s) below ∙ first_below s k P.clean t (frames s) h in
      record {
        number_is = e ∙ ap (λ (l : List Cause). (first l).number) (causes-same s words seen k P h) ∙ ap (λ (r : Refusal). r.number) (sym f);
        place_is = sym (ap (λ (r : Refusal). r.place) f ∙ field-place s.form _ k _ t);
        free-is = rw (some_append (causes_below s (frames s)) (root_causes s), below);
        gauges_are = rw (some_append (causes_below s (frames s)) (root_causes s), below);
      }

module _ (s : Sheet) (words : List ℕ) (seen : Seen) (P : Passed s words seen (frames s)) (h : 0 < frames s) where
  abbrev word : ℕ
  word = get_or words (last s) 0

  word-mask : word ≡ free_mask (variables s) (formula s (last s))
  word-mask = P.frees (last s) (omega arith)

  word-is : (v : ℕ) → bit word v ≡ free (formula s (last s)) v
  word-is v = ap (λ (w : ℕ). bit w v) word-mask ∙ bit-free (ordered-bounded (variables s) (kind s) (clean-ordered s P.clean) (last s)) v

  gauges-is : seen.gauges ≡ gauges s
  gauges-is = ext seen.gauges (gauges s) (λ v. P.gauges v ∙ sym (gauges-all s (λ k l. (P.clean k l).variable) v))

  meet-is : meet s.form (bit seen.bound) (bit word) ≡ meet s.form (bound_before (kind s) (frames s)) (free (formula s (last s)))
  meet-is = meet-same s.form (bit seen.bound) _ (bit word) _ P.bounds word-is

  below_none : some_holds (causes_below s (frames s)) ≡ false
  below_none = clean-below s (frames s) P.clean

  some-root : some_holds (frame_causes s) ≡ meet s.form (bit seen.bound) (bit word)
  unfolding frame_causes some_holds
  some-root = some_append (causes_below s (frames s)) (root_causes s) ∙ rw (below_none, meet-is, or-false)

  first-root : first (frame_causes s) ≡ first (root_causes s)
  unfolding frame_causes
  first-root = first-later (causes_below s (frames s)) (root_causes s) below_none

  -- no cause holds at any frame
  pub root_checks : (n p f g : ℕ) → RootChecks s.form word seen (last s) n p f g → Checks (frame_causes s) s n p f g
  unfolding first
  root_checks n p f g r = by_bool (meet s.form (bit seen.bound) (bit word))
      (λ t. record {
        number_is = r.number_is ∙ rw (first-root, ← meet-is, t);
        place_is = r.place_is ∙ rw (first-root, ← meet-is, t);
        free-is = r.free-is ∙ rw (some-root, t);
        gauges_are = r.gauges_are ∙ rw (some-root, t);
      })
      (λ t. record {
        number_is = r.number_is ∙ rw (first-root, ← meet-is, t);
        place_is = r.place_is ∙ rw (first-root, ← meet-is, t);
        free-is = r.free-is ∙ rw (some-root, t) word-mask;
        gauges_are = r.gauges_are ∙ rw (some-root, t) gauges-is;
      })

  -- the same of a form and a count of frames that the code has worked out
  pub root_read : (F : Form) (m : ℕ) → F ≡ s.form → m ≡ frames s → (n p f g : ℕ) → RootChecks F (get_or words (m - 1) 0) seen (m - 1) n p f g → Checks (frame_causes s) s n p f g
  root_read F m i e n p f g r =
      root_checks n p f g (subst (λ (k : ℕ). RootChecks s.form (get_or words (k - 1) 0) seen (k - 1) n p f g) e
      (subst (λ (G : Form). RootChecks G (get_or words (m - 1) 0) seen (m - 1) n p f g) i r))

-- ---- the size first, then the frames

module _ (s : Sheet) where
  pub size_none : (n : ℕ) → n ≡ (first (size_causes s)).number → n ≡ 0 → some_holds (size_causes s) ≡ false
  size_none n e z = first-none (size_causes s) (size_numbered s) (sym e ∙ z)

  pub size_checks : (n : ℕ) → n ≡ (first (size_causes s)).number → (n ≡ 0 → ⊥) → Checks (sheet_causes s) s n 0 0 0
  unfolding length_causes
  size_checks n e z =
      let t : some_holds (size_causes s) ≡ true = by_bool (some_holds (size_causes s)) (λ t. t)
      (λ t. absurd (z (e ∙ ap (λ (r : Refusal). r.number) (none_first (size_causes s) t)))) in
      let f = first_earlier (size_causes s) (frame_causes s) t in
      record {
        number_is = e ∙ ap (λ (r : Refusal). r.number) (sym f);
        place_is = sym (ap (λ (r : Refusal). r.place) f ∙ place_of (size_causes s) 0 (refl, (refl, tt)) t);
        free-is = rw (some_append (size_causes s) (frame_causes s), t);
        gauges_are = rw (some_append (size_causes s) (frame_causes s), t);
      }

  pub frames_check : some_holds (size_causes s) ≡ false → (n p f g : ℕ) → Checks (frame_causes s) s n p f g → Checks (sheet_causes s) s n p f g
  frames_check t n p f g c =
      let e = first-later (size_causes s) (frame_causes s) t in
      record {
        number_is = c.number_is ∙ ap (λ (r : Refusal). r.number) (sym e);
        place_is = c.place_is ∙ ap (λ (r : Refusal). r.place) (sym e);
        free-is = c.free-is ∙ rw (some_append (size_causes s) (frame_causes s), t);
        gauges_are = c.gauges_are ∙ rw (some_append (size_causes s) (frame_causes s), t);
      }
