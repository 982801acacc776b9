-- What a reader may conclude of a widened sheet. Each theorem stands under its sentence. Assumes nothing.
use Prim.Native.Nat.{ℕ, zero, suc, ◌-◌, ◌^◌, ◌≤◌, ◌<◌}
use Rattle.std.proofs.Common.{arith, sym, ap₂, ◌∙◌}
use Rattle.std.specs.Prelude.{◌≡◌, true, length, ltb}
use Rattle.std.proofs.Math.Path.{refl, ap}
use Rattle.std.proofs.Math.Bool.{and-false}
use mathlib.Core.List.{List, []}
use borrow.Author.Tests.{lt-ltb}
use Rattle.words.proofs.Logic.{by_bool}
use Rattle.words.specs.Word.{bit}
use Rattle.words.proofs.Bits.{ext}
use Rattle.formula.specs.Formula.{Formula, free}
use Rattle.formula.specs.Ask.{Bounded}
use Rattle.formula.proofs.Over.{same-value}
use Rattle.formula.proofs.Widths.{verdict_width, reason_width}
use Rattle.form.specs.Form.{answer_start}
use Rattle.form.specs.declared.Form.TheVariants.{Narrow, Wide}
use Rattle.sheet.specs.Fields.{narrow, wide, frames}
use Rattle.sheet.specs.Frames.{formula}
use Rattle.sheet.specs.Rules.{last, used, binds, gauges}
use Rattle.sheet.proofs.Gauges.{gauge_named, some_gauge}
use Rattle.sheet.specs.Keeps.{Keeps}
use Rattle.sheet.specs.declared.Fields.{Fields}
use Rattle.sheet.specs.declared.Kind.{Kind}
use Rattle.model.specs.declared.Entry.{Entry}
use Rattle.model.specs.Model.{Meaning, Answer, answer_bytes, meaning, entered_mask, entered_values, Reply, line_refusal, obeyed, line, lines, line_at, after, answer_at}
use Rattle.model.specs.Entries.{Entered}
use Rattle.model.proofs.Entries.{mask_lt, none-entered}
use Rattle.model.proofs.Script.{after-keeps}
use Rattle.certificate.specs.Run.{book, before}
use Rattle.certificate.proofs.Before.{kept-accepted}
use Rattle.certificate.specs.Call.{Call, Meets}
use Rattle.certificate.specs.Certificate.{line_bytes}
use Rattle.certificate.proofs.Certificate.{accepted_exactly, one_answer}
use Rattle.widen.specs.Widen.{widened}
use Rattle.widen.proofs.WidenLaws.{widened-length, widened-frames, same-fields, same_kind, same-formula}

-- ---- the reference model does not hang on the number of variables

module _ (n m : ℕ) (f : Formula) (g : ℕ) (B : Bounded n f) (more : n ≤ m) where
  wider : Bounded m f
  wider = record { below = λ k e. omega (arith, B.below k e) }

  same_opens : (x : ℕ) → (meaning m f g).opens x ≡ (meaning n f g).opens x
  unfolding meaning
  same_opens x = by_bool (free f x)
      (λ e. rw (e, lt-ltb x m (wider.below x e), lt-ltb x n (B.below x e)))
      (λ e. rw (e, and-false (ltb x m), and-false (ltb x n)))

  same-refusal : (es : List Entry) (k a b c : ℕ) → line_refusal (meaning m f g) es k a b c ≡ line_refusal (meaning n f g) es k a b c
  unfolding line_refusal
  same-refusal es k a b c = rw (same_opens a)

  same-obeyed : (es : List Entry) (k a b c : ℕ) → entered_mask es < 2 ^ n → obeyed (meaning m f g) es k a b c ≡ obeyed (meaning n f g) es k a b c
  unfolding obeyed meaning
  same-obeyed es k a b c l =
      rw (verdict_width B wider g (entered_mask es) (entered_values es), reason_width B wider more g (entered_mask es) (entered_values es) l)

  same_line : (es : List Entry) (k a b c : ℕ) → entered_mask es < 2 ^ n → line (meaning m f g) es k a b c ≡ line (meaning n f g) es k a b c
  unfolding line
  same_line es k a b c l = rw (same-refusal es k a b c, same-obeyed es k a b c l)

  same_at : (script : List ℕ) (es : List Entry) (i : ℕ) → Entered (meaning n f g) es → line_at (meaning m f g) script es i ≡ line_at (meaning n f g) script es i
  unfolding line_at
  same_at script es i d = same_line es _ _ _ _ (mask_lt n f g d)

  kept : (script : List ℕ) (i : ℕ) → Entered (meaning n f g) (after (meaning n f g) [] script i)
  kept script i = after-keeps (meaning n f g) [] script (none-entered (meaning n f g)) i

  pub same_after : (script : List ℕ) (i : ℕ) → after (meaning m f g) [] script i ≡ after (meaning n f g) [] script i
  unfolding after
  same_after script zero = refl
  same_after script (suc i) =
      ap (λ (es : List Entry). (line_at (meaning m f g) script es i).entries) (same_after script i)
      ∙ ap (λ (r : Reply). r.entries) (same_at script (after (meaning n f g) [] script i) i (kept script i))

  pub same_answer : (script : List ℕ) (i : ℕ) → answer_at (meaning m f g) [] script i ≡ answer_at (meaning n f g) [] script i
  unfolding answer_at
  same_answer script i =
      ap (λ (es : List Entry). (line_at (meaning m f g) script es i).answer) (same_after script i)
      ∙ ap (λ (r : Reply). r.answer) (same_at script (after (meaning n f g) [] script i) i (kept script i))

-- ---- a widened sheet

module _ (s : List ℕ) where
  abbrev w : List ℕ
  w = widened s

  -- It has as many frames, and each the same formula.
  pub widened-formula : (k : ℕ) → formula (wide w) k ≡ formula (narrow s) k
  widened-formula k = same-formula s k

  last-same : last (wide w) ≡ last (narrow s)
  last-same = ap (λ (n : ℕ). n - 1) (widened-frames s)

  -- so the sheets have the same formula
  root-same : formula (wide w) (last (wide w)) ≡ formula (narrow s) (last (narrow s))
  root-same = ap (formula (wide w)) last-same ∙ widened-formula (last (narrow s))

  module _ (K : Keeps (narrow s)) where
    in_narrow : {k : ℕ} → k < frames (wide w) → k < frames (narrow s)
    in_narrow h = omega (arith, h, widened-frames s)

    -- It keeps the rules of wide sheets if the narrow one keeps those of narrow ones.
    pub widened-keeps : Keeps (wide w)
    widened-keeps = record {
      whole = omega (arith, widened-frames s, widened-length s (frames (narrow s)));
      least = omega (arith, widened-frames s, K.least);
      most = omega (arith, widened-frames s, K.most);
      known = λ k h. rw (same-fields s k) (K.known k (in_narrow h));
      spare_a = λ k h u. ap (λ (f : Fields). f.a) (same-fields s k) ∙ K.spare_a k (in_narrow h) (omega (arith, u, ap used (same_kind s k)));
      spare_b = λ k h u. ap (λ (f : Fields). f.b) (same-fields s k) ∙ K.spare_b k (in_narrow h) (omega (arith, u, ap used (same_kind s k)));
      spare_c = λ k h u. ap (λ (f : Fields). f.c) (same-fields s k) ∙ K.spare_c k (in_narrow h) (omega (arith, u, ap used (same_kind s k)));
      earlier = λ k a h m. K.earlier k a (in_narrow h) (rw (same_kind s k) at m);
      variable = λ k x h e. omega (arith, K.variable k x (in_narrow h) (rw (same_kind s k) at e));
      range = λ k a b c h q. let r = K.range k a b c (in_narrow h) (rw (same_kind s k) at q) in (r.0, omega (arith, r.1), omega (arith, r.2));
      unmixed = λ j k x i h p q. K.unmixed j k x (in_narrow i) (in_narrow h) (sym (same_kind s j) ∙ p) (sym (same_kind s k) ∙ q);
      unbound = λ j k x i h p. ap (λ (d : Kind). binds d x) (same_kind s k) ∙ K.unbound j k x (in_narrow i) (in_narrow h) (sym (same_kind s j) ∙ p);
      once = λ j k v i h p q. K.once j k v (in_narrow i) (in_narrow h) (rw (same_kind s j) at p) (rw (same_kind s k) at q);
      closed = λ k v h p. ap (λ (f : Formula). free f v) root-same ∙ K.closed k v (in_narrow h) (rw (same_kind s k) at p);
    }

    -- Its gauges are the same.
    pub widened-gauges : gauges (wide w) ≡ gauges (narrow s)
    widened-gauges = ext (gauges (wide w)) (gauges (narrow s)) (λ v. same-value true (bit (gauges (wide w)) v) (bit (gauges (narrow s)) v)
        (λ e. let r = gauge_named (wide w) v e in some_gauge (narrow s) K r.0 v (in_narrow r.1) (sym (same_kind s r.0) ∙ r.2))
        (λ e. let r = gauge_named (narrow s) v e in some_gauge (wide w) widened-keeps r.0 v (omega (arith, r.1, widened-frames s)) (same_kind s r.0 ∙ r.2)))

    bounded : Bounded 32 (formula (narrow s) (last (narrow s)))
    bounded = (kept-accepted (narrow s) K).bounded (last (narrow s))

    book-same : book (wide w) ≡ meaning 64 (formula (narrow s) (last (narrow s))) (gauges (narrow s))
    book-same = ap₂ (meaning 64) root-same widened-gauges

    -- The reference model answers every line with the same number, V and word, and leaves the same entries standing.
    pub widened-answer : (script : List ℕ) (i : ℕ) → answer_at (book (wide w)) [] script i ≡ answer_at (book (narrow s)) [] script i
    widened-answer script i =
        ap (λ (m : Meaning). answer_at m [] script i) book-same ∙ same_answer 32 64 _ _ bounded (omega arith) script i

    pub widened-before : (script : List ℕ) (i : ℕ) → before (wide w) script i ≡ before (narrow s) script i
    widened-before script i = ap (λ (m : Meaning). after m [] script i) book-same ∙ same_after 32 64 _ _ bounded (omega arith) script i

    -- So of any call of the run over the one sheet and any over the other that are accepted: line i of both tells one and the same answer.
    pub widened-runs : (script : List ℕ) (o q : Call) → Meets (narrow s) script o → Meets (wide w) script q → o.number ≡ 0 → q.number ≡ 0
        → (i : ℕ) → i < lines script → (a : Answer) × (line_bytes Narrow o i ≡ answer_bytes Narrow a) × (line_bytes Wide q i ≡ answer_bytes Wide a)
    widened-runs script o q O Q n m i h = (
      answer_at (book (narrow s)) [] script i,
      one_answer (narrow s) script o O n i h,
      one_answer (wide w) script q Q m i h ∙ ap (answer_bytes Wide) (widened-answer script i),
    )

    -- And the second is accepted wherever the first is, with an answer buffer that is long enough.
    pub widened-accepted : (script : List ℕ) (o q : Call) → Meets (narrow s) script o → Meets (wide w) script q → o.number ≡ 0
        → answer_start Wide (lines script) ≤ length q.ans → q.number ≡ 0
    widened-accepted script o q O Q n room =
        let P = (accepted_exactly (narrow s) script o O).0 n in
        (accepted_exactly (wide w) script q Q).1 (record { sheet-kept = widened-keeps; whole = P.whole; few = P.few; room = room })
