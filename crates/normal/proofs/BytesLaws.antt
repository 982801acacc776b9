-- The bytes of frames read back: their number, fields and kinds; frames that are told apart by their fields; and the bytes of frames as the code stores
-- them, one frame after the other. Assumes nothing.
use Prim.Native.Nat.{ℕ, zero, suc, ◌+◌, ◌*◌, ◌/◌, ◌%◌, ◌≤◌, ◌<◌}
use Rattle.std.proofs.Common.{zero-add, arith, add-one, ap, ◌∙◌, length-append, length-take-le, take-suc, get_or-append-add, eqb-true, eq-eqb}
use Rattle.std.specs.Prelude.{◌≡◌, true, length, get_or, take, ltb}
use Rattle.std.proofs.Math.Path.{refl, sym}
use mathlib.Core.List.{List, [], ◌∷◌, ◌++◌, append_assoc, append-nil}
use Rattle.std.proofs.Math.ListN.{get_or-append, get_or-eq_default}
use Rattle.std.proofs.lemmas.List.Edits.{sets}
use Rattle.std.proofs.Math.Seq.{take-length}
use Rattle.words.specs.Logic.{tests}
use Rattle.words.proofs.Logic.{by_bool, and_both}
use Rattle.words.proofs.Stores.{sets_append}
use Rattle.form.specs.Form as Sizes
use Rattle.form.specs.Form.{frame_bytes, frame_start}
use Rattle.form.specs.declared.Form.{Form}
use Rattle.form.specs.declared.Form.TheVariants.{Narrow, Wide}
use Rattle.sheet.specs.Fields.{sheet_of, frames, laid, no_fields, fields_at, kind_of, kind}
use Rattle.sheet.proofs.FieldsLaws.{fields-at, fields-past}
use Rattle.sheet.specs.declared.Fields.{Fields}
use Rattle.sheet.specs.declared.Kind.{Kind}
use Rattle.sheet.specs.declared.Kind.TheVariants.{Never, Input, Not, And, Or, Exists, Forall, Gauge}
use Rattle.normal.specs.Normal.{fields_of, same_fields, frame_of, frames_bytes}
use Rattle.normal.specs.Lists.{kind_at}

-- ---- frames by their fields

-- the fields of a kind say it
pub kind-of : (d : Kind) → kind_of (fields_of d) ≡ d
unfolding kind_of fields_of
kind-of Never = refl
kind-of (Input x) = refl
kind-of (Not a) = refl
kind-of (And a b) = refl
kind-of (Or a b) = refl
kind-of (Exists a b c) = refl
kind-of (Forall a b c) = refl
kind-of (Gauge x) = refl

pub same-fields : (f g : Fields) → same_fields f g ≡ true → f ≡ g
unfolding same_fields
same-fields f g e =
    let h = and_both _ _ e in
    let l = and_both _ _ h.0 in
    let r = and_both _ _ h.1 in
    λ j. record {
      k = eqb-true f.k g.k l.0 j;
      a = eqb-true f.a g.a l.1 j;
      b = eqb-true f.b g.b r.0 j;
      c = eqb-true f.c g.c r.1 j;
    }

pub fields-same : (f : Fields) → same_fields f f ≡ true
unfolding same_fields
fields-same f = rw (eq-eqb f.k f.k refl, eq-eqb f.a f.a refl, eq-eqb f.b f.b refl, eq-eqb f.c f.c refl)

pub same_kind : (d e : Kind) → same_fields (fields_of d) (fields_of e) ≡ true → d ≡ e
same_kind d e h = sym (kind-of d) ∙ ap kind_of (same-fields (fields_of d) (fields_of e) h) ∙ kind-of e

-- ---- the bytes of frames

start_none : (F : Form) (i : ℕ) → frame_start F 0 + i ≡ i
start_none Narrow i = omega arith
start_none Wide i = omega arith

start-suc : (F : Form) (k i : ℕ) → frame_start F (suc k) + i ≡ frame_bytes F + (frame_start F k + i)
start-suc Narrow k i = omega arith
start-suc Wide k i = omega arith

frames-whole : (F : Form) (k : ℕ) → Sizes.frames F (frame_start F k) ≡ k
frames-whole Narrow k = omega arith
frames-whole Wide k = omega arith

frame-length : (F : Form) (f : Fields) → length (frame_of F f) ≡ frame_bytes F
frame-length Narrow f = refl
frame-length Wide f = refl

pub bytes-length : (F : Form) (l : List Kind) → length (frames_bytes F l) ≡ frame_start F (length l)
unfolding frames_bytes
bytes-length F [] = omega (arith, start_none F 0)
bytes-length F (d ∷ l) =
    rw (length-append, bytes-length F l, frame-length F (fields_of d)) (omega (arith, start-suc F (length l) 0))

pub bytes-frames : (F : Form) (l : List Kind) → frames (sheet_of F (frames_bytes F l)) ≡ length l
bytes-frames F l = ap (Sizes.frames F) (bytes-length F l) ∙ frames-whole F (length l)

-- byte i of frame k
bytes-at : (F : Form) (l : List Kind) (k i : ℕ) → k < length l → i < frame_bytes F
    → get_or (frames_bytes F l) (frame_start F k + i) 0 ≡ get_or (frame_of F (fields_of (kind_at l k))) i 0
unfolding frames_bytes
bytes-at F [] k i h b = absurd (omega arith)
bytes-at F (d ∷ l) zero i h b =
    rw (start_none F i) (get_or-append (frame_of F (fields_of d)) (frames_bytes F l) 0 i (omega (arith, frame-length F (fields_of d))))
bytes-at F (d ∷ l) (suc k) i h b =
    let e : frame_start F (suc k) + i ≡ length (frame_of F (fields_of d)) + (frame_start F k + i) = omega (arith, frame-length F (fields_of d), start-suc F k i) in
    rw e (get_or-append-add (frame_of F (fields_of d)) (frames_bytes F l) (frame_start F k + i) 0 ∙ bytes-at F l k i (omega arith) b)

-- a frame's first byte, at its start itself
byte-first : (s : List ℕ) (k : ℕ) → get_or s k 0 ≡ get_or s (k + 0) 0
byte-first s k = let e : k ≡ k + 0 = omega arith in ap (λ (i : ℕ). get_or s i 0) e

bytes-laid : (F : Form) (l : List Kind) (k : ℕ) → k < length l → laid F (frames_bytes F l) k ≡ fields_of (kind_at l k)
bytes-laid Narrow l k h =
    let at : (i : ℕ) → i < 4 → get_or (frames_bytes Narrow l) (k * 4 + i) 0 ≡ get_or (frame_of Narrow (fields_of (kind_at l k))) i 0 = λ i. bytes-at Narrow l k i h in
    λ j. record {
      k = (byte-first (frames_bytes Narrow l) (k * 4) ∙ at 0 (omega arith)) j;
      a = at 1 (omega arith) j;
      b = at 2 (omega arith) j;
      c = at 3 (omega arith) j;
    }
bytes-laid Wide l k h =
    let at : (i : ℕ) → i < 7 → get_or (frames_bytes Wide l) (k * 7 + i) 0 ≡ get_or (frame_of Wide (fields_of (kind_at l k))) i 0 = λ i. bytes-at Wide l k i h in
    λ j. record {
      k = (byte-first (frames_bytes Wide l) (k * 7) ∙ at 0 (omega arith)) j;
      a = field (fields_of (kind_at l k)).a (at 1 (omega arith)) (at 2 (omega arith)) j;
      b = field (fields_of (kind_at l k)).b (at 3 (omega arith)) (at 4 (omega arith)) j;
      c = field (fields_of (kind_at l k)).c (at 5 (omega arith)) (at 6 (omega arith)) j;
    }
  where
    field : {x y : ℕ} (z : ℕ) → x ≡ z / 256 → y ≡ z % 256 → x * 256 + y ≡ z
    field z e d = omega arith

pub bytes-fields : (F : Form) (l : List Kind) (k : ℕ) → k < length l → fields_at (sheet_of F (frames_bytes F l)) k ≡ fields_of (kind_at l k)
bytes-fields F l k h = fields-at (sheet_of F (frames_bytes F l)) k (rw (bytes-frames F l) h) ∙ bytes-laid F l k h

no_kind : kind_of no_fields ≡ Never
unfolding kind_of
no_kind = refl

pub bytes-kind : (F : Form) (l : List Kind) (k : ℕ) → kind (sheet_of F (frames_bytes F l)) k ≡ kind_at l k
bytes-kind F l k = by_bool (ltb k (length l))
    (λ e. ap kind_of (bytes-fields F l k (omega tests)) ∙ kind-of (kind_at l k))
    (λ e. let past : length l ≤ k = omega tests in
    ap kind_of (fields-past (sheet_of F (frames_bytes F l)) k (rw (bytes-frames F l) past)) ∙ no_kind ∙ sym (get_or-eq_default l Never past))

-- ---- the same as the code stores them

frames_append : (F : Form) (l m : List Kind) → frames_bytes F (l ++ m) ≡ frames_bytes F l ++ frames_bytes F m
unfolding frames_bytes
frames_append F [] m = refl
frames_append F (d ∷ l) m = rw (frames_append F l m, append_assoc)

-- one frame more
frames-suc : (F : Form) (l : List Kind) (k : ℕ) → k < length l
    → frames_bytes F (take (suc k) l) ≡ frames_bytes F (take k l) ++ frame_of F (fields_of (kind_at l k))
unfolding frames_bytes
frames-suc F l k h =
    ap (frames_bytes F) (take-suc l k Never h) ∙ frames_append F (take k l) (kind_at l k ∷ [])
    ∙ ap (λ (b : List ℕ). frames_bytes F (take k l) ++ b) (append-nil (frame_of F (fields_of (kind_at l k))))

-- a frame that starts before another also ends before it
pub frame-before : (F : Form) {k n : ℕ} → k < n → frame_start F k + frame_bytes F ≤ frame_start F n
frame-before Narrow h = omega arith
frame-before Wide h = omega arith

pub frames_none : (F : Form) (l : List Kind) (out : List ℕ) → sets out 0 (frames_bytes F (take 0 l)) ≡ out
unfolding frames_bytes
frames_none F l out = refl

pub frames_next : (F : Form) (l : List Kind) (out : List ℕ) (k : ℕ) → k < length l
    → sets (sets out 0 (frames_bytes F (take k l))) (frame_start F k) (frame_of F (fields_of (kind_at l k))) ≡ sets out 0 (frames_bytes F (take (k + 1) l))
frames_next F l out k h =
    let some : k ≤ length l = omega arith in
    let e : 0 + length (frames_bytes F (take k l)) ≡ frame_start F k = rw zero-add (bytes-length F (take k l) ∙ ap (frame_start F) (length-take-le k l some)) in
    rw (add-one k)
    (ap (λ (i : ℕ). sets (sets out 0 (frames_bytes F (take k l))) i (frame_of F (fields_of (kind_at l k)))) (sym e)
    ∙ sym (sets_append (frames_bytes F (take k l)) (frame_of F (fields_of (kind_at l k))) out 0)
    ∙ ap (sets out 0) (sym (frames-suc F l k h)))

pub frames_all : (F : Form) (l : List Kind) (out : List ℕ) {k : ℕ} → k ≡ length l → sets out 0 (frames_bytes F (take k l)) ≡ sets out 0 (frames_bytes F l)
frames_all F l out e = ap (λ (i : ℕ). sets out 0 (frames_bytes F (take i l))) e ∙ ap (λ (m : List Kind). sets out 0 (frames_bytes F m)) (take-length l)
