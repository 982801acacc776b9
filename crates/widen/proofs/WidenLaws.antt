-- What the code of `widen` goes by, and what its sheet has: the fields, kinds and formulas of the narrow one. Assumes nothing.
use Rattle.std.specs.Prelude.{ℕ, zero, suc, ◌+◌, ◌*◌, ◌≤◌, ◌<◌, ◌≡◌, refl, true, false, List, ◌++◌, length, get_or, ltb}
use Rattle.std.proofs.Common.{arith, add-one, ◌∙◌, length-append, get_or-append-add, lt-ltb, le-ltb}
use Rattle.std.proofs.Math.Path.{sym, ap, fun_ext}
use Rattle.std.proofs.Math.ListN.{drop, get_or-append}
use Rattle.std.proofs.lemmas.List.Edits.{sets}
use Rattle.words.specs.Logic.{tests}
use Rattle.words.proofs.Logic.{by_bool}
use Rattle.words.proofs.Stores.{sets_append, sets-start}
use Rattle.form.specs.Form.{frame_start}
use Rattle.form.specs.declared.Form.TheVariants.{Narrow, Wide}
use Rattle.sheet.specs.Refusal as Number
use Rattle.sheet.specs.Cause.{Refusal, first, some_holds}
use Rattle.sheet.proofs.Cause.{first_earlier, first-later, none_first}
use Rattle.sheet.specs.Fields.{narrow, wide, frames, laid, fields_at, kind_of, kind}
use Rattle.sheet.proofs.FieldsLaws.{fields-at, fields-past}
use Rattle.sheet.specs.Frames.{formula, formula_of}
use Rattle.sheet.specs.Rules.{sheet_causes}
use Rattle.sheet.proofs.RuleLaws.{sheet_numbered}
use Rattle.sheet.specs.Check.{Checks}
use Rattle.sheet.proofs.CheckLaws.{checks_none}
use Rattle.sheet.specs.declared.Kind.{Kind}
use Rattle.widen.specs.Widen.{wide_bytes, widened_to, widened, widen_causes, refusal, Widens}

-- ---- the bytes

pub widened-length : (s : List ℕ) (k : ℕ) → length (widened_to s k) ≡ k * 7
unfolding widened_to
widened-length s zero = refl
widened-length s (suc k) = rw (length-append, widened-length s k) (omega arith)

-- ---- as the code stores them

-- one frame more
pub widened_none : (s l : List ℕ) → sets l 0 (widened_to s 0) ≡ l
unfolding widened_to
widened_none s l = refl

pub widened-next : (s l : List ℕ) (k : ℕ) → sets (sets l 0 (widened_to s k)) (k * 7) (wide_bytes (laid Narrow s k)) ≡ sets l 0 (widened_to s (k + 1))
unfolding widened_to
widened-next s l k =
    let e : 0 + length (widened_to s k) ≡ k * 7 = omega (arith, widened-length s k) in
    rw (add-one k)
    (sym (sets_append (widened_to s k) (wide_bytes (laid Narrow s k)) l 0
    ∙ ap (λ (i : ℕ). sets (sets l 0 (widened_to s k)) i (wide_bytes (laid Narrow s k))) e))

pub widened-all : (s l : List ℕ) {k n : ℕ} → k ≤ n → n ≤ k → sets l 0 (widened_to s k) ≡ sets l 0 (widened_to s n)
widened-all s l {k} {n} h g = let e : k ≡ n = omega arith in ap (λ (i : ℕ). sets l 0 (widened_to s i)) e

-- byte i of frame k
bytes-at : (s : List ℕ) (n k i : ℕ) → k < n → i < 7 → get_or (widened_to s n) (k * 7 + i) 0 ≡ get_or (wide_bytes (laid Narrow s k)) i 0
unfolding widened_to
bytes-at s zero k i h l = absurd (omega arith)
bytes-at s (suc n) k i h l = by_bool (ltb k n)
    (λ e. get_or-append (widened_to s n) (wide_bytes (laid Narrow s n)) 0 (k * 7 + i) (omega (tests, widened-length s n))
    ∙ bytes-at s n k i (omega tests) l)
    (λ e. let q : k ≡ n = omega tests in
    let p : k * 7 + i ≡ length (widened_to s n) + i = omega (arith, widened-length s n) in
    ap (λ (j : ℕ). get_or (widened_to s n ++ wide_bytes (laid Narrow s n)) j 0) p
    ∙ get_or-append-add (widened_to s n) (wide_bytes (laid Narrow s n)) i 0
    ∙ ap (λ (j : ℕ). get_or (wide_bytes (laid Narrow s j)) i 0) (sym q))

module _ (s : List ℕ) where
  pub widened-frames : frames (wide (widened s)) ≡ frames (narrow s)
  widened-frames = omega (arith, widened-length s (frames (narrow s)))

  first_byte : (k : ℕ) → k < frames (narrow s) → get_or (widened s) (k * 7) 0 ≡ (laid Narrow s k).k
  first_byte k h =
      let e : k * 7 ≡ k * 7 + 0 = omega arith in
      ap (λ (i : ℕ). get_or (widened s) i 0) e ∙ bytes-at s (frames (narrow s)) k 0 h (omega arith)

  same-laid : (k : ℕ) → k < frames (narrow s) → laid Wide (widened s) k ≡ laid Narrow s k
  same-laid k h =
      let at : (i : ℕ) → i < 7 → get_or (widened s) (k * 7 + i) 0 ≡ get_or (wide_bytes (laid Narrow s k)) i 0 = λ i l. bytes-at s (frames (narrow s)) k i h l in
      λ j. record {
        k = first_byte k h j;
        a = field (at 1 (omega arith)) (at 2 (omega arith)) j;
        b = field (at 3 (omega arith)) (at 4 (omega arith)) j;
        c = field (at 5 (omega arith)) (at 6 (omega arith)) j;
      }
    where
      field : {x y z : ℕ} → x ≡ 0 → y ≡ z → x * 256 + y ≡ z
      field e d = omega (arith, e, d)

  pub same-fields : (k : ℕ) → fields_at (wide (widened s)) k ≡ fields_at (narrow s) k
  same-fields k = by_bool (ltb k (frames (narrow s)))
      (λ d. fields-at (wide (widened s)) k (omega (tests, widened-frames)) ∙ same-laid k (omega tests) ∙ sym (fields-at (narrow s) k (omega tests)))
      (λ d. fields-past (wide (widened s)) k (omega (tests, widened-frames)) ∙ sym (fields-past (narrow s) k (omega tests)))

  pub same_kind : (k : ℕ) → kind (wide (widened s)) k ≡ kind (narrow s) k
  same_kind k = ap kind_of (same-fields k)

  pub same-formula : (k : ℕ) → formula (wide (widened s)) k ≡ formula (narrow s) k
  same-formula k = ap (λ (κ : ℕ → Kind). formula_of κ k) (fun_ext same_kind)

-- ---- the contract, from what the code has

module _ (s out : List ℕ) {number place free gauges : ℕ} (c : Checks (sheet_causes (narrow s)) (narrow s) number place free gauges) where
  own-cause : (number ≡ 0 → ⊥) → some_holds (sheet_causes (narrow s)) ≡ true
  own-cause z = by_bool (some_holds (sheet_causes (narrow s)))
      (λ e. e)
      (λ e. absurd (z (c.number_is ∙ ap (λ (r : Refusal). r.number) (none_first (sheet_causes (narrow s)) e))))

  pub widen_refused : (number ≡ 0 → ⊥) → Widens s out out number place 0
  unfolding widen_causes
  widen_refused z =
      let e = first_earlier (sheet_causes (narrow s)) _ (own-cause z) in
      record {
        number_is = c.number_is ∙ ap (λ (r : Refusal). r.number) (sym e);
        place_is = c.place_is ∙ ap (λ (r : Refusal). r.place) (sym e);
        untouched = λ h. (refl, refl);
        written = λ w. absurd (z w);
      }

  module _ (z : number ≡ 0) where
    none : some_holds (sheet_causes (narrow s)) ≡ false
    none = checks_none c (sheet_numbered (narrow s)) z

    pub widen_short : length out < frame_start Wide (frames (narrow s)) → Widens s out out Number.wide_no_room 0 0
    unfolding widen_causes first
    widen_short h =
        let e : refusal s (length out) ≡ record { number = Number.wide_no_room; place = 0 } =
        first-later (sheet_causes (narrow s)) _ none ∙ rw (lt-ltb (length out) (frame_start Wide (frames (narrow s))) h) in
        record {
          number_is = ap (λ (r : Refusal). r.number) (sym e);
          place_is = ap (λ (r : Refusal). r.place) (sym e);
          untouched = λ l. (refl, refl);
          written = λ w. absurd (omega arith);
        }

    pub widen_written : {out' : List ℕ} {size : ℕ} → frame_start Wide (frames (narrow s)) ≤ length out → size ≡ frame_start Wide (frames (narrow s))
        → out' ≡ sets out 0 (widened s) → Widens s out out' 0 0 size
    unfolding widen_causes first
    widen_written {out'} {size} h n w =
        let e : refusal s (length out) ≡ record { number = 0; place = 0 } =
        first-later (sheet_causes (narrow s)) _ none ∙ rw (le-ltb (length out) (frame_start Wide (frames (narrow s))) h) in
        let l = widened-length s (frames (narrow s)) in
        record {
          number_is = ap (λ (r : Refusal). r.number) (sym e);
          place_is = ap (λ (r : Refusal). r.place) (sym e);
          untouched = λ l. absurd (omega arith);
          written = λ k. (n ∙ sym l, w ∙ sets-start (widened s) out (omega (arith, l)) ∙ ap (λ (i : ℕ). widened s ++ drop i out) (l ∙ sym n));
        }
