-- From what reading and widening give to what is printed: the laws that the program goes by. Assumes nothing.
use Rattle.std.specs.Prelude.{Bool, Result, ℕ, ◌*◌, ◌/◌, ◌≤◌, ◌<◌, List, [], ◌∷◌, ◌++◌, ◌≡◌, refl, length, take, drop}
use Rattle.std.proofs.Math.Nat.{min-eq_left}
use Rattle.std.proofs.Common.{arith, sym, ◌∙◌, length-append, take_at, length-take-le}
use Rattle.std.proofs.Math.Bool.{true, false}
use Rattle.std.proofs.Math.Path.{ap, ap₂}
use borrow.Author.Tests.{eq-eqb, ne_eqb, le-ltb}
use Rattle.words.proofs.Logic.{by_bool, or-false}
use Rattle.words.specs.Bytes.{bytes_of}
use Rattle.form.specs.Form.{frame_start}
use Rattle.form.specs.declared.Form.{Form}
use Rattle.form.specs.declared.Form.TheVariants.{Narrow, Wide}
use Rattle.sheet.specs.Refusal as Number
use Rattle.sheet.specs.Cause.{Refusal, first, some_holds}
use Rattle.sheet.proofs.Cause.{some_append, first_earlier, first-later, none_first, first-none}
use Rattle.sheet.specs.Fields.{narrow, frames}
use Rattle.sheet.specs.Rules.{size_causes, frame_causes, sheet_causes, sheet_refusal}
use Rattle.sheet.proofs.RuleLaws.{sheet_numbered}
use Rattle.sheet.proofs.AcceptedLaws.{none_sized}
use Rattle.sheet.proofs.Places.{sheet_small}
use Rattle.text.specs.declared.Parsed.{Parsed}
use Rattle.text.specs.declared.Unread.{Unread}
use Rattle.text.specs.Hex.{hex_lines}
use Rattle.text.specs.Reading.{sheet_room, script_room, Reading, reading, read_into, written_over, form_told, refusal_told, sheet_told, script_told, Read}
use Rattle.text.proofs.ReadingLaws.{enough-room}
use Rattle.text.specs.Answer.{line_bytes, answer_line, answer_lines, with_room, Wrote, WroteFrames, WroteLines}
use Rattle.text.proofs.AnswerLaws.{one_answer}
use Rattle.text.proofs.LineStores.{lines-length}
use Rattle.widen.specs.Widen.{widened, widen_causes, refusal, Widens}
use Rattle.widen.proofs.WidenLaws.{widened-length}
use Rattle.to_wide.specs.Converted.{Output, refusal_output, converted_sheet, converted, Begins, Prints, Converts}
use Rattle.to_wide.specs.declared.Lines.{Lines}
use Rattle.sheet.specs.declared.refusal.Refused.{Refused}

-- ---- a part of a buffer

begins : (x behind : List ℕ) {buffer : List ℕ} {n : ℕ} → buffer ≡ x ++ behind → n ≡ length x → Begins x buffer n
begins x behind {buffer} {n} e h =
    let f : n ≤ length buffer = rw (e, length-append) (omega arith) in
    record { count = h; bytes = ap (take n) e ∙ take_at x behind n (sym h); fits = f; counted = sym (length-take-le n buffer f) }

-- the lines of n records of w bytes, all of which have room
lines_begin : (w n : ℕ) (records out : List ℕ) {out' : List ℕ} {r : ℕ} → with_room w records out ≡ n → n * w ≤ length records → WroteLines w records out r out' → Begins (hex_lines w n records) out' r
lines_begin w n records out e h g =
    begins (hex_lines w n records) (drop (length (hex_lines w n records)) out)
    (g.bytes ∙ ap (λ (k : ℕ). written_over (hex_lines w k records) out) e)
    (g.count ∙ ap (λ (k : ℕ). k * line_bytes w) e ∙ sym (lines-length w n records h))

-- equal outputs are printed alike
pub prints-same : {o o' : Output} {first second : List ℕ} {refused : Bool} {m n : ℕ} → o ≡ o' → Prints o first second refused m n → Prints o' first second refused m n
prints-same e p = rw e at p

-- and converted alike
pub converts-same : {o o' : Output} (first second : List ℕ) (r : Result Lines Refused) → o ≡ o' → Converts o first second r → Converts o' first second r
converts-same first second r e c = rw e at c

-- ---- a refusal

pub refusal-begins : (number place : ℕ) (out : List ℕ) {out' : List ℕ} {r : ℕ} → 3000 ≤ length out → Wrote Narrow (number ∷ place ∷ 0 ∷ 0 ∷ 0 ∷ 0 ∷ []) out r out'
    → Begins (refusal_output number place).first out' r
unfolding bytes_of
refusal-begins number place out {out'} {r} room g =
    let line : answer_lines Narrow 1 (number ∷ place ∷ 0 ∷ 0 ∷ 0 ∷ 0 ∷ []) ≡ answer_line Narrow number place 0 = one_answer Narrow number place 0 in
    rw line at (lines_begin 6 1 (number ∷ place ∷ 0 ∷ 0 ∷ 0 ∷ 0 ∷ []) out (min-eq_left (omega arith)) (omega arith) g)

pub refusal-prints : (number place : ℕ) (out : List ℕ) {out' : List ℕ} {r : ℕ} → 3000 ≤ length out → Wrote Narrow (number ∷ place ∷ 0 ∷ 0 ∷ 0 ∷ 0 ∷ []) out r out'
    → (second : List ℕ) → Prints (refusal_output number place) out' second true r 0
refusal-prints number place out room g second = record { is-refused = refl; in_first = refusal-begins number place out room g; in_second = begins [] second refl refl }

-- ---- the sheet's own refusal

module _ (s : List ℕ) where
  few-frames : some_holds (size_causes (narrow s)) ≡ false → frames (narrow s) ≤ 200
  few-frames e = (none_sized (narrow s) e).most

  own-none : some_holds (sheet_causes (narrow s)) ≡ false → some_holds (size_causes (narrow s)) ≡ false
  own-none e = (or-false (some_holds (size_causes (narrow s))) (some_holds (frame_causes (narrow s))) (sym (some_append (size_causes (narrow s)) (frame_causes (narrow s))) ∙ e)).0

  -- with room for 200 frames only the sheet's own causes are told
  own-refusal : (bytes : ℕ) → 1400 ≤ bytes → refusal s bytes ≡ sheet_refusal (narrow s)
  unfolding widen_causes first
  own-refusal bytes h = by_bool (some_holds (sheet_causes (narrow s)))
      (λ e. first_earlier (sheet_causes (narrow s)) _ e)
      (λ e. first-later (sheet_causes (narrow s)) _ e
      ∙ rw (le-ltb bytes (frame_start Wide (frames (narrow s))) (omega (arith, few-frames (own-none e))))
      (sym (none_first (sheet_causes (narrow s)) e)))

-- ---- a sheet and a script

module _ {s wide wide' : List ℕ} {number place size : ℕ} (g : Widens s wide wide' number place size) (room : 1400 ≤ length wide) where
  number_is : number ≡ (sheet_refusal (narrow s)).number
  number_is = g.number_is ∙ ap (λ (r : Refusal). r.number) (own-refusal s (length wide) room)

  place_is : place ≡ (sheet_refusal (narrow s)).place
  place_is = g.place_is ∙ ap (λ (r : Refusal). r.place) (own-refusal s (length wide) room)

  pub place-fits : place < 200
  place-fits = omega (arith, place_is, (sheet_small (narrow s)).place)

  pub sheet-refused : (script : List ℕ) → (number ≡ 0 → ⊥) → refusal_output number place ≡ converted_sheet s script
  unfolding converted_sheet
  sheet-refused script h =
      ap₂ refusal_output number_is place_is ∙ rw (ne_eqb (sheet_refusal (narrow s)).number 0 (λ z. h (number_is ∙ z)))

  module _ (accepted : number ≡ 0) where
    pub wide-begins : Begins (widened s) wide' size
    wide-begins = begins (widened s) (drop size wide) (g.written accepted).1 (g.written accepted).0

    few : frames (narrow s) ≤ 200
    few =
        let e = first-none (sheet_causes (narrow s)) (sheet_numbered (narrow s)) (sym number_is ∙ accepted) in
        few-frames s (own-none s e)

    pub sheet-converted : (script one two : List ℕ) {one' two' : List ℕ} {m n : ℕ} → 3000 ≤ length one → 9000 ≤ length two → length script ≤ 4000
        → WroteFrames Wide (take size wide') one m one' → WroteFrames Narrow script two n two' → Prints (converted_sheet s script) one' two' false m n
    unfolding converted_sheet
    sheet-converted script one two {one'} {two'} {m} {n} h k l v w =
        let many = widened-length s (frames (narrow s)) in
        let all : with_room 7 (widened s) one ≡ frames (narrow s) = min-eq_left (omega (arith, many, few)) ∙ omega (arith, many) in
        let v' : WroteFrames Wide (widened s) one m one' = rw wide-begins.bytes at v in
        rw (eq-eqb (sheet_refusal (narrow s)).number 0 (sym number_is ∙ accepted))
        (record {
          is-refused = refl;
          in_first = lines_begin 7 (frames (narrow s)) (widened s) one all (omega (arith, many)) v';
          in_second = lines_begin 4 (length script / 4) script two (min-eq_left (omega arith)) (omega arith) w;
        })

-- ---- a text

module _ {text sheet script sheet' script' : List ℕ} {r : Result Parsed Unread} (g : Read text sheet script r sheet' script')
    (a : sheet_room ≤ length sheet) (b : script_room ≤ length script) where
  reads : read_into (length sheet) (length script) text ≡ reading text
  reads = enough-room (length sheet) (length script) text a b

  form-is : {F : Form} → form_told r ≡ F → (reading text).form ≡ F
  form-is e = sym (g.form ∙ ap (λ (k : Reading). k.form) reads) ∙ e

  refusal_is : refusal_told r ≡ (reading text).refusal
  refusal_is = g.refusal ∙ ap (λ (k : Reading). k.refusal) reads

  pub sheet-begins : Begins (reading text).sheet sheet' (sheet_told r)
  sheet-begins =
      let e = ap (λ (k : Reading). k.sheet) reads in
      begins (reading text).sheet (drop (length (reading text).sheet) sheet) (g.sheet-bytes ∙ ap (λ (x : List ℕ). written_over x sheet) e) (g.sheet-length ∙ ap length e)

  pub script_begins : Begins (reading text).script script' (script_told r)
  script_begins =
      let e = ap (λ (k : Reading). k.script) reads in
      begins (reading text).script (drop (length (reading text).script) script) (g.script_bytes ∙ ap (λ (x : List ℕ). written_over x script) e) (g.script_length ∙ ap length e)

  pub text_wide : form_told r ≡ Wide → refusal_output Number.other_form 0 ≡ converted text
  unfolding converted
  text_wide e = rw (form-is e)

  pub text_refused : form_told r ≡ Narrow → (refusal_told r ≡ 0 → ⊥) → refusal_output (refusal_told r) 0 ≡ converted text
  unfolding converted
  text_refused n h =
      ap (λ (k : ℕ). refusal_output k 0) refusal_is
      ∙ rw (form-is n, ne_eqb (reading text).refusal 0 (λ z. h (refusal_is ∙ z)))

  pub text_read : form_told r ≡ Narrow → refusal_told r ≡ 0 → converted_sheet (take (sheet_told r) sheet') (take (script_told r) script') ≡ converted text
  unfolding converted
  text_read n h =
      ap₂ converted_sheet sheet-begins.bytes script_begins.bytes
      ∙ rw (form-is n, eq-eqb (reading text).refusal 0 (sym refusal_is ∙ h))
