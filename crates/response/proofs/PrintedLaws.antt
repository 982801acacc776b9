-- What is printed, case by case: the laws that the code goes by. Assumes nothing.
use Rattle.std.specs.Prelude.{Result, ℕ, ◌*◌, ◌/◌, ◌%◌, ◌≤◌, ◌<◌, true, cond, not, List, ◌++◌, ◌≡◌, refl, eqb, ltb, length, take, drop}
use Rattle.std.proofs.Common.{arith, ◌∙◌, length-append, take_at, length-take-le}
use Rattle.std.proofs.Math.Nat.{min-eq_left}
use Rattle.std.proofs.Math.Bool.{false}
use Rattle.std.proofs.Math.Path.{sym, ap, ap₂}
use borrow.Author.Tests.{eq-eqb, ne_eqb, le-ltb}
use Rattle.words.specs.Logic.{tests}
use Rattle.words.proofs.Logic.{by_bool, or_right, or_left}
use Rattle.form.specs.Form.{answer_bytes, answer_start}
use Rattle.form.proofs.FormLaws.{answer_mono}
use Rattle.form.specs.declared.Form.{Form}
use Rattle.form.specs.declared.Form.TheVariants.{Narrow, Wide}
use Rattle.sheet.specs.Cause.{Cause, Refusal, first, some_holds}
use Rattle.sheet.proofs.Cause.{first_append, first_earlier}
use Rattle.sheet.specs.Rules.{size_causes, frame_causes}
use Rattle.sheet.specs.Fields.{Sheet, sheet_of, most_frames}
use Rattle.model.specs.Model.{lines, answers}
use Rattle.model.proofs.Script.{length-answers}
use Rattle.certificate.specs.Run.{most_lines, script_causes, room_causes, refusal, book, Run}
use Rattle.certificate.proofs.Bounds.{place-below}
use Rattle.text.specs.declared.Parsed.{Parsed}
use Rattle.text.specs.declared.Unread.{Unread}
use Rattle.text.specs.Hex.{hex_line, hex_lines}
use Rattle.text.specs.Reading.{sheet_room, script_room, Reading, reading, read_into, written_over, form_told, refusal_told, sheet_told, script_told, Read}
use Rattle.text.proofs.ReadingLaws.{enough-room}
use Rattle.text.specs.Answer.{answer_line_bytes, answer_lines, with_room, Wrote}
use Rattle.text.proofs.AnswerLaws.{answers-length}
use Rattle.response.specs.Printed.{all_lines, refusal_bytes, refusal_line, refusal_of, lines_by, printed_run, printed_for, printed, Prints, Starts}

-- ---- the lines of answers

pub all-length : (F : Form) (l : List ℕ) → length (all_lines F l) ≡ length l / answer_bytes F * answer_line_bytes F
all-length Narrow l = answers-length Narrow (length l / 6) l (omega arith)
all-length Wide l = answers-length Wide (length l / 10) l (omega arith)

-- all lines have room exactly if there is room for as many as there are answers
too_long : (F : Form) (l out : List ℕ) → length out / answer_line_bytes F < length l / answer_bytes F → length out < length (all_lines F l)
too_long Narrow l out h = omega (arith, all-length Narrow l)
too_long Wide l out h = omega (arith, all-length Wide l)

short-enough : (F : Form) (l out : List ℕ) → length l / answer_bytes F ≤ length out / answer_line_bytes F → length (all_lines F l) ≤ length out
short-enough Narrow l out h = omega (arith, all-length Narrow l)
short-enough Wide l out h = omega (arith, all-length Wide l)

module _ (F : Form) (l out : List ℕ) where
  pub no_room_lem : length out / answer_line_bytes F < length l / answer_bytes F → Prints (all_lines F l) out 0 out
  no_room_lem h =
      let e = too_long F l out h in
      record { count = λ k. absurd (omega arith); bytes = λ k. absurd (omega arith); none = λ k. refl; untouched = λ k. refl; fits = omega arith }

  pub wrote_all : {r : ℕ} {out' : List ℕ} → length l / answer_bytes F ≤ length out / answer_line_bytes F → length out' ≡ length out → Wrote F l out r out' → Prints (all_lines F l) out r out'
  wrote_all {r} {out'} h s w =
      let e = short-enough F l out h in
      let m : with_room (answer_bytes F) l out ≡ length l / answer_bytes F = min-eq_left h in
      record {
        count = λ k. w.count ∙ ap (λ (n : ℕ). n * answer_line_bytes F) m ∙ sym (all-length F l);
        bytes = λ k. w.bytes ∙ ap (λ (n : ℕ). written_over (answer_lines F n l) out) m;
        none = λ k. absurd (omega arith);
        untouched = λ k. absurd (omega arith);
        fits = omega (arith, w.fits);
      }

-- a refusal's bytes are as many as an answer's, and its line is theirs
pub refusal-line : (F : Form) (number place : ℕ) → all_lines F (refusal_bytes F number place) ≡ refusal_line F number place
unfolding refusal_line hex_line hex_lines
refusal-line Narrow number place = refl
refusal-line Wide number place = refl

pub refusal-length : (F : Form) (number place : ℕ) → length (refusal_line F number place) ≡ answer_line_bytes F
unfolding refusal_line hex_line
refusal-length Narrow number place = refl
refusal-length Wide number place = refl

-- n answers of a form, by their size as the code has it
pub answers-end : (F : Form) (n size : ℕ) → size ≡ answer_bytes F → n * size ≡ answer_start F n
answers-end Narrow n size e = rw e
answers-end Wide n size e = rw e

-- equal bytes are printed alike
pub prints-same : {a b out out' : List ℕ} {r : ℕ} → a ≡ b → Prints a out r out' → Prints b out r out'
prints-same e p = rw e at p

-- ---- a part of a buffer

-- it has as many bytes as its end says
pub counted : (n : ℕ) (buffer : List ℕ) → n ≤ length buffer → n ≡ length (take n buffer)
counted n buffer h = sym (length-take-le n buffer h)

-- what was written from its start
pub starts : (x behind : List ℕ) {buffer : List ℕ} {n : ℕ} → buffer ≡ x ++ behind → n ≡ length x → Starts x buffer n
starts x behind {buffer} {n} e h =
    let f : n ≤ length buffer = rw (e, length-append) (omega arith) in
    record { part = ap (take n) e ∙ take_at x behind n (sym h); fits = f; counted = counted n buffer f }

-- ---- the two choices

module _ (F : Form) (r : Refusal) (bytes : List ℕ) where
  pub lines-refused : (r.number ≡ 0 → ⊥) → lines_by F r bytes ≡ refusal_line F r.number r.place
  lines-refused h = rw (ne_eqb r.number 0 h)

  pub lines_answered : r.number ≡ 0 → lines_by F r bytes ≡ all_lines F bytes
  lines_answered e = rw (eq-eqb r.number 0 e)

module _ (k : Reading) where
  pub printed-refused : (k.refusal ≡ 0 → ⊥) → printed_for k ≡ refusal_line k.form k.refusal 0
  printed-refused h = rw (ne_eqb k.refusal 0 h)

  pub printed_read : k.refusal ≡ 0 → printed_for k ≡ printed_run (sheet_of k.form k.sheet) k.script
  printed_read e = rw (eq-eqb k.refusal 0 e)

-- ---- a run

module _ (sheet : Sheet) (script : List ℕ) (bytes : ℕ) where
  same-room : answer_start sheet.form (lines script) ≤ bytes → room_causes sheet.form script bytes ≡ room_causes sheet.form script (answer_start sheet.form (lines script))
  unfolding room_causes
  same-room h =
      rw (
        le-ltb bytes (answer_start sheet.form (lines script)) h,
        le-ltb (answer_start sheet.form (lines script)) (answer_start sheet.form (lines script)) (omega arith),
      )

  -- more room than the answers take makes no difference
  pub room_fits : answer_start sheet.form (lines script) ≤ bytes → refusal sheet script bytes ≡ refusal_of sheet script
  room_fits h = ap (λ (cs : List Cause). first (size_causes sheet ++ (script_causes script ++ (cs ++ frame_causes sheet)))) (same-room h)

  script-too-long : most_lines < lines script → some_holds (script_causes script) ≡ true
  unfolding some_holds script_causes
  script-too-long l = or_right (not (eqb (length script % 4) 0)) _ (or_left (ltb most_lines (lines script)) false (omega tests))

  -- room for the answers of 1,000 lines is as good as any: a longer script is refused before the room is looked at
  pub room-enough : answer_start sheet.form most_lines ≤ bytes → refusal sheet script bytes ≡ refusal_of sheet script
  room-enough h = by_bool (ltb most_lines (lines script))
      (λ t. let e = script-too-long (omega tests) in
      first_append (size_causes sheet) _
      ∙ ap (cond (some_holds (size_causes sheet)) (first (size_causes sheet))) (first_earlier (script_causes script) _ e ∙ sym (first_earlier (script_causes script) _ e))
      ∙ sym (first_append (size_causes sheet) _))
      (λ f. room_fits (omega (arith, h, answer_mono sheet.form {i = lines script} {j = most_lines} (omega tests))))

module _ {sheet : Sheet} {script ans under over ans' under' over' : List ℕ} {number place cu co : ℕ}
    (g : Run sheet script ans under over ans' under' over' number place cu co) (room : answer_start sheet.form most_lines ≤ length ans) where
  told : refusal sheet script (length ans) ≡ refusal_of sheet script
  told = room-enough sheet script (length ans) room

  number_is : number ≡ (refusal_of sheet script).number
  number_is = g.answered.number_is ∙ ap (λ (r : Refusal). r.number) told

  place_is : place ≡ (refusal_of sheet script).place
  place_is = g.answered.place_is ∙ ap (λ (r : Refusal). r.place) told

  -- a place is a frame's number
  pub place-fits : place < most_frames sheet
  place-fits = omega (arith, g.answered.place_is, place-below sheet script (length ans))

  pub run-refused : (number ≡ 0 → ⊥) → refusal_line sheet.form number place ≡ printed_run sheet script
  unfolding printed_run
  run-refused h =
      ap₂ (refusal_line sheet.form) number_is place_is
      ∙ sym (lines-refused sheet.form (refusal_of sheet script) (answers sheet.form (book sheet) script) (λ z. h (number_is ∙ z)))

  module _ (accepted : number ≡ 0) where
    pub answers-start : Starts (answers sheet.form (book sheet) script) ans' (answer_start sheet.form (lines script))
    answers-start =
        starts (answers sheet.form (book sheet) script) (drop (answer_start sheet.form (lines script)) ans) (g.answered.written accepted)
        (sym (length-answers sheet.form (book sheet) script))

    -- the end of the answers, by their size as the code has it
    pub end_fits : (size : ℕ) → size ≡ answer_bytes sheet.form → lines script * size ≤ length ans'
    end_fits size e = omega (arith, answers-end sheet.form (lines script) size e, answers-start.fits)

    pub run_answered : all_lines sheet.form (take (answer_start sheet.form (lines script)) ans') ≡ printed_run sheet script
    unfolding printed_run
    run_answered =
        ap (all_lines sheet.form) answers-start.part
        ∙ sym (lines_answered sheet.form (refusal_of sheet script) (answers sheet.form (book sheet) script) (sym number_is ∙ accepted))

-- ---- a text

module _ {text sheet script sheet' script' : List ℕ} {r : Result Parsed Unread} (g : Read text sheet script r sheet' script')
    (a : sheet_room ≤ length sheet) (b : script_room ≤ length script) where
  reads : read_into (length sheet) (length script) text ≡ reading text
  reads = enough-room (length sheet) (length script) text a b

  refusal_is : refusal_told r ≡ (reading text).refusal
  refusal_is = g.refusal ∙ ap (λ (k : Reading). k.refusal) reads

  form-is : form_told r ≡ (reading text).form
  form-is = g.form ∙ ap (λ (k : Reading). k.form) reads

  pub text_refused : (refusal_told r ≡ 0 → ⊥) → refusal_line (form_told r) (refusal_told r) 0 ≡ printed text
  unfolding printed
  text_refused h =
      ap₂ (λ (F : Form) (n : ℕ). refusal_line F n 0) form-is refusal_is
      ∙ sym (printed-refused (reading text) (λ z. h (refusal_is ∙ z)))

  sheet-start : Starts (reading text).sheet sheet' (sheet_told r)
  sheet-start =
      let e = ap (λ (k : Reading). k.sheet) reads in
      starts (reading text).sheet (drop (length (reading text).sheet) sheet) (g.sheet-bytes ∙ ap (λ (x : List ℕ). written_over x sheet) e) (g.sheet-length ∙ ap length e)

  script_start : Starts (reading text).script script' (script_told r)
  script_start =
      let e = ap (λ (k : Reading). k.script) reads in
      starts (reading text).script (drop (length (reading text).script) script) (g.script_bytes ∙ ap (λ (x : List ℕ). written_over x script) e) (g.script_length ∙ ap length e)

  pub text_read : refusal_told r ≡ 0 → printed_run (sheet_of (form_told r) (take (sheet_told r) sheet')) (take (script_told r) script') ≡ printed text
  unfolding printed
  text_read h =
      ap₂ printed_run (ap₂ sheet_of form-is sheet-start.part) script_start.part
      ∙ sym (printed_read (reading text) (sym refusal_is ∙ h))
