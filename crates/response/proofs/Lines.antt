-- What is printed, in words. Each theorem stands under its sentence. Assumes nothing.
use Rattle.std.specs.Prelude.{ℕ, ◌*◌, ◌/◌, ◌≤◌, ◌<◌, ◌≡◌, eqb, drop}
use native.Mathlib.Omega.{arith}
use mathlib.Core.List.{List, []}
use Rattle.std.proofs.Math.Path.{sym, ap}
use Rattle.std.proofs.Common.{◌∙◌}
use Rattle.std.proofs.Math.ListN.{length, take}
use Rattle.words.specs.Logic.{tests}
use Rattle.words.proofs.Logic.{by_bool}
use Rattle.sheet.specs.Cause.{Refusal}
use Rattle.sheet.specs.Keeps.{Keeps}
use Rattle.form.specs.Form as Sizes
use Rattle.form.specs.Form.{answer_start}
use Rattle.form.specs.declared.Form.{Form}
use Rattle.form.specs.declared.Form.TheVariants.{Narrow, Wide}
use Rattle.sheet.specs.Fields.{Sheet, sheet_of}
use Rattle.model.specs.Model.{answer_bytes, lines, answer_at, answers}
use Rattle.model.proofs.Script.{length-answers, answer-bytes}
use Rattle.certificate.specs.Run.{refusal, book}
use Rattle.certificate.proofs.Accept.{number-proper, proper-accepted}
use Rattle.text.specs.Hex.{hex_line}
use Rattle.text.specs.Reading.{script_frames, script_frame_bytes, reading}
use Rattle.text.specs.ReadingLaws.{Framed}
use Rattle.text.proofs.ReadingLaws.{script_framed}
use Rattle.text.specs.Grammar.{TextOf}
use Rattle.text.proofs.RoundTrip.{round_trip}
use Rattle.text.specs.Prefix.{decisive}
use Rattle.text.proofs.Prefix.{reading-prefix}
use Rattle.text.specs.Answer.{answer_line_bytes, answer_line}
use Rattle.text.proofs.AnswerLaws.{line_at}
use Rattle.response.specs.Printed.{all_lines, refusal_line, refusal_of, lines_by, printed_run, printed_for, printed, Prints, Starts}
use Rattle.response.proofs.PrintedLaws.{all-length, refusal-length, starts, lines-refused, lines_answered, printed-refused, printed_read, room_fits}
use Rattle.response.specs.Lines.{most_printed}

-- What stands behind the first bytes of a text that decide makes no difference.
pub printed-prefix : (k : ℕ) (text : List ℕ) → decisive ≤ k → printed (take k text) ≡ printed text
unfolding printed
printed-prefix k text h = ap printed_for (reading-prefix k text h)

-- A sheet and a script of a form print the same in capitals or lower case, with lines ended 0A or 0D 0A.
pub printed_alike : {F : Form} {sheet script a b : List ℕ} → TextOf F sheet script a → TextOf F sheet script b → printed a ≡ printed b
unfolding printed
printed_alike p q = ap printed_for (round_trip p ∙ sym (round_trip q))

lines-most : (F : Form) (l : List ℕ) (n : ℕ) → length l ≡ answer_start F n → n ≤ 1000 → length (all_lines F l) ≤ most_printed F
lines-most Narrow l n e h = omega (arith, all-length Narrow l)
lines-most Wide l n e h = omega (arith, all-length Wide l)

refusal-most : (F : Form) (n k : ℕ) → length (refusal_line F n k) ≤ most_printed F
refusal-most Narrow n k = omega (arith, refusal-length Narrow n k)
refusal-most Wide n k = omega (arith, refusal-length Wide n k)

run-most : (sheet : Sheet) (script : List ℕ) → length (printed_run sheet script) ≤ most_printed sheet.form
unfolding printed_run
run-most sheet script =
    let r = refusal_of sheet script in
    let x = answers sheet.form (book sheet) script in
    by_bool (eqb r.number 0)
    (λ t. let e : r.number ≡ 0 = omega tests in
    omega (arith, ap length (lines_answered sheet.form r x e), lines-most sheet.form x (lines script) (length-answers sheet.form (book sheet) script) (number-proper sheet script _ e).few))
    (λ f. omega (arith, ap length (lines-refused sheet.form r x (omega tests)), refusal-most sheet.form r.number r.place))

form_most : (F : Form) → most_printed F ≤ 21000
form_most Narrow = omega arith
form_most Wide = omega arith

-- A narrow text prints 13,000 bytes at most, 1,000 lines of 13, and a wide one 21,000, 1,000 lines of 21.
pub printed-within : (text : List ℕ) → length (printed text) ≤ most_printed (reading text).form
unfolding printed
printed-within text =
    let k = reading text in
    by_bool (eqb k.refusal 0)
    (λ t. omega (arith, ap length (printed_read k (omega tests)), run-most (sheet_of k.form k.sheet) k.script))
    (λ f. omega (arith, ap length (printed-refused k (omega tests)), refusal-most k.form k.refusal 0))

-- 21,000 bytes always suffice.
pub printed-most : (text : List ℕ) → length (printed text) ≤ 21000
printed-most text = omega (arith, printed-within text, form_most (reading text).form)

-- A buffer of that length starts with all of it.
pub prints-whole : (text : List ℕ) {out out' : List ℕ} {r : ℕ} → 21000 ≤ length out → Prints (printed text) out r out' → Starts (printed text) out' r
prints-whole text {out} h p =
    let l : length (printed text) ≤ length out = omega (arith, printed-most text) in
    starts (printed text) (drop (length (printed text)) out) (p.bytes l) (p.count l)

-- ---- what is printed

-- A text that is refused prints one line: the number, place 0, and four zero bytes; a wide one the number, place 0 in two bytes, and seven.
pub prints-unread : (text : List ℕ) (n : ℕ) → 0 < n → (reading text).refusal ≡ n → printed text ≡ refusal_line (reading text).form n 0
unfolding printed
prints-unread text n h e = printed-refused (reading text) (λ z. omega arith) ∙ ap (λ (k : ℕ). refusal_line (reading text).form k 0) e

-- of a text of a form that reads to a sheet and a script
module _ (F : Form) (text bytes script : List ℕ) (reads : reading text ≡ record { form = F; refusal = 0; sheet = bytes; script = script }) where
  abbrev sheet : Sheet
  sheet = sheet_of F bytes

  runs : printed text ≡ printed_run sheet script
  unfolding printed
  runs = ap printed_for reads

  -- A run that is refused prints one line: the number and the place of its refusal, whatever room above the answers it has, and zero bytes.
  pub prints-refused : (room n k : ℕ) → answer_start F (lines script) ≤ room → 0 < n → refusal sheet script room ≡ record { number = n; place = k }
      → printed text ≡ refusal_line F n k
  unfolding printed_run
  prints-refused room n k fits h e =
      let r : refusal_of sheet script ≡ record { number = n; place = k } = sym (room_fits sheet script room fits) ∙ e in
      runs ∙ ap (λ (q : Refusal). lines_by F q (answers F (book sheet) script)) r
      ∙ lines-refused F (record { number = n; place = k }) (answers F (book sheet) script) (λ z. omega arith)

  -- Where the sheet keeps its rules, one line is printed for each line of the script, and line i is that of the reference model's answer i.
  module _ (keeps : Keeps sheet) where
    accepted : (refusal_of sheet script).number ≡ 0
    accepted =
        let f : Framed script_frame_bytes script_frames script = rw reads at (script_framed text) in
        ap (λ (r : Refusal). r.number) (proper-accepted sheet script (answer_start F (lines script))
        (record { sheet-kept = keeps; whole = omega (arith, f.whole); few = omega (arith, f.whole, f.most); room = omega arith }))

    all-answers : printed text ≡ all_lines F (answers F (book sheet) script)
    unfolding printed_run
    all-answers = runs ∙ lines_answered F (refusal_of sheet script) (answers F (book sheet) script) accepted

    pub prints-lines : length (printed text) ≡ lines script * answer_line_bytes F
    prints-lines = ap length all-answers ∙ lines-whole F (answers F (book sheet) script) (lines script) (length-answers F (book sheet) script)
      where
        lines-whole : (G : Form) (l : List ℕ) (n : ℕ) → length l ≡ answer_start G n → length (all_lines G l) ≡ n * answer_line_bytes G
        lines-whole Narrow l n e = omega (arith, all-length Narrow l)
        lines-whole Wide l n e = omega (arith, all-length Wide l)

    pub prints-answers : (i : ℕ) → i < lines script
        → take (answer_line_bytes F) (drop (answer_line_bytes F * i) (printed text))
        ≡ answer_line F (answer_at (book sheet) [] script i).number (answer_at (book sheet) [] script i).v (answer_at (book sheet) [] script i).word
    unfolding answers answer_bytes answer_line
    prints-answers i h =
        let x = answers F (book sheet) script in
        ap (λ (l : List ℕ). take (answer_line_bytes F) (drop (answer_line_bytes F * i) l)) all-answers
        ∙ line_at (Sizes.answer_bytes F) i (length x / Sizes.answer_bytes F) x (whole-count F x (lines script) i (length-answers F (book sheet) script) h) (whole-bytes F x)
        ∙ ap (λ (j : ℕ). hex_line (take (Sizes.answer_bytes F) (drop j x))) (start F i)
        ∙ ap hex_line (answer-bytes F (book sheet) [] script i (lines script) h)
      where
        whole-count : (G : Form) (l : List ℕ) (n j : ℕ) → length l ≡ answer_start G n → j < n → j < length l / Sizes.answer_bytes G
        whole-count Narrow l n j e k = omega arith
        whole-count Wide l n j e k = omega arith

        whole-bytes : (G : Form) (l : List ℕ) → length l / Sizes.answer_bytes G * Sizes.answer_bytes G ≤ length l
        whole-bytes Narrow l = omega arith
        whole-bytes Wide l = omega arith

        start : (G : Form) (j : ℕ) → Sizes.answer_bytes G * j ≡ answer_start G j
        start Narrow j = omega arith
        start Wide j = omega arith
