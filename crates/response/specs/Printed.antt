-- What is printed for a text, and the contract of `respond` for all inputs. Assumes nothing.
use Rattle.std.specs.Prelude.{ℕ, ◌/◌, ◌%◌, ◌≤◌, ◌<◌, cond, List, [], ◌∷◌, ◌≡◌, eqb, length, take}
use Rattle.sheet.specs.Cause.{Refusal}
use Rattle.form.specs.Form.{answer_bytes, answer_start}
use Rattle.form.specs.declared.Form.{Form}
use Rattle.form.specs.declared.Form.TheVariants.{Narrow, Wide}
use Rattle.sheet.specs.Fields.{Sheet, sheet_of}
use Rattle.model.specs.Model.{lines, answers}
use Rattle.certificate.specs.Run.{refusal, book}
use Rattle.text.specs.Hex.{hex_line}
use Rattle.text.specs.Reading.{Reading, reading, written_over}
use Rattle.text.specs.Answer.{answer_lines}

-- the lines of all answers
abbrev pub all_lines : Form → List ℕ → List ℕ
all_lines F bytes = answer_lines F (length bytes / answer_bytes F) bytes

-- a refusal: its number, its place in one byte and four zero bytes; of a wide text its place in two, the highest first, and seven
abbrev pub refusal_bytes : Form → ℕ → ℕ → List ℕ
refusal_bytes Narrow number place = number ∷ place ∷ 0 ∷ 0 ∷ 0 ∷ 0 ∷ []
refusal_bytes Wide number place = number ∷ place / 256 ∷ place % 256 ∷ 0 ∷ 0 ∷ 0 ∷ 0 ∷ 0 ∷ 0 ∷ 0 ∷ []

unfoldable pub refusal_line : Form → ℕ → ℕ → List ℕ
refusal_line F number place = hex_line (refusal_bytes F number place)

-- the refusal of a run that has room for its answers
abbrev pub refusal_of : Sheet → List ℕ → Refusal
refusal_of sheet script = refusal sheet script (answer_start sheet.form (lines script))

-- a refusal's line, or a line for each answer
abbrev pub lines_by : Form → Refusal → List ℕ → List ℕ
lines_by F r bytes = cond (eqb r.number 0) (all_lines F bytes) (refusal_line F r.number r.place)

-- for a sheet and a script: the answers are the reference model's
unfoldable pub printed_run : Sheet → List ℕ → List ℕ
printed_run sheet script = lines_by sheet.form (refusal_of sheet script) (answers sheet.form (book sheet) script)

-- for what a text reads to: the refusal's line, with place 0, or what the sheet and the script give
abbrev pub printed_for : Reading → List ℕ
printed_for k = cond (eqb k.refusal 0) (printed_run (sheet_of k.form k.sheet) k.script) (refusal_line k.form k.refusal 0)

unfoldable pub printed : List ℕ → List ℕ
printed text = printed_for (reading text)

-- What printing leaves: the count of bytes r, and the buffer, that was out before. Nothing is ever printed in part.
pub record Prints (all out : List ℕ) (r : ℕ) (out' : List ℕ) : Type 0 where
  -- with room for all of it: all of it from the buffer's start, and then what stood behind
  pub count : length all ≤ length out → r ≡ length all
  pub bytes : length all ≤ length out → out' ≡ written_over all out
  -- with less: the buffer is untouched
  pub none : length out < length all → r ≡ 0
  pub untouched : length out < length all → out' ≡ out
  pub fits : r ≤ length out'

-- the first n bytes of the buffer are x
pub record Starts (x buffer : List ℕ) (n : ℕ) : Type 0 where
  pub part : take n buffer ≡ x
  pub fits : n ≤ length buffer
  pub counted : n ≡ length (take n buffer)
