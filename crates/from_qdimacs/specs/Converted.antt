-- What is printed for the text of a question: the lines of its sheet, or one line for a refusal. Assumes nothing.
use Rattle.std.specs.Prelude.{ℕ, ◌≤◌, List, ◌≡◌, length, take}
use Rattle.form.specs.Form.{frame_bytes}
use Rattle.form.specs.declared.Form.TheVariants.{Narrow}
use Rattle.sheet.specs.Refusal as Number
use Rattle.text.specs.Hex.{hex_lines}
use Rattle.text.specs.Answer.{answer_line}
use Rattle.prenex.specs.Question.{Question, Contingent}
use Rattle.prenex.specs.Kinds.{kinds, sheet_of}
use Rattle.dimacs.specs.Page.{Written, WellFormed}
use Rattle.qdimacs.specs.Reading.{Large, Small}

-- a refusal is printed as bin/interlock prints one
pub data Converted (text : List ℕ) : List ℕ → Type 0 where
  malformed : (WellFormed text → ⊥) → Converted text (answer_line Narrow Number.question_broken 0 0)
  large : {q : Question} → Written q text → Large q → Converted text (answer_line Narrow Number.question_too_large 0 0)
  settled : {q : Question} → Written q text → Small q → (Contingent q.clauses → ⊥) → Converted text (answer_line Narrow Number.question_broken 0 0)
  converted : {q : Question} → Written q text → Small q → Contingent q.clauses → Converted text (hex_lines (frame_bytes Narrow) (length (kinds q)) (sheet_of q))

-- the buffer begins with all of it, r bytes
pub record Prints (text out : List ℕ) (r : ℕ) : Type 0 where
  pub lines : List ℕ
  pub is-converted : Converted text lines
  pub count : r ≡ length lines
  pub bytes : take r out ≡ lines
  pub fits : r ≤ length out
  pub counted : r ≡ length (take r out)
