-- From what reading gives to what is printed: the laws that the program goes by. Assumes nothing.
use Rattle.std.specs.Prelude.{ℕ, ◌*◌, ◌/◌, ◌≤◌, ◌<◌, List, [], ◌∷◌, ◌++◌, ◌≡◌, refl, take, drop}
use Rattle.std.proofs.Math.Nat.{min-eq_left}
use Rattle.std.proofs.Common.{arith, ap, subst, ◌∙◌, take_at}
use Rattle.std.proofs.Math.Path.{sym}
use Rattle.std.proofs.Math.ListN.{length}
use Rattle.words.specs.Bytes.{bytes_of}
use Rattle.form.specs.Form.{frame_bytes, answer_bytes}
use Rattle.form.specs.declared.Form.TheVariants.{Narrow}
use Rattle.text.specs.Hex.{hex_lines}
use Rattle.text.specs.Answer.{answer_line, answer_lines, Wrote, WroteFrames, with_room}
use Rattle.text.proofs.AnswerLaws.{one_answer, answer-length}
use Rattle.text.proofs.LineStores.{lines-length}
use Rattle.prenex.specs.Question.{Question, Contingent}
use Rattle.prenex.specs.Kinds.{kinds, sheet_of}
use Rattle.prenex.proofs.SheetLaws.{sheet-length}
use Rattle.dimacs.specs.Page.{Written}
use Rattle.qdimacs.specs.Reading.{sheet_room, Small, Read, short, accepted}
use Rattle.qdimacs.specs.Reading as Reading
use Rattle.from_qdimacs.specs.Converted.{Converted, malformed, large, settled, converted, Prints}

-- ---- a sheet

-- what was read, from the start of the buffer
pub record Sheet (text sheet' : List ℕ) (l : ℕ) : Type 0 where
  pub question : Question
  pub written : Written question text
  pub small : Small question
  pub contingent : Contingent question.clauses
  pub size : l ≡ length (kinds question) * 4
  pub taken : take l sheet' ≡ sheet_of question
