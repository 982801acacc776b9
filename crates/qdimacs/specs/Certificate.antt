-- Reading a question, for every text and buffer: theorems about every call that meets `read`'s contract. Assumes nothing.
use Rattle.std.specs.Prelude.{ℕ, ◌≤◌, List, length}
use Rattle.prenex.specs.Question.{Question, Contingent}
use Rattle.dimacs.specs.Page.{Written}
use Rattle.qdimacs.specs.Reading.{sheet_room, Small}

-- a buffer with room, and the text of a question that is small enough and whose matrix is neither always true nor always false
pub record Acceptable (text sheet : List ℕ) : Type 0 where
  pub room : sheet_room ≤ length sheet
  pub question : Question
  pub written : Written question text
  pub small : Small question
  pub contingent : Contingent question.clauses
