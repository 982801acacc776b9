-- Whether the matrix of a question is neither always true nor always false, as its codes and one question to the solver tell. Assumes nothing.
use Rattle.std.specs.Prelude.{ℕ, ◌≤◌, Bool, true, false, List, ◌≡◌, length}
use Rattle.prenex.specs.Question.{Clause, Contingent}
use Rattle.prenex.specs.Kinds.{matrix_kinds, sheet_bytes}
use Rattle.prenex.specs.Code.{Codes, clauses_of}
use Rattle.prenex.specs.QuestionLaws.{ClausesBelow}

-- codes of clauses that have variables below 32, and the frames of them
pub record Matrix (codes frames : List ℕ) : Type 0 where
  pub codes_are : Codes codes
  pub some-clause : 1 ≤ length (clauses_of codes)
  pub below : ClausesBelow (clauses_of codes)
  pub frames_are : frames ≡ sheet_bytes (matrix_kinds (clauses_of codes))
  pub few : length (matrix_kinds (clauses_of codes)) ≤ 200

-- what is told of clauses
pub record Judged (cs : List Clause) (r : Bool) : Type 0 where
  pub is_contingent : r ≡ true → Contingent cs
  pub is-settled : r ≡ false → Contingent cs → ⊥
