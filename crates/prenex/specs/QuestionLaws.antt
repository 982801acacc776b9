-- The sheet of a question keeps the rules for a sheet and has no gauge, and its formula has the question's truth and free variables. Assumes nothing.
use Rattle.std.specs.Prelude.{ℕ, ◌≤◌, ◌<◌, ◌≡◌, false, not, ◌&&◌}
use mathlib.Core.List.{List}
use Rattle.formula.specs.Assignment.{Assignment}
use Rattle.formula.specs.Formula.{truth, free}
use Rattle.sheet.specs.Fields.{narrow, frames, kind}
use Rattle.sheet.specs.Frames.{formula, Ordered}
use Rattle.sheet.specs.Rules.{last, binds, gauges}
use Rattle.sheet.specs.Keeps.{Keeps}
use Rattle.prenex.specs.Question.{Literal, Clause, Question, matrix_truth, question_truth, occurs, quantified}
use Rattle.prenex.specs.Question.{Every, SomeBelow}
use Rattle.prenex.specs.Kinds.{variables, matrix_kinds, sheet_bytes, sheet_of}

-- ---- the matrix alone

pub record SheetOfMatrix (cs : List Clause) : Type 0 where
  pub ordered : Ordered variables (kind (narrow (sheet_bytes (matrix_kinds cs))))
  pub least : 0 < frames (narrow (sheet_bytes (matrix_kinds cs)))
  pub most : frames (narrow (sheet_bytes (matrix_kinds cs))) ≤ 200
  pub unbound : (k v : ℕ) → k < frames (narrow (sheet_bytes (matrix_kinds cs))) → binds (kind (narrow (sheet_bytes (matrix_kinds cs))) k) v ≡ false
  pub ungauged : gauges (narrow (sheet_bytes (matrix_kinds cs))) ≡ 0
  pub truth-is : (σ : Assignment) → truth (formula (narrow (sheet_bytes (matrix_kinds cs))) (last (narrow (sheet_bytes (matrix_kinds cs))))) σ ≡ matrix_truth cs σ
  pub free-is : (x : ℕ) → free (formula (narrow (sheet_bytes (matrix_kinds cs))) (last (narrow (sheet_bytes (matrix_kinds cs))))) x ≡ occurs cs x

abbrev pub ClausesBelow : List Clause → Type 0
ClausesBelow cs = Every (SomeBelow (λ (l : Literal). l.variable) variables) cs

-- ---- the question

pub record SheetOf (q : Question) : Type 0 where
  pub keeps : Keeps (narrow (sheet_of q))
  pub ungauged : gauges (narrow (sheet_of q)) ≡ 0
  pub truth-is : (σ : Assignment) → truth (formula (narrow (sheet_of q)) (last (narrow (sheet_of q)))) σ ≡ question_truth q σ
  pub free-is : (x : ℕ) → free (formula (narrow (sheet_of q)) (last (narrow (sheet_of q)))) x ≡ occurs q.clauses x && not (quantified q.blocks x)
