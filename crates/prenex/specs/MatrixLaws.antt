-- The frames of a question's clauses: they name earlier frames only, and the last one has the truth and the variables of the clauses. Assumes nothing.
use Rattle.std.specs.Prelude.{ℕ, ◌-◌, ◌≤◌, ◌<◌, ◌≡◌}
use Rattle.std.proofs.Math.Bool.{false}
use mathlib.Core.List.{List}
use Rattle.std.proofs.Math.ListN.{length}
use Rattle.formula.specs.Assignment.{Assignment}
use Rattle.formula.specs.Formula.{truth, free}
use Rattle.sheet.specs.Frames.{formula_of, OrderedBelow}
use Rattle.sheet.specs.Rules.{binds}
use Rattle.sheet.specs.declared.Kind.{Kind}
use Rattle.prenex.specs.Question.{Clause, matrix_truth, occurs}
use Rattle.prenex.specs.Kinds.{variables}
use Rattle.prenex.specs.Kinds.{matrix_kinds}
use Rattle.prenex.specs.ChainLaws.{Plain}

-- ---- the matrix

-- what κ has of the clauses, whose frames stand in it from frame 0 on: plain frames, and the last of them is the matrix
pub record MatrixStands (κ : ℕ → Kind) (cs : List Clause) : Type 0 where
  pub least : 1 ≤ length (matrix_kinds cs)
  pub plain : (k : ℕ) → k < length (matrix_kinds cs) → Plain k (κ k)
  pub ordered : OrderedBelow (length (matrix_kinds cs)) variables κ
  pub unbound : (k v : ℕ) → k < length (matrix_kinds cs) → binds (κ k) v ≡ false
  pub truth-is : (σ : Assignment) → truth (formula_of κ (length (matrix_kinds cs) - 1)) σ ≡ matrix_truth cs σ
  pub free-is : (x : ℕ) → free (formula_of κ (length (matrix_kinds cs) - 1)) x ≡ occurs cs x
