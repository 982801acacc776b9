-- The machine of Shape.antt accepts exactly the pages of questions of the right shape. Assumes nothing.
use Rattle.std.specs.Prelude.{ℕ, ◌≤◌, length}
use Rattle.prenex.specs.Question.{Literal, Block, Question, Every, SomeBelow, Alternating}

-- what the machine checks of a question: all that the standard asks but where its atoms occur
pub record Shaped (q : Question) : Type 0 where
  pub some-clause : 1 ≤ length q.clauses
  pub clauses-below : Every (SomeBelow (λ (l : Literal). l.variable) q.variables) q.clauses
  pub blocks-below : Every (λ (b : Block). SomeBelow (λ (x : ℕ). x) q.variables b.atoms) q.blocks
  pub alternating : Alternating q.blocks
