-- A worked question: its frames, its sheet, its arrays and its truth, computed. Assumes nothing.
use Rattle.std.specs.Prelude.{ℕ, true, false, [], ◌∷◌}
use Rattle.prenex.specs.Question.{Literal, Question}

-- x, and its negation
abbrev pub pos : ℕ → Literal
pos x = record { negative = false; variable = x }

abbrev pub neg : ℕ → Literal
neg x = record { negative = true; variable = x }

-- p cnf 3 2
-- a 1 0
-- e 2 3 0
-- 1 -2 0
-- 2 3 -1 0
abbrev pub worked : Question
worked = record {
  variables = 3;
  blocks = record { exists = false; atoms = 0 ∷ [] } ∷ record { exists = true; atoms = 1 ∷ 2 ∷ [] } ∷ [];
  clauses = (pos 0 ∷ neg 1 ∷ []) ∷ (pos 1 ∷ pos 2 ∷ neg 0 ∷ []) ∷ [];
}
