-- A worked question: its frames, its sheet, its arrays and its truth, computed. Assumes nothing.
use Rattle.std.specs.Prelude.{ℕ, ◌<◌, true, false, List, [], ◌∷◌, ◌≡◌, refl}
use Rattle.std.proofs.Common.{arith}
use Rattle.words.specs.Word.{bit}
use Rattle.formula.specs.Assignment.{Assignment, assign, join, none, only}
use Rattle.sheet.specs.declared.Kind.TheVariants.{Input, Not, And, Or, Exists, Forall}
use Rattle.prenex.specs.Question.{clause_truth, matrix_truth, over_atoms, under_blocks, question_truth}
use Rattle.prenex.specs.Question.{some_literal, some_clause, occurs, negated, member, all_atoms, every-none, every_one, distinct_none, distinct_one}
use Rattle.prenex.specs.Question.{SomeBelow, innermost, outer, Proper, Contingent}
use Rattle.prenex.specs.Kinds.{having, count, chain, chain_end, input_kinds, input_frame, negation_kinds, inputs, negations, frame_by, clause_kinds, clause_ends}
use Rattle.prenex.specs.Kinds.{conjunction_kinds, literal_kinds, disjunction_kinds, matrix_kinds, runs_from, runs, run_kinds, block_kinds, kinds, frame_bytes, sheet_bytes, sheet_of}
use Rattle.prenex.specs.Code.{literal_of, to_first, clauses_of, code_of, codes_of, even, word_kinds, opposed, all_opposed}
use Rattle.prenex.specs.Example.{neg, pos, worked}

-- at least one element, all below 3
short : {A : Type 0} (f : A → ℕ) (a : A) → f a < 3 → SomeBelow f 3 (a ∷ [])
short f a h = record { some = omega arith; below = every_one h every-none }

longer : {A : Type 0} (f : A → ℕ) (a : A) {l : List A} → f a < 3 → SomeBelow f 3 l → SomeBelow f 3 (a ∷ l)
longer f a h s = record { some = omega arith; below = every_one h s.below }

pub worked-proper : Proper worked
unfolding occurs some_clause some_literal member all_atoms
worked-proper = record {
  some-clause = omega arith;
  clauses-below =
      every_one (longer _ (pos 0) (omega arith) (short _ (neg 1) (omega arith)))
      (every_one (longer _ (pos 1) (omega arith) (longer _ (pos 2) (omega arith) (short _ (neg 0) (omega arith)))) every-none);
  blocks-below = every_one (short _ 0 (omega arith)) (every_one (longer _ 1 (omega arith) (short _ 2 (omega arith))) every-none);
  alternating = outer refl (innermost refl);
  once = distinct_one refl (distinct_one refl (distinct_one refl distinct_none));
  occurring = every_one refl (every_one refl (every_one refl every-none));
}

-- inputs, negations of 0 and 1, a chain for each clause, their conjunction, and the innermost block first, one run in each block
pub worked-kinds :
    kinds worked
    ≡ Input 0 ∷ Input 1 ∷ Input 2 ∷ Not 0 ∷ Not 1 ∷ Or 0 4 ∷ Or 1 2 ∷ Or 6 3 ∷ And 5 7 ∷ Exists 8 1 2 ∷ Forall 9 0 1 ∷ []
unfolding kinds matrix_kinds literal_kinds disjunction_kinds input_kinds negation_kinds input_frame inputs negations having count frame_by clause_kinds clause_ends chain chain_end conjunction_kinds block_kinds run_kinds runs runs_from occurs negated some_clause some_literal member
worked-kinds = refl

pub worked-sheet :
    sheet_of worked
    ≡ 1 ∷ 0 ∷ 0 ∷ 0 ∷ 1 ∷ 1 ∷ 0 ∷ 0 ∷ 1 ∷ 2 ∷ 0 ∷ 0 ∷ 2 ∷ 0 ∷ 0 ∷ 0 ∷ 2 ∷ 1 ∷ 0 ∷ 0 ∷ 4 ∷ 0 ∷ 4 ∷ 0
    ∷ 4 ∷ 1 ∷ 2 ∷ 0 ∷ 4 ∷ 6 ∷ 3 ∷ 0 ∷ 3 ∷ 5 ∷ 7 ∷ 0 ∷ 5 ∷ 8 ∷ 1 ∷ 2 ∷ 6 ∷ 9 ∷ 0 ∷ 1 ∷ []
unfolding sheet_of sheet_bytes frame_bytes
worked-sheet = rw worked-kinds

-- the two arrays: clauses, and blocks as words
pub worked_codes : codes_of worked.clauses ≡ 1 ∷ 4 ∷ 0 ∷ 3 ∷ 5 ∷ 2 ∷ 0 ∷ []
unfolding codes_of code_of
worked_codes = refl

pub worked-clauses : clauses_of (1 ∷ 4 ∷ 0 ∷ 3 ∷ 5 ∷ 2 ∷ 0 ∷ []) ≡ worked.clauses
unfolding clauses_of to_first literal_of
worked-clauses = refl

pub worked_words : word_kinds (1 ∷ 6 ∷ []) 9 ≡ Exists 8 1 2 ∷ Forall 9 0 1 ∷ []
unfolding word_kinds even run_kinds runs runs_from bit
worked_words = refl

-- no variable is open, so it has one truth; its matrix is true where no variable is, and false where 1 alone is
pub worked-truth : ((σ : Assignment) → question_truth worked σ ≡ true) × (matrix_truth worked.clauses none ≡ true) × (matrix_truth worked.clauses (only 1) ≡ false)
unfolding question_truth under_blocks over_atoms matrix_truth clause_truth join assign
worked-truth = (λ σ. refl, refl, refl)

pub worked_contingent : Contingent worked.clauses
worked_contingent = record { makes_true = (none, worked-truth.1); makes_false = (only 1, worked-truth.2) }

pub worked_unopposed : all_opposed worked.clauses ≡ false
unfolding all_opposed opposed some_literal
worked_unopposed = refl
