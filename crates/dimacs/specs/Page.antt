-- Which texts are questions in QDIMACS: the grammar, on fields. Assumes nothing.
use Rattle.std.specs.Prelude.{ℕ, suc, Bool, false, cond, List, [], ◌∷◌, ◌≡◌, length}
use Rattle.prenex.specs.Question.{Literal, Block, Clause, Question, Proper}
use Rattle.dimacs.specs.Token.{behind_comments, tokens}
use Rattle.dimacs.specs.declared.token.Token.{Token}
use Rattle.dimacs.specs.declared.token.Token.TheVariants.{Line, Problem, Format, Exists, Forall, Number, Negative}

-- Each definition takes the fields that follow, so that a sequence is one definition within the other.

-- the 0 and the end of a line
abbrev pub ended : List Token → List Token
ended rest = Number 0 ∷ Line ∷ rest

-- variables are written from 1 on
unfoldable pub atom_fields : List ℕ → List Token → List Token
atom_fields [] rest = ended rest
atom_fields (x ∷ xs) rest = Number (suc x) ∷ atom_fields xs rest

unfoldable pub literal_field : Literal → Token
literal_field l = cond l.negative (Negative (suc l.variable)) (Number (suc l.variable))

unfoldable pub clause_fields : Clause → List Token → List Token
clause_fields [] rest = ended rest
clause_fields (l ∷ c) rest = literal_field l ∷ clause_fields c rest

-- clauses, and nothing behind them
unfoldable pub clauses_fields : List Clause → List Token
clauses_fields [] = []
clauses_fields (c ∷ cs) = clause_fields c (clauses_fields cs)

unfoldable pub block_field : Bool → Token
block_field d = cond d Exists Forall

unfoldable pub blocks_fields : List Block → List Token → List Token
blocks_fields [] rest = rest
blocks_fields (b ∷ bs) rest = block_field b.exists ∷ atom_fields b.atoms (blocks_fields bs rest)

-- the problem line, the quantified sets, the clauses
unfoldable pub page : Question → List Token
page q =
    Problem ∷ Format ∷ Number q.variables ∷ Number (length q.clauses) ∷ Line
    ∷ blocks_fields q.blocks (clauses_fields q.clauses)

-- a text that is the question q: comment lines, and then its fields
pub record Written (q : Question) (text : List ℕ) : Type 0 where
  pub fields : tokens (behind_comments false text) ≡ page q
  pub proper : Proper q

-- well formed: a question's text
pub record WellFormed (text : List ℕ) : Type 0 where
  pub question : Question
  pub written : Written question text
