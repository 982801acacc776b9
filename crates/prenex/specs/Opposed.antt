-- A matrix is true under every assignment exactly if each clause has a literal and its opposite. Assumes nothing.
use Rattle.std.specs.Prelude.{Bool, true, ◌&&◌, ◌≡◌, eqb}
use Rattle.formula.specs.Assignment.{Assignment}
use Rattle.prenex.specs.Question.{Literal, Clause, some_literal}

-- l is one of c's literals: each test that l passes, some literal of c passes
abbrev pub Of : Clause → Literal → Type 0
Of c l = (t : Literal → Bool) → t l ≡ true → some_literal t c ≡ true

-- ---- a clause without opposites is false where exactly the variables are true that it has negated

abbrev pub against : Clause → Assignment
against c x = some_literal (λ l. l.negative && eqb x l.variable) c
