-- The shape of a text's fields, as a machine that takes one field after the other. Assumes nothing.
use Rattle.std.specs.Prelude.{ℕ, ◌-◌, Bool, true, false, cond, ◌&&◌, List, [], ◌∷◌, eqb, leb, ltb, Option, None, Some}
use Rattle.dimacs.specs.declared.token.Token.{Token}
use Rattle.dimacs.specs.declared.token.Token.TheVariants.{Line, Problem, Format, Exists, Forall, Number, Negative, Other}
use Rattle.dimacs.specs.declared.shape.Phase.{Phase}
use Rattle.dimacs.specs.declared.shape.Phase.TheVariants.{AtProblem, AtFormat, AtVariables, AtCount, AtHeaderEnd, AtRow, AtFirstAtom, AtAtom, AtBlockEnd, AtClause, AtLiteral, AtClauseEnd, Broken}
use Rattle.dimacs.specs.declared.shape.State.{State}

-- ---- what a field is

-- the number of a field that is one and not negative, and 0 for others
unfoldable pub number_of : Token → ℕ
number_of Line = 0
number_of Problem = 0
number_of Format = 0
number_of Exists = 0
number_of Forall = 0
number_of (Number n) = n
number_of (Negative n) = 0
number_of Other = 0

-- the variable of a literal, from 1 on, and 0 for other fields
unfoldable pub variable_of : Token → ℕ
variable_of Line = 0
variable_of Problem = 0
variable_of Format = 0
variable_of Exists = 0
variable_of Forall = 0
variable_of (Number n) = n
variable_of (Negative n) = n
variable_of Other = 0

unfoldable pub is_zero : Token → Bool
is_zero Line = false
is_zero Problem = false
is_zero Format = false
is_zero Exists = false
is_zero Forall = false
is_zero (Number n) = eqb n 0
is_zero (Negative n) = false
is_zero Other = false

unfoldable pub is_line : Token → Bool
is_line Line = true
is_line Problem = false
is_line Format = false
is_line Exists = false
is_line Forall = false
is_line (Number n) = false
is_line (Negative n) = false
is_line Other = false

unfoldable pub is_problem : Token → Bool
is_problem Line = false
is_problem Problem = true
is_problem Format = false
is_problem Exists = false
is_problem Forall = false
is_problem (Number n) = false
is_problem (Negative n) = false
is_problem Other = false

unfoldable pub is_cnf : Token → Bool
is_cnf Line = false
is_cnf Problem = false
is_cnf Format = true
is_cnf Exists = false
is_cnf Forall = false
is_cnf (Number n) = false
is_cnf (Negative n) = false
is_cnf Other = false

-- the kind of the block that a field begins: 1 (exists) or 2 (forall)
unfoldable pub begun : Token → Option ℕ
begun Line = None
begun Problem = None
begun Format = None
begun Exists = Some 1
begun Forall = Some 2
begun (Number n) = None
begun (Negative n) = None
begun Other = None

-- from 1 to the highest variable
abbrev pub in_range : ℕ → ℕ → Bool
in_range most n = ltb 0 n && leb n most

-- ---- the machine: a phase says what may come next

abbrev pub into : State → Phase → State
into s p = record { phase = p; variables = s.variables; left = s.left; last = s.last }

abbrev pub broken : State → State
broken s = into s Broken

abbrev pub expect : State → Bool → Phase → State
expect s ok p = cond ok (into s p) (broken s)

-- a block begins, of the kind 1 (exists) or 2 (forall), and not of the kind of the block before
abbrev pub block_start : State → ℕ → State
block_start s d = cond (eqb s.last d) (broken s) (record { phase = AtFirstAtom; variables = s.variables; left = s.left; last = d })

-- a clause begins, where some are left
abbrev pub clause_start : State → Token → State
clause_start s t = expect s (ltb 0 s.left && in_range s.variables (variable_of t)) AtLiteral

-- a block where its kind is told; the first clause follows no forall
abbrev pub row_of : State → Token → Option ℕ → State
row_of s t (Some d) = block_start s d
row_of s t None = cond (eqb s.last 2) (broken s) (clause_start s t)

abbrev pub row_start : State → Token → State
row_start s t = row_of s t (begun t)

abbrev pub at_variables : State → ℕ → State
at_variables s n = cond (eqb n 0) (broken s) (record { phase = AtCount; variables = n; left = s.left; last = s.last })

abbrev pub at_count : State → ℕ → State
at_count s n = cond (eqb n 0) (broken s) (record { phase = AtHeaderEnd; variables = s.variables; left = n; last = s.last })

abbrev pub at_atom : State → Token → State
at_atom s t = cond (is_zero t) (into s AtBlockEnd) (expect s (in_range s.variables (number_of t)) AtAtom)

abbrev pub at_literal : State → Token → State
at_literal s t = cond (is_zero t) (into s AtClauseEnd) (expect s (in_range s.variables (variable_of t)) AtLiteral)

abbrev pub at_clause_end : State → Bool → State
at_clause_end s ended =
    cond (ltb 0 s.left && ended) (record { phase = AtClause; variables = s.variables; left = s.left - 1; last = s.last }) (broken s)

unfoldable pub step_in : Phase → State → Token → State
step_in AtProblem s t = expect s (is_problem t) AtFormat
step_in AtFormat s t = expect s (is_cnf t) AtVariables
step_in AtVariables s t = at_variables s (number_of t)
step_in AtCount s t = at_count s (number_of t)
step_in AtHeaderEnd s t = expect s (is_line t) AtRow
step_in AtRow s t = row_start s t
step_in AtFirstAtom s t = expect s (in_range s.variables (number_of t)) AtAtom
step_in AtAtom s t = at_atom s t
step_in AtBlockEnd s t = expect s (is_line t) AtRow
step_in AtClause s t = clause_start s t
step_in AtLiteral s t = at_literal s t
step_in AtClauseEnd s t = at_clause_end s (is_line t)
step_in Broken s t = s

unfoldable pub step : State → Token → State
step s t = step_in s.phase s t

unfoldable pub run : State → List Token → State
run s [] = s
run s (t ∷ ts) = run (step s t) ts

abbrev pub start : State
start = record { phase = AtProblem; variables = 0; left = 0; last = 0 }

-- at the end of the last clause
unfoldable pub finished : Phase → Bool
finished AtProblem = false
finished AtFormat = false
finished AtVariables = false
finished AtCount = false
finished AtHeaderEnd = false
finished AtRow = false
finished AtFirstAtom = false
finished AtAtom = false
finished AtBlockEnd = false
finished AtClause = true
finished AtLiteral = false
finished AtClauseEnd = false
finished Broken = false

unfoldable pub whole : State → Bool
whole s = finished s.phase && eqb s.left 0
