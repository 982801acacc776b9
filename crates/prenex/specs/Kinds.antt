-- The frames of a question, in the order that document 02 gives: inputs, negations, clauses, their conjunction, quantifiers. Executable. Assumes nothing.
use Rattle.std.specs.Prelude.{ℕ, zero, suc, ◌+◌, ◌-◌, Bool, cond, List, [], ◌∷◌, ◌++◌, map, eqb, length}
use Rattle.form.specs.Form as Sizes
use Rattle.form.specs.declared.Form.TheVariants.{Narrow}
use Rattle.sheet.specs.declared.Kind.{Kind}
use Rattle.sheet.specs.declared.Kind.TheVariants.{Never, Input, Not, And, Or, Exists, Forall, Gauge}
use Rattle.prenex.specs.Question.{Literal, Block, Clause, Question, occurs, negated, member}

-- questions have narrow sheets: variables are 0 to 31, frames at most 200
abbrev pub variables : ℕ
variables = Sizes.variables Narrow

abbrev pub most_frames : ℕ
most_frames = Sizes.most_frames Narrow

-- ---- numbers with a property, among the n from x on

unfoldable pub having : (ℕ → Bool) → ℕ → ℕ → List ℕ
having p x zero = []
having p x (suc n) = cond (p x) (x ∷ having p (suc x) n) (having p (suc x) n)

unfoldable pub count : (ℕ → Bool) → ℕ → ℕ → ℕ
count p x zero = 0
count p x (suc n) = cond (p x) (suc (count p (suc x) n)) (count p (suc x) n)

-- ---- chains: the frames from n on join a and the members, one after the other; a chain goes on in A and has its newest member in B

unfoldable pub chain : (ℕ → ℕ → Kind) → ℕ → List ℕ → ℕ → List Kind
chain K a [] n = []
chain K a (b ∷ bs) n = K a b ∷ chain K n bs (suc n)

-- the frame that a chain ends with
unfoldable pub chain_end : ℕ → List ℕ → ℕ → ℕ
chain_end a [] n = a
chain_end a (b ∷ bs) n = chain_end n bs (suc n)

-- ---- literals

-- the inputs come first, then the negations, each ascending
unfoldable pub input_kinds : List Clause → List Kind
input_kinds cs = map Input (having (occurs cs) 0 variables)

-- the frame of x's input
unfoldable pub input_frame : List Clause → ℕ → ℕ
input_frame cs x = count (occurs cs) 0 x

unfoldable pub negation_kinds : List Clause → List Kind
negation_kinds cs = map (λ x. Not (input_frame cs x)) (having (negated cs) 0 variables)

unfoldable pub inputs : List Clause → ℕ
inputs cs = count (occurs cs) 0 variables

unfoldable pub negations : List Clause → ℕ
negations cs = count (negated cs) 0 variables

-- the frame of a literal, where p are the variables with an input and q those with a negation
unfoldable pub frame_by : (ℕ → Bool) → (ℕ → Bool) → Literal → ℕ
frame_by p q l = cond l.negative (count p 0 variables + count q 0 l.variable) (count p 0 l.variable)

abbrev pub literal_frame : List Clause → Literal → ℕ
literal_frame cs = frame_by (occurs cs) (negated cs)

-- ---- clauses, with f for the frames of literals

-- a clause: its first literal and the others
unfoldable pub clause_kinds : (Literal → ℕ) → List Clause → ℕ → List Kind
clause_kinds f [] n = []
clause_kinds f ([] ∷ cs) n = clause_kinds f cs n
clause_kinds f ((l ∷ ls) ∷ cs) n = chain Or (f l) (map f ls) n ++ clause_kinds f cs (n + length ls)

-- the frames that the clauses end with
unfoldable pub clause_ends : (Literal → ℕ) → List Clause → ℕ → List ℕ
clause_ends f [] n = []
clause_ends f ([] ∷ cs) n = clause_ends f cs n
clause_ends f ((l ∷ ls) ∷ cs) n = chain_end (f l) (map f ls) n ∷ clause_ends f cs (n + length ls)

unfoldable pub conjunction_kinds : List ℕ → ℕ → List Kind
conjunction_kinds [] n = []
conjunction_kinds (a ∷ others) n = chain And a others n

-- ---- the matrix

unfoldable pub literal_kinds : List Clause → List Kind
literal_kinds cs = input_kinds cs ++ negation_kinds cs

unfoldable pub disjunction_kinds : List Clause → List Kind
disjunction_kinds cs = clause_kinds (literal_frame cs) cs (inputs cs + negations cs)

unfoldable pub matrix_kinds : List Clause → List Kind
matrix_kinds cs =
    let clauses = literal_kinds cs ++ disjunction_kinds cs in
    clauses ++ conjunction_kinds (clause_ends (literal_frame cs) cs (inputs cs + negations cs)) (length clauses)

-- ---- quantifiers

-- consecutive variables: the first, and how many
pub record Run : Type 0 where
  pub first : ℕ
  pub size : ℕ

-- a run of c variables that ends before x
abbrev pub ended : ℕ → ℕ → List Run
ended x c = cond (eqb c 0) [] (record { first = x - c; size = c } ∷ [])

-- the longest runs of variables with p among the n from x on, ascending; c variables right before x belong to the first
unfoldable pub runs_from : (ℕ → Bool) → ℕ → ℕ → ℕ → List Run
runs_from p x c zero = ended x c
runs_from p x c (suc n) = cond (p x) (runs_from p (suc x) (suc c) n) (ended x c ++ runs_from p (suc x) 0 n)

unfoldable pub runs : (ℕ → Bool) → List Run
runs p = runs_from p 0 0 variables

abbrev pub quantifier : Bool → ℕ → ℕ → ℕ → Kind
quantifier d a b c = cond d (Exists a b c) (Forall a b c)

-- from frame n on, each over the frame before it
unfoldable pub run_kinds : Bool → List Run → ℕ → List Kind
run_kinds d [] n = []
run_kinds d (r ∷ rs) n = quantifier d (n - 1) r.first r.size ∷ run_kinds d rs (suc n)

-- the innermost block first
unfoldable pub block_kinds : List Block → ℕ → List Kind
block_kinds [] n = []
block_kinds (b ∷ bs) n = block_kinds bs n ++ run_kinds b.exists (runs (member b.atoms)) (n + length (block_kinds bs n))

unfoldable pub kinds : Question → List Kind
kinds q = matrix_kinds q.clauses ++ block_kinds q.blocks (length (matrix_kinds q.clauses))

-- ---- the bytes

unfoldable pub frame_bytes : Kind → List ℕ
frame_bytes Never = 0 ∷ 0 ∷ 0 ∷ 0 ∷ []
frame_bytes (Input x) = 1 ∷ x ∷ 0 ∷ 0 ∷ []
frame_bytes (Not a) = 2 ∷ a ∷ 0 ∷ 0 ∷ []
frame_bytes (And a b) = 3 ∷ a ∷ b ∷ 0 ∷ []
frame_bytes (Or a b) = 4 ∷ a ∷ b ∷ 0 ∷ []
frame_bytes (Exists a b c) = 5 ∷ a ∷ b ∷ c ∷ []
frame_bytes (Forall a b c) = 6 ∷ a ∷ b ∷ c ∷ []
frame_bytes (Gauge x) = 7 ∷ x ∷ 0 ∷ 0 ∷ []

unfoldable pub sheet_bytes : List Kind → List ℕ
sheet_bytes [] = []
sheet_bytes (k ∷ ks) = frame_bytes k ++ sheet_bytes ks

unfoldable pub sheet_of : Question → List ℕ
sheet_of q = sheet_bytes (kinds q)
