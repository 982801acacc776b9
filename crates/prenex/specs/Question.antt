-- A prenex question in clauses: what it is, what it means, and which ones the QDIMACS standard admits. Variables are 0, 1, ..: the text's variable k is k - 1 here.
-- Assumes nothing.
use Rattle.std.specs.Prelude.{ℕ, ◌≤◌, ◌<◌, Bool, true, false, not, cond, ◌&&◌, ◌||◌, List, [], ◌∷◌, ◌++◌, ◌≡◌, eqb, length}
use Rattle.formula.specs.Assignment.{Assignment, assign, join}

-- a variable or its negation
pub record Literal : Type 0 where
  pub negative : Bool
  pub variable : ℕ

-- a quantified set: some (exists) or every assignment of its atoms
pub record Block : Type 0 where
  pub exists : Bool
  pub atoms : List ℕ

abbrev pub Clause : Type 0
Clause = List Literal

-- the variables are those below the number in the problem line, used or not; the blocks stand outermost first
pub record Question : Type 0 where
  pub variables : ℕ
  pub blocks : List Block
  pub clauses : List Clause

-- ---- the meaning: clauses, then the prefix from the inside

abbrev pub literal_truth : Literal → Assignment → Bool
literal_truth l σ = cond l.negative (not (σ l.variable)) (σ l.variable)

unfoldable pub clause_truth : Clause → Assignment → Bool
clause_truth [] σ = false
clause_truth (l ∷ c) σ = literal_truth l σ || clause_truth c σ

unfoldable pub matrix_truth : List Clause → Assignment → Bool
matrix_truth [] σ = true
matrix_truth (c ∷ cs) σ = clause_truth c σ && matrix_truth cs σ

-- p under some (d true) or every (d false) assignment of the atoms
unfoldable pub over_atoms : Bool → List ℕ → (Assignment → Bool) → Assignment → Bool
over_atoms d [] p σ = p σ
over_atoms d (x ∷ xs) p σ = join d (over_atoms d xs p (assign σ x false)) (over_atoms d xs p (assign σ x true))

unfoldable pub under_blocks : List Block → (Assignment → Bool) → Assignment → Bool
under_blocks [] p σ = p σ
under_blocks (b ∷ bs) p σ = over_atoms b.exists b.atoms (under_blocks bs p) σ

unfoldable pub question_truth : Question → Assignment → Bool
question_truth q σ = under_blocks q.blocks (matrix_truth q.clauses) σ

-- ---- which variables occur, and how

-- a literal's test holds of some literal of the clauses
unfoldable pub some_literal : (Literal → Bool) → Clause → Bool
some_literal t [] = false
some_literal t (l ∷ c) = t l || some_literal t c

unfoldable pub some_clause : (Literal → Bool) → List Clause → Bool
some_clause t [] = false
some_clause t (c ∷ cs) = some_literal t c || some_clause t cs

unfoldable pub occurs : List Clause → ℕ → Bool
occurs cs x = some_clause (λ l. eqb x l.variable) cs

unfoldable pub negated : List Clause → ℕ → Bool
negated cs x = some_clause (λ l. l.negative && eqb x l.variable) cs

unfoldable pub member : List ℕ → ℕ → Bool
member [] x = false
member (y ∷ ys) x = eqb x y || member ys x

-- all atoms of the prefix
unfoldable pub all_atoms : List Block → List ℕ
all_atoms [] = []
all_atoms (b ∷ bs) = b.atoms ++ all_atoms bs

abbrev pub quantified : List Block → ℕ → Bool
quantified bs x = member (all_atoms bs) x

-- ---- what the standard asks

-- each element has P
pub data Every {A : Type 0} (P : A → Type 0) : List A → Type 0 where
  every-none : Every P []
  every_one : {a : A} {l : List A} → P a → Every P l → Every P (a ∷ l)

-- no element stands twice
pub data Distinct : List ℕ → Type 0 where
  distinct_none : Distinct []
  distinct_one : {x : ℕ} {l : List ℕ} → member l x ≡ false → Distinct l → Distinct (x ∷ l)

-- at least one element, all below n
pub record SomeBelow {A : Type 0} (f : A → ℕ) (n : ℕ) (l : List A) : Type 0 where
  pub some : 1 ≤ length l
  pub below : Every (λ a. f a < n) l

-- neighbours differ, and the innermost is an exists
pub data Alternating : List Block → Type 0 where
  no_block : Alternating []
  innermost : {b : Block} → b.exists ≡ true → Alternating (b ∷ [])
  outer : {b c : Block} {bs : List Block} → b.exists ≡ not c.exists → Alternating (c ∷ bs) → Alternating (b ∷ c ∷ bs)

pub record Proper (q : Question) : Type 0 where
  -- at least one clause; each clause and each block has a member, and variables are below the problem line's number
  pub some-clause : 1 ≤ length q.clauses
  pub clauses-below : Every (SomeBelow (λ (l : Literal). l.variable) q.variables) q.clauses
  pub blocks-below : Every (λ (b : Block). SomeBelow (λ (x : ℕ). x) q.variables b.atoms) q.blocks
  pub alternating : Alternating q.blocks
  -- no atom is quantified twice, and each occurs in a clause
  pub once : Distinct (all_atoms q.blocks)
  pub occurring : Every (λ x. occurs q.clauses x ≡ true) (all_atoms q.blocks)

-- what the standard asks of the matrix's truth: neither true under every assignment nor false under every one
pub record Contingent (cs : List Clause) : Type 0 where
  pub makes_true : (σ : Assignment) × (matrix_truth cs σ ≡ true)
  pub makes_false : (σ : Assignment) × (matrix_truth cs σ ≡ false)
