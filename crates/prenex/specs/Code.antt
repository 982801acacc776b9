-- A question in two arrays: the clauses as codes of literals, with 0 behind each clause, and the blocks as words, outermost first. Assumes nothing.
use Rattle.std.specs.Prelude.{ℕ, zero, suc, ◌+◌, ◌-◌, ◌*◌, ◌/◌, ◌%◌, ◌≤◌, ◌<◌, Bool, true, not, cond, ◌&&◌, List, [], ◌∷◌, ◌++◌, map, eqb, length, get_or}
use Rattle.words.specs.Word.{bit}
use Rattle.sheet.specs.declared.Kind.{Kind}
use Rattle.sheet.specs.declared.Kind.TheVariants.{Or}
use Rattle.prenex.specs.Question.{Literal, Clause, some_literal}
use Rattle.prenex.specs.Kinds.{chain, chain_end, clause_kinds, clause_ends, runs, run_kinds}

-- x is 2 x + 1, and its negation 2 x + 2
unfoldable pub literal_of : ℕ → Literal
literal_of c = record { negative = eqb ((c - 1) % 2) 1; variable = (c - 1) / 2 }

-- a literal more in front of the first clause
unfoldable pub to_first : Literal → List Clause → List Clause
to_first l [] = (l ∷ []) ∷ []
to_first l (c ∷ cs) = (l ∷ c) ∷ cs

unfoldable pub clauses_of : List ℕ → List Clause
clauses_of [] = []
clauses_of (c ∷ cs) = cond (eqb c 0) ([] ∷ clauses_of cs) (to_first (literal_of c) (clauses_of cs))

-- ---- the codes of clauses

unfoldable pub code_of : Literal → ℕ
code_of l = cond l.negative (2 * l.variable + 2) (2 * l.variable + 1)

unfoldable pub codes_of : List Clause → List ℕ
codes_of [] = []
codes_of (c ∷ cs) = map code_of c ++ 0 ∷ codes_of cs

-- how many literals the clauses have
unfoldable pub literals : List Clause → ℕ
literals [] = 0
literals (c ∷ cs) = length c + literals cs

-- variables are below 32, and no literal stands last
pub record Codes (l : List ℕ) : Type 0 where
  pub below : (i : ℕ) → get_or l i 0 ≤ 64
  pub ended : (i : ℕ) → 0 < get_or l i 0 → suc i < length l

unfoldable pub even : ℕ → Bool
even zero = true
even (suc n) = not (even n)

-- the quantifiers of the blocks from frame n on: the last word is the innermost block, an exists, and each other one is of the other kind than the next
unfoldable pub word_kinds : List ℕ → ℕ → List Kind
word_kinds [] n = []
word_kinds (m ∷ ms) n = word_kinds ms n ++ run_kinds (even (length ms)) (runs (bit m)) (n + length (word_kinds ms n))

-- ---- what is left of the clauses within one, whose chain has come to frame a

unfoldable pub kinds_within : (Literal → ℕ) → ℕ → List Clause → ℕ → List Kind
kinds_within f a [] n = []
kinds_within f a (c ∷ cs) n = chain Or a (map f c) n ++ clause_kinds f cs (n + length c)

unfoldable pub ends_within : (Literal → ℕ) → ℕ → List Clause → ℕ → List ℕ
ends_within f a [] n = []
ends_within f a (c ∷ cs) n = chain_end a (map f c) n ∷ clause_ends f cs (n + length c)

-- ---- clauses that are always true

-- the clause has a literal and its opposite
unfoldable pub opposed : Clause → Bool
opposed c = some_literal (λ l. l.negative && some_literal (λ k. not k.negative && eqb l.variable k.variable) c) c

unfoldable pub all_opposed : List Clause → Bool
all_opposed [] = true
all_opposed (c ∷ cs) = opposed c && all_opposed cs
