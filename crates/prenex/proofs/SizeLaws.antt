-- How many frames a question has at least: as many as literals, and as many as blocks. Assumes nothing.
use Prim.Native.Nat.{ℕ, zero, suc, ◌+◌, ◌-◌, ◌≤◌, ◌<◌}
use Rattle.std.proofs.Common.{arith, ◌∙◌, length-append, eqb-true, eq-eqb, ne_eqb}
use Rattle.std.specs.Prelude.{Bool, true, ◌≡◌, eqb}
use mathlib.Core.List.{List, [], ◌∷◌, ◌++◌, map}
use Rattle.std.proofs.Math.Path.{refl, ap}
use Rattle.std.proofs.Math.ListN.{length, length-map}
use Rattle.words.specs.Logic.{tests}
use Rattle.words.proofs.Logic.{by_bool, clash}
use Rattle.sheet.specs.declared.Kind.TheVariants.{Input, And, Or}
use Rattle.prenex.specs.Question.{Literal, Block, Clause, Question, some_literal, some_clause, occurs, member}
use Rattle.prenex.specs.Question.{Every, every-none, every_one, SomeBelow, Proper}
use Rattle.prenex.specs.Kinds.{variables, having, chain, input_kinds, negation_kinds, inputs, negations, literal_frame, literal_kinds, clause_kinds, clause_ends}
use Rattle.prenex.specs.Kinds.{conjunction_kinds, disjunction_kinds, matrix_kinds, ended, runs_from, runs, run_kinds, block_kinds, kinds}
use Rattle.prenex.specs.Code.{literals}
use Rattle.prenex.proofs.CodeLaws.{clauses-literals}
use Rattle.prenex.proofs.CountLaws.{having-length, count_less}
use Rattle.prenex.proofs.ChainLaws.{chain_length}
use Rattle.prenex.proofs.PrefixLaws.{run-kinds-length}
use Rattle.prenex.proofs.Every.{every_map, every_first, every-wider, every_some, below_wider}

-- ---- literals: at least one input

-- the first literal's variable occurs
first-occurs : (l : Literal) (c : Clause) (cs : List Clause) → occurs ((l ∷ c) ∷ cs) l.variable ≡ true
unfolding occurs some_clause some_literal
first-occurs l c cs = rw (eq-eqb l.variable l.variable refl)

some-input : (cs : List Clause) → 1 ≤ length cs → Every (SomeBelow (λ (l : Literal). l.variable) 32) cs → 1 ≤ length (input_kinds cs)
unfolding input_kinds
some-input [] some e = absurd (omega (arith, some))
some-input ([] ∷ cs) some (every_one s t) = absurd (omega (arith, s.some))
some-input ((l ∷ c) ∷ cs) some (every_one s t) =
    let p = occurs ((l ∷ c) ∷ cs) in
    let lt = every_first s.below in
    rw (length-map (having p 0 variables) Input, having-length p 0 variables) (omega (arith, count_less p l.variable variables (first-occurs l c cs) lt))

-- ---- clauses: one frame less than literals each, and their conjunction: one less than clauses

module _ (f : Literal → ℕ) where
  pub clause_kinds-length : (cs : List Clause) → Every (λ (c : Clause). 1 ≤ length c) cs → (n : ℕ) → length (clause_kinds f cs n) + length cs ≡ literals cs
  unfolding clause_kinds literals
  clause_kinds-length [] e n = refl
  clause_kinds-length ([] ∷ cs) (every_one h t) n = absurd (omega (arith, h))
  clause_kinds-length ((l ∷ ls) ∷ cs) (every_one h t) n =
      rw (length-append (chain Or (f l) (map f ls) n) (clause_kinds f cs (n + length ls)), chain_length Or (f l) (map f ls) n, length-map ls f)
      (omega (arith, clause_kinds-length cs t (n + length ls)))

  pub clause_ends-length : (cs : List Clause) → Every (λ (c : Clause). 1 ≤ length c) cs → (n : ℕ) → length (clause_ends f cs n) ≡ length cs
  unfolding clause_ends
  clause_ends-length [] e n = refl
  clause_ends-length ([] ∷ cs) (every_one h t) n = absurd (omega (arith, h))
  clause_ends-length ((l ∷ ls) ∷ cs) (every_one h t) n = ap suc (clause_ends-length cs t (n + length ls))

pub conjunction_kinds-length : (ends : List ℕ) (n : ℕ) → length (conjunction_kinds ends n) ≡ length ends - 1
unfolding conjunction_kinds
conjunction_kinds-length [] n = refl
conjunction_kinds-length (a ∷ others) n = chain_length And a others n ∙ omega arith

-- ---- the matrix

pub matrix-count : (cs : List Clause) → 1 ≤ length cs → Every (SomeBelow (λ (l : Literal). l.variable) 32) cs → literals cs ≤ length (matrix_kinds cs)
unfolding matrix_kinds literal_kinds disjunction_kinds
matrix-count cs some e =
    let f = literal_frame cs in
    let n = inputs cs + negations cs in
    let ends = clause_ends f cs n in
    let clauses = (input_kinds cs ++ negation_kinds cs) ++ clause_kinds f cs n in
    rw (
      length-append clauses (conjunction_kinds ends (length clauses)),
      conjunction_kinds-length ends (length clauses),
      clause_ends-length f cs (every_some e) n,
      length-append (input_kinds cs ++ negation_kinds cs) (clause_kinds f cs n),
      length-append (input_kinds cs) (negation_kinds cs),
    )
    (omega (arith, some, some-input cs some e, clause_kinds-length f cs (every_some e) n, clauses-literals cs (every_some e)))

-- ---- blocks: at least one run each

runs_open : (p : ℕ → Bool) (x c n : ℕ) → 0 < c → 1 ≤ length (runs_from p x c n)
unfolding runs_from
runs_open p x c zero h = rw (ne_eqb c 0 (omega (arith, h))) (omega arith)
runs_open p x c (suc n) h =
    by_bool (p x)
    (λ e. rw e (runs_open p (suc x) (suc c) n (omega arith)))
    (λ e. rw (e, ne_eqb c 0 (omega (arith, h))) (omega arith))

runs-some : (p : ℕ → Bool) (x c n k : ℕ) → x ≤ k → k < x + n → p k ≡ true → 1 ≤ length (runs_from p x c n)
unfolding runs_from
runs-some p x c zero k le lt t = absurd (omega (arith, le, lt))
runs-some p x c (suc n) k le lt t =
    by_bool (p x)
    (λ e. rw e (runs_open p (suc x) (suc c) n (omega arith)))
    (λ e. by_bool (eqb x k)
    (λ same. clash (p k) t (rw (← eqb-true x k same) e))
    (λ other. rw (e, length-append (ended x c) (runs_from p (suc x) 0 n))
    (omega (arith, runs-some p (suc x) 0 n k (omega (tests, le, other)) (omega (arith, lt)) t))))

first_member : (x : ℕ) (xs : List ℕ) → member (x ∷ xs) x ≡ true
unfolding member
first_member x xs = rw (eq-eqb x x refl)

some-run : (xs : List ℕ) → SomeBelow (λ (x : ℕ). x) 32 xs → 1 ≤ length (runs (member xs))
unfolding runs
some-run [] s = absurd (omega (arith, s.some))
some-run (x ∷ xs) s =
    let lt = every_first s.below in
    runs-some (member (x ∷ xs)) 0 0 variables x (omega arith) (omega (arith, lt)) (first_member x xs)

pub block_count : (bs : List Block) → Every (λ (b : Block). SomeBelow (λ (x : ℕ). x) 32 b.atoms) bs → (n : ℕ) → length bs ≤ length (block_kinds bs n)
unfolding block_kinds
block_count bs every-none n = omega arith
block_count bs (every_one {a = b} {l = ds} s t) n =
    let m = n + length (block_kinds ds n) in
    let rs = runs (member b.atoms) in
    rw (length-append (block_kinds ds n) (run_kinds b.exists rs m), run-kinds-length b.exists rs m)
    (omega (arith, some-run b.atoms s, block_count ds t n))

-- ---- the question

pub kinds-length : (q : Question) → length (kinds q) ≡ length (matrix_kinds q.clauses) + length (block_kinds q.blocks (length (matrix_kinds q.clauses)))
unfolding kinds
kinds-length q = length-append (matrix_kinds q.clauses) (block_kinds q.blocks (length (matrix_kinds q.clauses)))

module _ {q : Question} (P : Proper q) (le : q.variables ≤ 32) where
  pub many_literals : 200 < literals q.clauses → 200 < length (kinds q)
  many_literals more = omega (arith, more, kinds-length q, matrix-count q.clauses P.some-clause (every-wider le P.clauses-below))

  pub many_blocks : 200 < length q.blocks → 200 < length (kinds q)
  many_blocks more =
      let n = length (matrix_kinds q.clauses) in
      omega (arith, more, kinds-length q, block_count q.blocks (every_map (λ (b : Block). below_wider le) P.blocks-below) n)
