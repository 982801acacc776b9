-- The machine of Shape.antt accepts exactly the pages of questions of the right shape. Assumes nothing.
use Rattle.std.specs.Prelude.{ℕ, suc, ◌-◌, ◌≤◌, ◌<◌, Bool, not, ◌&&◌, ◌≡◌, leb, ltb, length}
use native.Mathlib.Omega.{arith}
use Rattle.std.proofs.Math.Bool.{true, false, cond}
use mathlib.Core.List.{List, [], ◌∷◌}
use Rattle.std.proofs.Math.Path.{refl, ap}
use Rattle.std.proofs.Common.{Option, None, Some, sym, ap₂, ◌∙◌}
use Rattle.std.proofs.Math.Dec.{eqb}
use borrow.Author.Tests.{lt-ltb, le-leb, ltb-true, leb-true, eqb-true, ne_eqb}
use Rattle.words.specs.Logic.{tests}
use Rattle.words.proofs.Logic.{by_bool, clash, and_both, and_intro}
use Rattle.prenex.specs.Question.{Literal, Block, Clause, Question, Every, every-none, every_one, SomeBelow, Alternating, no_block, innermost, outer, Proper}
use Rattle.prenex.proofs.CodeLaws.{alternating-inside}
use Rattle.dimacs.specs.Page.{atom_fields, literal_field, clause_fields, clauses_fields, block_field, blocks_fields, page}
use Rattle.dimacs.specs.Shape.{number_of, variable_of, is_zero, is_line, is_problem, is_cnf, begun, in_range, broken, block_start, clause_start, row_of, row_start, step_in, step, run, start, finished, whole}
use Rattle.dimacs.specs.declared.token.Token.{Token}
use Rattle.dimacs.specs.declared.token.Token.TheVariants.{Line, Problem, Format, Exists, Forall, Number, Negative, Other}
use Rattle.dimacs.specs.declared.shape.Phase.{Phase}
use Rattle.dimacs.specs.declared.shape.Phase.TheVariants.{AtProblem, AtFormat, AtVariables, AtCount, AtHeaderEnd, AtRow, AtFirstAtom, AtAtom, AtBlockEnd, AtClause, AtLiteral, AtClauseEnd, Broken}
use Rattle.dimacs.specs.declared.shape.State.{State}
use Rattle.dimacs.specs.ShapeLaws.{Shaped}

pub proper_shaped : {q : Question} → Proper q → Shaped q
proper_shaped p = record { some-clause = p.some-clause; clauses-below = p.clauses-below; blocks-below = p.blocks-below; alternating = p.alternating }

abbrev LiteralsBelow : ℕ → Clause → Type 0
LiteralsBelow v c = Every (λ (l : Literal). l.variable < v) c

abbrev AtomsBelow : ℕ → List ℕ → Type 0
AtomsBelow v xs = Every (λ (x : ℕ). x < v) xs

abbrev ClausesBelow : ℕ → List Clause → Type 0
ClausesBelow v cs = Every (SomeBelow (λ (l : Literal). l.variable) v) cs

abbrev BlocksBelow : ℕ → List Block → Type 0
BlocksBelow v bs = Every (λ (b : Block). SomeBelow (λ (x : ℕ). x) v b.atoms) bs

-- a state, its fields in a row
abbrev at : Phase → ℕ → ℕ → ℕ → State
at p v n d = record { phase = p; variables = v; left = n; last = d }

-- a block's kind as the machine has it
abbrev kind : Bool → ℕ
kind exists = cond exists 1 2

abbrev kind_of : Block → ℕ
kind_of b = kind b.exists

-- what may follow a block of the kind d (0: before the first): a block of another kind, or the clauses if it was no forall
data Follows (d : ℕ) : List Block → Type 0 where
  none-follows : eqb d 2 ≡ false → Follows d []
  one_follows : {c : Block} {bs : List Block} → eqb d (kind_of c) ≡ false → Follows d (c ∷ bs)

some-kind : (d : Bool) → eqb 0 (kind d) ≡ false
some-kind true = refl
some-kind false = refl

-- blocks alternate if each may follow the one before
alternating-follows : {b : Block} {bs : List Block} → Alternating (b ∷ bs) → Follows (kind_of b) bs
alternating-follows (innermost e) = none-follows (rw e refl)
alternating-follows (outer {b} {c} {bs} e a) = one_follows (other c.exists b.exists e)
  where
    other : (y x : Bool) → x ≡ not y → eqb (kind x) (kind y) ≡ false
    other true x e = rw e refl
    other false x e = rw e refl

-- before the first block
follows-none : {bs : List Block} → Alternating bs → Follows 0 bs
follows-none no_block = none-follows refl
follows-none (innermost {b} e) = one_follows (some-kind b.exists)
follows-none (outer {b} e a) = one_follows (some-kind b.exists)

follows-alternating : {b : Block} {bs : List Block} → Follows (kind_of b) bs → Alternating bs → Alternating (b ∷ bs)
follows-alternating {b} (none-follows e) a = innermost (last b.exists e)
  where
    last : (x : Bool) → eqb (kind x) 2 ≡ false → x ≡ true
    last true e = refl
    last false e = sym e
follows-alternating {b} (one_follows {c} e) a = outer (other b.exists c.exists e) a
  where
    other : (x y : Bool) → eqb (kind x) (kind y) ≡ false → x ≡ not y
    other true true e = e
    other true false e = refl
    other false true e = refl
    other false false e = sym e

-- ---- what a test shows of a field

line_is : (t : Token) → is_line t ≡ true → t ≡ Line
unfolding is_line
line_is Line e = refl
line_is Problem e = cc
line_is Format e = cc
line_is Exists e = cc
line_is Forall e = cc
line_is (Number n) e = cc
line_is (Negative n) e = cc
line_is Other e = cc

problem_is : (t : Token) → is_problem t ≡ true → t ≡ Problem
unfolding is_problem
problem_is Line e = cc
problem_is Problem e = refl
problem_is Format e = cc
problem_is Exists e = cc
problem_is Forall e = cc
problem_is (Number n) e = cc
problem_is (Negative n) e = cc
problem_is Other e = cc

cnf_is : (t : Token) → is_cnf t ≡ true → t ≡ Format
unfolding is_cnf
cnf_is Line e = cc
cnf_is Problem e = cc
cnf_is Format e = refl
cnf_is Exists e = cc
cnf_is Forall e = cc
cnf_is (Number n) e = cc
cnf_is (Negative n) e = cc
cnf_is Other e = cc

begun-kind : (t : Token) (k : ℕ) → begun t ≡ Some k → (b : Bool) × (t ≡ block_field b) × (k ≡ kind b)
unfolding begun block_field
begun-kind Line k e = cc
begun-kind Problem k e = cc
begun-kind Format k e = cc
begun-kind Exists k e = (true, refl, cc)
begun-kind Forall k e = (false, refl, cc)
begun-kind (Number n) k e = cc
begun-kind (Negative n) k e = cc
begun-kind Other k e = cc

zero_is : (t : Token) → is_zero t ≡ true → t ≡ Number 0
unfolding is_zero
zero_is Line e = clash false e refl
zero_is Problem e = clash false e refl
zero_is Format e = clash false e refl
zero_is Exists e = clash false e refl
zero_is Forall e = clash false e refl
zero_is (Number n) e = ap {B = Token} (λ (k : ℕ). Number k) (eqb-true n 0 e)
zero_is (Negative n) e = clash false e refl
zero_is Other e = clash false e refl

number_is : (t : Token) → 0 < number_of t → t ≡ Number (number_of t)
unfolding number_of
number_is Line h = absurd (omega arith)
number_is Problem h = absurd (omega arith)
number_is Format h = absurd (omega arith)
number_is Exists h = absurd (omega arith)
number_is Forall h = absurd (omega arith)
number_is (Number n) h = refl
number_is (Negative n) h = absurd (omega arith)
number_is Other h = absurd (omega arith)

-- a field that names a variable is a literal
literal-of : (t : Token) → 0 < variable_of t → (b : Bool) × (t ≡ literal_field (record { negative = b; variable = variable_of t - 1 }))
unfolding variable_of literal_field
literal-of Line h = absurd (omega arith)
literal-of Problem h = absurd (omega arith)
literal-of Format h = absurd (omega arith)
literal-of Exists h = absurd (omega arith)
literal-of Forall h = absurd (omega arith)
literal-of (Number n) h = (false, ap {B = Token} (λ (k : ℕ). Number k) (omega arith))
literal-of (Negative n) h = (true, ap {B = Token} (λ (k : ℕ). Negative k) (omega arith))
literal-of Other h = absurd (omega arith)

in-range : (v n : ℕ) → in_range v n ≡ true → (0 < n) × (n - 1 < v)
in-range v n e =
    let k = and_both (ltb 0 n) (leb n v) e in
    let a = ltb-true 0 n k.0 in
    (a, omega (arith, a, leb-true n v k.1))

-- ---- a page of the right shape is accepted

range_in : (v n : ℕ) → n < v → in_range v (suc n) ≡ true
range_in v n h = and_intro (ltb 0 (suc n)) (leb (suc n) v) (lt-ltb 0 (suc n) (omega arith)) (le-leb (suc n) v h)

pub literal-variable : (l : Literal) → variable_of (literal_field l) ≡ suc l.variable
unfolding variable_of literal_field
literal-variable l = by_bool l.negative (λ e. rw e refl) (λ e. rw e refl)

some_number : (n : ℕ) → 1 ≤ n → eqb n 0 ≡ false
some_number n h = ne_eqb n 0 (λ e. absurd (omega (arith, e)))

literal-some : (l : Literal) → is_zero (literal_field l) ≡ false
unfolding is_zero literal_field
literal-some l = by_bool l.negative (λ e. rw e refl) (λ e. rw e (some_number (suc l.variable) (omega arith)))

literal-begins : (l : Literal) → begun (literal_field l) ≡ None
unfolding begun literal_field
literal-begins l = by_bool l.negative (λ e. rw e refl) (λ e. rw e refl)

module _ (v n d : ℕ) where
  first-literal : (l : Literal) → l.variable < v → 1 ≤ n → step (at AtClause v n d) (literal_field l) ≡ at AtLiteral v n d
  unfolding step step_in
  first-literal l k h = rw (lt-ltb 0 n h, literal-variable l, range_in v l.variable k) refl

  row_literal : (l : Literal) → l.variable < v → 1 ≤ n → eqb d 2 ≡ false → step (at AtRow v n d) (literal_field l) ≡ at AtLiteral v n d
  unfolding step step_in
  row_literal l k h e = rw (literal-begins l, e, lt-ltb 0 n h, literal-variable l, range_in v l.variable k) refl

  next-literal : (l : Literal) → l.variable < v → step (at AtLiteral v n d) (literal_field l) ≡ at AtLiteral v n d
  unfolding step step_in
  next-literal l k = rw (literal-some l, literal-variable l, range_in v l.variable k) refl

  clause-ends : 1 ≤ n → step (at AtClauseEnd v n d) Line ≡ at AtClause v (n - 1) d
  unfolding step step_in is_line
  clause-ends h = rw (lt-ltb 0 n h) refl

  first_atom : (x : ℕ) → x < v → step (at AtFirstAtom v n d) (Number (suc x)) ≡ at AtAtom v n d
  unfolding step step_in number_of
  first_atom x k = rw (range_in v x k) refl

  next_atom : (x : ℕ) → x < v → step (at AtAtom v n d) (Number (suc x)) ≡ at AtAtom v n d
  unfolding step step_in number_of is_zero
  next_atom x k = rw (some_number (suc x) (omega arith), range_in v x k) refl

  kind_starts : (b : Bool) → eqb d (kind b) ≡ false → step (at AtRow v n d) (block_field b) ≡ at AtFirstAtom v n (kind b)
  unfolding step step_in block_field begun
  kind_starts true e = rw e refl
  kind_starts false e = rw e refl

  variables-told : (k : ℕ) → 1 ≤ k → step (at AtVariables v n d) (Number k) ≡ at AtCount k n d
  unfolding step step_in number_of
  variables-told k h = rw (some_number k h) refl

  count-told : (k : ℕ) → 1 ≤ k → step (at AtCount v n d) (Number k) ≡ at AtHeaderEnd v k d
  unfolding step step_in number_of
  count-told k h = rw (some_number k h) refl

module _ (v n d : ℕ) where
  literals-run : (c : Clause) (rest : List Token) → LiteralsBelow v c → 1 ≤ n
      → run (at AtLiteral v n d) (clause_fields c rest) ≡ run (at AtClause v (n - 1) d) rest
  unfolding run step step_in clause_fields is_zero
  literals-run [] rest every-none h = ap (λ (s : State). run s rest) (clause-ends v n d h)
  literals-run (l ∷ c) rest (every_one k ks) h =
      ap (λ (s : State). run s (clause_fields c rest)) (next-literal v n d l k) ∙ literals-run c rest ks h

  -- a clause, from a state that takes its first literal
  clause_run : (s : State) → ((l : Literal) → l.variable < v → step s (literal_field l) ≡ at AtLiteral v n d)
      → (c : Clause) (rest : List Token) → 1 ≤ length c → LiteralsBelow v c → 1 ≤ n
      → run s (clause_fields c rest) ≡ run (at AtClause v (n - 1) d) rest
  unfolding run clause_fields
  clause_run s f [] rest i every-none h = absurd (omega arith)
  clause_run s f (l ∷ c) rest i (every_one k ks) h =
      ap (λ (r : State). run r (clause_fields c rest)) (f l k) ∙ literals-run c rest ks h

  atoms-run : (xs : List ℕ) (rest : List Token) → AtomsBelow v xs
      → run (at AtAtom v n d) (atom_fields xs rest) ≡ run (at AtRow v n d) rest
  unfolding run step step_in atom_fields is_zero is_line
  atoms-run [] rest every-none = refl
  atoms-run (x ∷ xs) rest (every_one k ks) = ap (λ (s : State). run s (atom_fields xs rest)) (next_atom v n d x k) ∙ atoms-run xs rest ks

  block_run : (xs : List ℕ) (rest : List Token) → 1 ≤ length xs → AtomsBelow v xs
      → run (at AtFirstAtom v n d) (atom_fields xs rest) ≡ run (at AtRow v n d) rest
  unfolding run atom_fields
  block_run [] rest i every-none = absurd (omega arith)
  block_run (x ∷ xs) rest i (every_one k ks) = ap (λ (s : State). run s (atom_fields xs rest)) (first_atom v n d x k) ∙ atoms-run xs rest ks

module _ (v : ℕ) where
  clauses-run : (n d : ℕ) (cs : List Clause) → length cs ≡ n → ClausesBelow v cs → run (at AtClause v n d) (clauses_fields cs) ≡ at AtClause v 0 d
  unfolding run clauses_fields
  clauses-run n d [] e every-none = ap (λ (k : ℕ). at AtClause v k d) (sym e)
  clauses-run n d (c ∷ cs) e (every_one k ks) =
      clause_run v n d (at AtClause v n d) (λ l i. first-literal v n d l i (omega (arith, e))) c (clauses_fields cs) k.some k.below (omega (arith, e))
      ∙ clauses-run (n - 1) d cs (omega (arith, e)) ks

  -- the first clause, where a block could be
  matrix-run : (n d : ℕ) (cs : List Clause) → eqb d 2 ≡ false → 1 ≤ n → length cs ≡ n → ClausesBelow v cs
      → run (at AtRow v n d) (clauses_fields cs) ≡ at AtClause v 0 d
  unfolding clauses_fields
  matrix-run n d [] f h e every-none = absurd (omega (arith, h, e))
  matrix-run n d (c ∷ cs) f h e (every_one k ks) =
      clause_run v n d (at AtRow v n d) (λ l i. row_literal v n d l i h f) c (clauses_fields cs) k.some k.below h
      ∙ clauses-run (n - 1) d cs (omega (arith, e)) ks

  blocks-run : (n d : ℕ) (bs : List Block) (cs : List Clause) → Follows d bs → Alternating bs → BlocksBelow v bs → 1 ≤ n → length cs ≡ n → ClausesBelow v cs
      → (k : ℕ) × (run (at AtRow v n d) (blocks_fields bs (clauses_fields cs)) ≡ at AtClause v 0 k)
  unfolding run blocks_fields
  blocks-run n d [] cs (none-follows f) a every-none h e k = (d, matrix-run n d cs f h e k)
  blocks-run n d (b ∷ bs) cs (one_follows f) a (every_one i is) h e k =
      let rest = blocks_fields bs (clauses_fields cs) in
      let r = blocks-run n (kind_of b) bs cs (alternating-follows a) (alternating-inside a) is h e k in (
        r.0,
        ap (λ (s : State). run s (atom_fields b.atoms rest)) (kind_starts v n d b.exists f)
            ∙ block_run v n (kind_of b) b.atoms rest i.some i.below
            ∙ r.1,
      )

-- some clause has a literal, below the number of variables
some-variable : {v : ℕ} (cs : List Clause) → 1 ≤ length cs → ClausesBelow v cs → 1 ≤ v
some-variable [] h every-none = absurd (omega arith)
some-variable {v} (c ∷ cs) h (every_one k ks) = literal c k.some k.below
  where
    literal : (c : Clause) → 1 ≤ length c → LiteralsBelow v c → 1 ≤ v
    literal [] i every-none = absurd (omega arith)
    literal (l ∷ c) i (every_one b bs) = omega (arith, b)

page-run : (q : Question) → Shaped q → (k : ℕ) × (run start (page q) ≡ at AtClause q.variables 0 k)
unfolding run step step_in is_line is_problem is_cnf page
page-run q s =
    let v = q.variables in
    let n = length q.clauses in
    let rest = blocks_fields q.blocks (clauses_fields q.clauses) in
    let r = blocks-run v n 0 q.blocks q.clauses (follows-none s.alternating) s.alternating s.blocks-below s.some-clause refl s.clauses-below in (
      r.0,
      ap (λ (a : State). run a (Number n ∷ Line ∷ rest)) (variables-told 0 0 0 v (some-variable q.clauses s.some-clause s.clauses-below))
          ∙ ap (λ (a : State). run a (Line ∷ rest)) (count-told v 0 0 n s.some-clause)
          ∙ r.1,
    )

pub page-whole : (q : Question) → Shaped q → (whole (run start (page q)) ≡ true) × ((run start (page q)).variables ≡ q.variables)
unfolding whole finished
page-whole q s = let r = page-run q s in (ap whole r.1, ap (λ (a : State). a.variables) r.1)

-- ---- what is accepted is such a page

-- Once broken, the machine stays so.
broken-stays : (s : State) (ts : List Token) → whole (run (broken s) ts) ≡ false
unfolding run step step_in whole finished
broken-stays s [] = refl
broken-stays s (t ∷ ts) = broken-stays s ts

-- so what is accepted passed each test
passes : (b : Bool) (r s : State) (ts : List Token) → whole (run (cond b r (broken s)) ts) ≡ true → (b ≡ true) × (whole (run r ts) ≡ true)
passes true r s ts h = (refl, h)
passes false r s ts h = clash (whole (run (broken s) ts)) h (broken-stays s ts)

refuses : (b : Bool) (r s : State) (ts : List Token) → whole (run (cond b (broken s) r) ts) ≡ true → (b ≡ false) × (whole (run r ts) ≡ true)
refuses true r s ts h = clash (whole (run (broken s) ts)) h (broken-stays s ts)
refuses false r s ts h = (refl, h)

either : {A : Type 0} (b : Bool) (r s : State) (ts : List Token) → whole (run (cond b r s) ts) ≡ true
    → (b ≡ true → whole (run r ts) ≡ true → A) → (b ≡ false → whole (run s ts) ≡ true → A) → A
either true r s ts h f g = f refl h
either false r s ts h f g = g refl h

-- What the fields from a phase on are, for the variables v, n clauses left, and the last block's kind d. Each part is of the fields and those behind it.

-- a field t, and P of those behind it
record Behind (t : Token) (P : List Token → Type 0) (ts : List Token) : Type 0 where
  rest : List Token
  fields : ts ≡ t ∷ rest
  behind : P rest

record Clauses (v n : ℕ) (ts : List Token) : Type 0 where
  clauses : List Clause
  number : length clauses ≡ n
  below : ClausesBelow v clauses
  fields : ts ≡ clauses_fields clauses

-- the literals left of a clause, which is one of n
record Literals (v n : ℕ) (ts : List Token) : Type 0 where
  literals : Clause
  rest : List Token
  some : 1 ≤ n
  below : LiteralsBelow v literals
  fields : ts ≡ clause_fields literals rest
  behind : Clauses v (n - 1) rest

record Rows (v n d : ℕ) (ts : List Token) : Type 0 where
  blocks : List Block
  rest : List Token
  some : 1 ≤ n
  follows : Follows d blocks
  alternating : Alternating blocks
  below : BlocksBelow v blocks
  fields : ts ≡ blocks_fields blocks rest
  behind : Clauses v n rest

-- the atoms left of a block
record Atoms (v n d : ℕ) (ts : List Token) : Type 0 where
  atoms : List ℕ
  rest : List Token
  below : AtomsBelow v atoms
  fields : ts ≡ atom_fields atoms rest
  behind : Rows v n d rest

-- one at least
abbrev SomeLiterals : ℕ → ℕ → List Token → Type 0
SomeLiterals v n ts = (s : Literals v n ts) × (1 ≤ length s.literals)

abbrev SomeAtoms : ℕ → ℕ → ℕ → List Token → Type 0
SomeAtoms v n d ts = (s : Atoms v n d ts) × (1 ≤ length s.atoms)

abbrev FromCount : ℕ → ℕ → List Token → Type 0
FromCount v d ts = (n : ℕ) × Behind (Number n) (Behind Line (Rows v n d)) ts

abbrev FromVariables : ℕ → List Token → Type 0
FromVariables d ts = (v : ℕ) × Behind (Number v) (FromCount v d) ts

unfoldable From : Phase → ℕ → ℕ → ℕ → List Token → Type 0
From AtProblem v n d ts = Behind Problem (Behind Format (FromVariables d)) ts
From AtFormat v n d ts = Behind Format (FromVariables d) ts
From AtVariables v n d ts = FromVariables d ts
From AtCount v n d ts = FromCount v d ts
From AtHeaderEnd v n d ts = Behind Line (Rows v n d) ts
From AtRow v n d ts = Rows v n d ts
From AtFirstAtom v n d ts = SomeAtoms v n d ts
From AtAtom v n d ts = Atoms v n d ts
From AtBlockEnd v n d ts = Behind Line (Rows v n d) ts
From AtClause v n d ts = Clauses v n ts
From AtLiteral v n d ts = Literals v n ts
From AtClauseEnd v n d ts = (1 ≤ n) × Behind Line (Clauses v (n - 1)) ts
From Broken v n d ts = ⊥

-- behind the last field
from-none : (p : Phase) (v n d : ℕ) → whole (at p v n d) ≡ true → From p v n d []
unfolding whole finished From clauses_fields
from-none AtProblem v n d h = clash false h refl
from-none AtFormat v n d h = clash false h refl
from-none AtVariables v n d h = clash false h refl
from-none AtCount v n d h = clash false h refl
from-none AtHeaderEnd v n d h = clash false h refl
from-none AtRow v n d h = clash false h refl
from-none AtFirstAtom v n d h = clash false h refl
from-none AtAtom v n d h = clash false h refl
from-none AtBlockEnd v n d h = clash false h refl
from-none AtClause v n d h = record { clauses = []; number = sym (eqb-true n 0 h); below = every-none; fields = refl }
from-none AtLiteral v n d h = clash false h refl
from-none AtClauseEnd v n d h = clash false h refl
from-none Broken v n d h = clash false h refl

cons_both : {t a : Token} {ts l : List Token} → t ≡ a → ts ≡ l → t ∷ ts ≡ a ∷ l
cons_both = ap₂ {C = List Token} (λ (a : Token) (l : List Token). a ∷ l)

-- a field, found by its test, in front of what the others are
module _ (t : Token) (ts : List Token) where
  field_found : {a : Token} (P : List Token → Type 0) → t ≡ a → P ts → Behind a P (t ∷ ts)
  field_found P e h = record { rest = ts; fields = cons_both e refl; behind = h }

  number-found : (P : List Token → Type 0) → eqb (number_of t) 0 ≡ false → P ts → Behind (Number (number_of t)) P (t ∷ ts)
  number-found P e h =
      record { rest = ts; fields = cons_both (number_is t (omega (tests, e))) refl; behind = h }

  literal-found : {v n : ℕ} → in_range v (variable_of t) ≡ true → Literals v n ts → SomeLiterals v n (t ∷ ts)
  unfolding clause_fields
  literal-found {v} e s =
      let k = in-range v (variable_of t) e in
      let b = literal-of t k.0 in (
        record {
          literals = record { negative = b.0; variable = variable_of t - 1 } ∷ s.literals;
          rest = s.rest;
          some = s.some;
          below = every_one k.1 s.below;
          fields = cons_both b.1 s.fields;
          behind = s.behind;
        },
        omega arith,
      )

  atom_found : {v n d : ℕ} → in_range v (number_of t) ≡ true → Atoms v n d ts → SomeAtoms v n d (t ∷ ts)
  unfolding atom_fields
  atom_found {v} e s =
      let k = in-range v (number_of t) e in
      let i : t ≡ Number (suc (number_of t - 1)) = number_is t k.0 ∙ ap {B = Token} (λ (a : ℕ). Number a) (omega (arith, k.0)) in (
        record {
          atoms = (number_of t - 1) ∷ s.atoms;
          rest = s.rest;
          below = every_one k.1 s.below;
          fields = cons_both i s.fields;
          behind = s.behind;
        },
        omega arith,
      )

  -- a 0 and the end of the line
  clause_end_found : {v n : ℕ} → is_zero t ≡ true → (1 ≤ n) × Behind Line (Clauses v (n - 1)) ts → Literals v n (t ∷ ts)
  unfolding clause_fields
  clause_end_found e s =
      record {
        literals = [];
        rest = s.1.rest;
        some = s.0;
        below = every-none;
        fields = cons_both (zero_is t e) s.1.fields;
        behind = s.1.behind;
      }

  block_end_found : {v n d : ℕ} → is_zero t ≡ true → Behind Line (Rows v n d) ts → Atoms v n d (t ∷ ts)
  unfolding atom_fields
  block_end_found e s =
      record {
        atoms = [];
        rest = s.rest;
        below = every-none;
        fields = cons_both (zero_is t e) s.fields;
        behind = s.behind;
      }

  block_found : {v n d : ℕ} (b : Bool) → t ≡ block_field b → eqb d (kind b) ≡ false → SomeAtoms v n (kind b) ts → Rows v n d (t ∷ ts)
  unfolding blocks_fields
  block_found b e f s =
      let r = s.0.behind in
      record {
        blocks = record { exists = b; atoms = s.0.atoms } ∷ r.blocks;
        rest = r.rest;
        some = r.some;
        follows = one_follows f;
        alternating = follows-alternating r.follows r.alternating;
        below = every_one (record { some = s.1; below = s.0.below }) r.below;
        fields = cons_both e (s.0.fields ∙ ap (atom_fields s.0.atoms) r.fields);
        behind = r.behind;
      }

clause_found : {v n : ℕ} {ts : List Token} → SomeLiterals v n ts → Clauses v n ts
unfolding clauses_fields
clause_found s =
    let r = s.0.behind in
    record {
      clauses = s.0.literals ∷ r.clauses;
      number = omega (arith, r.number, s.0.some);
      below = every_one (record { some = s.1; below = s.0.below }) r.below;
      fields = s.0.fields ∙ ap (clause_fields s.0.literals) r.fields;
    }

matrix-found : {v n d : ℕ} {ts : List Token} → eqb d 2 ≡ false → SomeLiterals v n ts → Rows v n d ts
unfolding blocks_fields
matrix-found {ts = ts} e s =
    record {
      blocks = [];
      rest = ts;
      some = s.0.some;
      follows = none-follows e;
      alternating = no_block;
      below = every-none;
      fields = refl;
      behind = clause_found s;
    }

-- what the fields from each phase on are
abbrev Found : List Token → Type 0
Found ts = (p : Phase) (v n d : ℕ) → whole (run (at p v n d) ts) ≡ true → From p v n d ts

-- one field more
module _ (t : Token) (ts : List Token) (others : Found ts) (v n d : ℕ) where
  -- a clause's first literal, where a clause or a row begins
  first_found : (p : Phase) → whole (run (clause_start (at p v n d) t) ts) ≡ true → SomeLiterals v n (t ∷ ts)
  unfolding From
  first_found p h =
      let k = passes (ltb 0 n && in_range v (variable_of t)) (at AtLiteral v n d) (at p v n d) ts h in
      literal-found t ts (and_both (ltb 0 n) (in_range v (variable_of t)) k.0).1 (others AtLiteral v n d k.1)

  block_start-found : (b : Bool) → t ≡ block_field b → whole (run (block_start (at AtRow v n d) (kind b)) ts) ≡ true → Rows v n d (t ∷ ts)
  unfolding From
  block_start-found b e h =
      let k = refuses (eqb d (kind b)) (at AtFirstAtom v n (kind b)) (at AtRow v n d) ts h in
      block_found t ts b e k.0 (others AtFirstAtom v n (kind b) k.1)

  row_found : whole (run (row_start (at AtRow v n d) t) ts) ≡ true → Rows v n d (t ∷ ts)
  row_found h = go (begun t) refl h
    where
      s : State
      s = at AtRow v n d

      go : (k : Option ℕ) → begun t ≡ k → whole (run (row_of s t k) ts) ≡ true → Rows v n d (t ∷ ts)
      go (Some k) e i =
          let b = begun-kind t k e in
          block_start-found b.0 b.1 (ap (λ (m : ℕ). whole (run (block_start s m) ts)) (sym b.2) ∙ i)
      go None e i =
          let k = refuses (eqb d 2) (clause_start s t) s ts i in matrix-found k.0 (first_found AtRow k.1)

  from_some : (p : Phase) → whole (run (step (at p v n d) t) ts) ≡ true → From p v n d (t ∷ ts)
  unfolding step step_in From
  from_some AtProblem h =
      let k = passes (is_problem t) (at AtFormat v n d) (at AtProblem v n d) ts h in
      field_found t ts (Behind Format (FromVariables d)) (problem_is t k.0) (others AtFormat v n d k.1)
  from_some AtFormat h =
      let k = passes (is_cnf t) (at AtVariables v n d) (at AtFormat v n d) ts h in
      field_found t ts (FromVariables d) (cnf_is t k.0) (others AtVariables v n d k.1)
  from_some AtVariables h =
      let k = refuses (eqb (number_of t) 0) (at AtCount (number_of t) n d) (at AtVariables v n d) ts h in
      (number_of t, number-found t ts (FromCount (number_of t) d) k.0 (others AtCount (number_of t) n d k.1))
  from_some AtCount h =
      let k = refuses (eqb (number_of t) 0) (at AtHeaderEnd v (number_of t) d) (at AtCount v n d) ts h in
      (number_of t, number-found t ts (Behind Line (Rows v (number_of t) d)) k.0 (others AtHeaderEnd v (number_of t) d k.1))
  from_some AtHeaderEnd h =
      let k = passes (is_line t) (at AtRow v n d) (at AtHeaderEnd v n d) ts h in
      field_found t ts (Rows v n d) (line_is t k.0) (others AtRow v n d k.1)
  from_some AtRow h = row_found h
  from_some AtFirstAtom h =
      let k = passes (in_range v (number_of t)) (at AtAtom v n d) (at AtFirstAtom v n d) ts h in
      atom_found t ts k.0 (others AtAtom v n d k.1)
  from_some AtAtom h =
      let s = at AtAtom v n d in
      either (is_zero t) (at AtBlockEnd v n d) (cond (in_range v (number_of t)) s (broken s)) ts h
      (λ e i. block_end_found t ts e (others AtBlockEnd v n d i))
      (λ _ i. let k = passes (in_range v (number_of t)) s s ts i in (atom_found t ts k.0 (others AtAtom v n d k.1)).0)
  from_some AtBlockEnd h =
      let k = passes (is_line t) (at AtRow v n d) (at AtBlockEnd v n d) ts h in
      field_found t ts (Rows v n d) (line_is t k.0) (others AtRow v n d k.1)
  from_some AtClause h = clause_found (first_found AtClause h)
  from_some AtLiteral h =
      let s = at AtLiteral v n d in
      either (is_zero t) (at AtClauseEnd v n d) (cond (in_range v (variable_of t)) s (broken s)) ts h
      (λ e i. clause_end_found t ts e (others AtClauseEnd v n d i))
      (λ _ i. let k = passes (in_range v (variable_of t)) s s ts i in (literal-found t ts k.0 (others AtLiteral v n d k.1)).0)
  from_some AtClauseEnd h =
      let k = passes (ltb 0 n && is_line t) (at AtClause v (n - 1) d) (at AtClauseEnd v n d) ts h in
      let i = and_both (ltb 0 n) (is_line t) k.0 in
      (ltb-true 0 n i.0, field_found t ts (Clauses v (n - 1)) (line_is t i.1) (others AtClause v (n - 1) d k.1))
  from_some Broken h = clash (whole (run (at Broken v n d) ts)) h (broken-stays (at Broken v n d) ts)

from : (ts : List Token) → Found ts
unfolding run
from [] p v n d h = from-none p v n d h
from (t ∷ ts) p v n d h = from_some t ts (from ts) v n d p h

-- a problem line, and rows behind it
page_of : {v n d : ℕ} {ts rest : List Token} → ts ≡ Problem ∷ Format ∷ Number v ∷ Number n ∷ Line ∷ rest → Rows v n d rest
    → (q : Question) × Shaped q × (ts ≡ page q)
unfolding page
page_of {v} {n} {d} {ts} {rest} e r =
    let m = r.behind in (
      record { variables = v; blocks = r.blocks; clauses = m.clauses },
      record { some-clause = omega (arith, r.some, m.number); clauses-below = m.below; blocks-below = r.below; alternating = r.alternating },
      e ∙ ap₂ {C = List Token} (λ (a : ℕ) (l : List Token). Problem ∷ Format ∷ Number v ∷ Number a ∷ Line ∷ l)
          (sym m.number) (r.fields ∙ ap (blocks_fields r.blocks) m.fields),
    )

pub whole-page : (ts : List Token) → whole (run start ts) ≡ true → (q : Question) × Shaped q × (ts ≡ page q)
unfolding From
whole-page ts h =
    let a = from ts AtProblem 0 0 0 h in
    let b = a.behind in
    let c = b.behind.1 in
    let e = c.behind.1 in
    let f = e.behind in
    page_of
    (a.fields
    ∙ cons_both refl (b.fields
    ∙ cons_both refl (c.fields
    ∙ cons_both refl (e.fields
    ∙ cons_both refl f.fields))))
    f.behind
