-- The frames of a question's clauses: they name earlier frames only, and the last one has the truth and the variables of the clauses. Assumes nothing.
use Rattle.std.specs.Prelude.{ℕ, suc, ◌+◌, ◌-◌, ◌≤◌, ◌<◌, ◌≡◌, Bool, eqb}
use Rattle.std.proofs.Common.{zero-add, arith, sym, ap, ◌∙◌, length-append, eq-eqb}
use Rattle.std.proofs.Math.Path.{refl, ap₂}
use Rattle.std.proofs.Math.Bool.{true, false, ◌&&◌, ◌||◌, or-false}
use mathlib.Core.List.{List, [], ◌∷◌, ◌++◌, map}
use Rattle.std.proofs.Math.ListN.{length, length-map}
use Rattle.words.proofs.Logic.{by_bool, or_left, or_right, or_cases, and_both}
use Rattle.formula.specs.Assignment.{Assignment, join}
use Rattle.formula.specs.Formula.{input, neg, truth, free}
use Rattle.sheet.specs.Frames.{build, formula_of, OrderedBelow}
use Rattle.sheet.specs.declared.Kind.{Kind}
use Rattle.sheet.specs.declared.Kind.TheVariants.{Input, Not, And, Or}
use Rattle.prenex.specs.Question.{Literal, Clause, literal_truth, clause_truth, matrix_truth, some_literal, some_clause, occurs, negated}
use Rattle.prenex.specs.Question.{Every, every-none, every_one, SomeBelow}
use Rattle.prenex.specs.Kinds.{variables, having, count, chain, chain_end, input_kinds, input_frame, negation_kinds, inputs, negations, frame_by, literal_frame}
use Rattle.prenex.specs.Kinds.{clause_kinds, clause_ends, conjunction_kinds, literal_kinds, disjunction_kinds, matrix_kinds}
use Rattle.prenex.proofs.Every.{every_map}
use Rattle.prenex.specs.SheetLaws.{Has}
use Rattle.prenex.proofs.SheetLaws.{has_left, has_right}
use Rattle.prenex.proofs.CountLaws.{having-length, count_none, count_less, count-only}
use Rattle.prenex.specs.ChainLaws.{Plain, plain-input, plain-not, plain-and, plain-or}
use Rattle.prenex.proofs.ChainLaws.{plain-fit, plain-binds}
use Rattle.prenex.specs.ChainLaws.{Plains, plains_none}
use Rattle.prenex.proofs.ChainLaws.{plains_append, plains_at, plains_having, plains_chain, has_having}
use Rattle.prenex.specs.ChainLaws.{Below}
use Rattle.prenex.proofs.ChainLaws.{chain_length, chain-end-below, chain-end-last}
use Rattle.prenex.specs.ChainLaws.{joined, free_in}
use Rattle.prenex.proofs.ChainLaws.{or_gates, and_gates, frame_is, chain-truth, chain-free}
use Rattle.prenex.specs.MatrixLaws.{MatrixStands}

-- ---- literals and where they stand

-- what the clauses cs say of their literal l
record Of (cs : List Clause) (l : Literal) : Type 0 where
  below : l.variable < variables
  occurring : occurs cs l.variable ≡ true
  negating : l.negative ≡ true → negated cs l.variable ≡ true

-- each clause has a literal, and each literal has P
data Full (P : Literal → Type 0) : List Clause → Type 0 where
  full-none : Full P []
  full-more : {l : Literal} {ls : Clause} {cs : List Clause} → P l → Every P ls → Full P cs → Full P ((l ∷ ls) ∷ cs)

full-map : {P Q : Literal → Type 0} {cs : List Clause} → ((l : Literal) → P l → Q l) → Full P cs → Full Q cs
full-map f full-none = full-none
full-map f (full-more {l} w ws more) = full-more (f l w) (every_map f ws) (full-map f more)

full_clause : {P : Literal → Type 0} {c : Clause} {cs : List Clause} → 1 ≤ length c → Every P c → Full P cs → Full P (c ∷ cs)
full_clause h every-none more = absurd (omega arith)
full_clause h (every_one w ws) more = full-more w ws more

of_clause : (cs : List Clause) (c : Clause) → ((t : Literal → Bool) → some_literal t c ≡ true → some_clause t cs ≡ true)
    → Every (λ (l : Literal). l.variable < variables) c → Every (Of cs) c
unfolding some_literal occurs negated
of_clause cs c f every-none = every-none
of_clause cs c f (every_one {a = l} {l = ls} w ws) =
    let first : (t : Literal → Bool) → t l ≡ true → some_clause t cs ≡ true = λ t e. f t (or_left (t l) (some_literal t ls) e) in
    let same : eqb l.variable l.variable ≡ true = eq-eqb l.variable l.variable refl in
    every_one {a = l}
    (record {
      below = w;
      occurring = first (λ k. eqb l.variable k.variable) same;
      negating = λ e. first (λ k. k.negative && eqb l.variable k.variable) (rw e same);
    })
    (of_clause cs ls (λ t e. f t (or_right (t l) (some_literal t ls) e)) ws)

of_clauses : (cs ds : List Clause) → ((t : Literal → Bool) → some_clause t ds ≡ true → some_clause t cs ≡ true)
    → Every (SomeBelow (λ (l : Literal). l.variable) variables) ds → Full (Of cs) ds
unfolding some_clause
of_clauses cs ds f every-none = full-none
of_clauses cs ds f (every_one {a = c} {l = es} w ws) =
    full_clause
    w.some
    (of_clause cs c (λ t e. f t (or_left (some_literal t c) (some_clause t es) e)) w.below)
    (of_clauses cs es (λ t e. f t (or_right (some_literal t c) (some_clause t es) e)) ws)

-- the frames of a literal's input and negation are below those of the clauses
literal-below : (cs : List Clause) (l : Literal) → Of cs l → literal_frame cs l < inputs cs + negations cs
unfolding frame_by inputs negations
literal-below cs l w =
    by_bool l.negative
    (λ e. rw e (omega (arith, count_less (negated cs) l.variable variables (w.negating e) w.below)))
    (λ e. rw e (omega (arith, count_less (occurs cs) l.variable variables w.occurring w.below)))

-- ---- the frames of the matrix name earlier ones

below-map : {n : ℕ} (f : Literal → ℕ) {ls : Clause} → Every (λ (l : Literal). f l < n) ls → Below n (map f ls)
below-map f every-none = every-none
below-map f (every_one w ws) = every_one w (below-map f ws)

clause_length : (f : Literal → ℕ) (l : Literal) (ls : Clause) (n : ℕ) → length (chain Or (f l) (map f ls) n) ≡ length ls
clause_length f l ls n = chain_length Or (f l) (map f ls) n ∙ length-map ls f

pub clauses-length : (f : Literal → ℕ) (l : Literal) (ls : Clause) (cs : List Clause) (n : ℕ)
    → length (clause_kinds f ((l ∷ ls) ∷ cs) n) ≡ length ls + length (clause_kinds f cs (n + length ls))
unfolding clause_kinds
clauses-length f l ls cs n =
    length-append (chain Or (f l) (map f ls) n) (clause_kinds f cs (n + length ls))
    ∙ ap (λ (k : ℕ). k + length (clause_kinds f cs (n + length ls))) (clause_length f l ls n)

plains_clauses : (f : Literal → ℕ) (c n : ℕ) {cs : List Clause} → c ≤ n → Full (λ (l : Literal). f l < c) cs → Plains n (clause_kinds f cs n)
unfolding clause_kinds
plains_clauses f c n h full-none = plains_none
plains_clauses f c n h (full-more {l} {ls} w ws more) =
    plains_append
    (plains_chain Or (λ k a b u v. plain-or u v) (f l) (map f ls) c n (below-map f ws) h (omega arith))
    (omega (arith, clause_length f l ls n))
    (plains_clauses f c (n + length ls) (omega arith) more)

ends-below : (f : Literal → ℕ) (c n b : ℕ) {cs : List Clause} → c ≤ n → n + length (clause_kinds f cs n) ≤ b → Full (λ (l : Literal). f l < c) cs
    → Below b (clause_ends f cs n)
unfolding clause_ends
ends-below f c n b h i full-none = every-none
ends-below f c n b h i (full-more {l} {ls} {cs} w ws more) =
    let last : chain_end (f l) (map f ls) n < n + length (map f ls) = chain-end-below (f l) (map f ls) n (omega arith) in
    every_one {a = chain_end (f l) (map f ls) n}
    (omega (arith, last, clauses-length f l ls cs n, length-map ls f))
    (ends-below f c (n + length ls) b (omega arith) (omega (arith, clauses-length f l ls cs n)) more)

plains_conjunction : (bs : List ℕ) (n : ℕ) → Below n bs → Plains n (conjunction_kinds bs n)
unfolding conjunction_kinds
plains_conjunction bs n every-none = plains_none
plains_conjunction bs n (every_one {a} {l} w ws) = plains_chain And (λ k a b u v. plain-and u v) a l n n ws (omega arith) w

inputs-length : (cs : List Clause) → length (input_kinds cs) ≡ inputs cs
unfolding input_kinds inputs
inputs-length cs = length-map (having (occurs cs) 0 variables) Input ∙ having-length (occurs cs) 0 variables

negations-length : (cs : List Clause) → length (negation_kinds cs) ≡ negations cs
unfolding negation_kinds negations
negations-length cs = length-map (having (negated cs) 0 variables) (λ (x : ℕ). Not (input_frame cs x)) ∙ having-length (negated cs) 0 variables

-- the frames of the literals, and those before the conjunction
abbrev literals : List Clause → ℕ
literals cs = inputs cs + negations cs

abbrev clauses_end : List Clause → ℕ
clauses_end cs = length (literal_kinds cs ++ disjunction_kinds cs)

literals-length : (cs : List Clause) → length (literal_kinds cs) ≡ literals cs
unfolding literal_kinds
literals-length cs = length-append (input_kinds cs) (negation_kinds cs) ∙ ap₂ ◌+◌ (inputs-length cs) (negations-length cs)

end_is : (cs : List Clause) → clauses_end cs ≡ literals cs + length (clause_kinds (literal_frame cs) cs (literals cs))
unfolding disjunction_kinds
end_is cs = length-append (literal_kinds cs) (disjunction_kinds cs) ∙ ap (λ (k : ℕ). k + length (disjunction_kinds cs)) (literals-length cs)

-- the variables with a negation have an input
module _ (t s : Literal → Bool) (h : (l : Literal) → t l ≡ true → s l ≡ true) where
  some-literal-more : (c : Clause) → some_literal t c ≡ true → some_literal s c ≡ true
  unfolding some_literal
  some-literal-more [] e = e
  some-literal-more (l ∷ c) e =
      or_cases (t l) (some_literal t c) e
      (λ u. or_left (s l) (some_literal s c) (h l u))
      (λ u. or_right (s l) (some_literal s c) (some-literal-more c u))

  some_clause-more : (cs : List Clause) → some_clause t cs ≡ true → some_clause s cs ≡ true
  unfolding some_clause
  some_clause-more [] e = e
  some_clause-more (c ∷ cs) e =
      or_cases (some_literal t c) (some_clause t cs) e
      (λ u. or_left (some_literal s c) (some_clause s cs) (some-literal-more c u))
      (λ u. or_right (some_literal s c) (some_clause s cs) (some_clause-more cs u))

negated-occurs : (cs : List Clause) (x : ℕ) → negated cs x ≡ true → occurs cs x ≡ true
unfolding negated occurs
negated-occurs cs x e =
    some_clause-more
    (λ l. l.negative && eqb x l.variable)
    (λ l. eqb x l.variable)
    (λ l u. (and_both l.negative (eqb x l.variable) u).1)
    cs e

input-below : (cs : List Clause) (x : ℕ) → occurs cs x ≡ true → x < variables → input_frame cs x < inputs cs
unfolding input_frame inputs
input-below cs x e h = count_less (occurs cs) x variables e h

plains_literals : (cs : List Clause) → Plains 0 (literal_kinds cs)
unfolding literal_kinds input_kinds negation_kinds
plains_literals cs =
    plains_append
    (plains_having Input (occurs cs) 0 0 variables (λ x k u v w. plain-input u))
    (sym (inputs-length cs) ∙ sym (zero-add _))
    (plains_having (λ (x : ℕ). Not (input_frame cs x)) (negated cs) (inputs cs) 0 variables
    (λ x k u v w. plain-not (omega (arith, input-below cs x (negated-occurs cs x v) (omega arith)))))

plains_matrix : (cs : List Clause) → Full (Of cs) cs → Plains 0 (matrix_kinds cs)
unfolding matrix_kinds disjunction_kinds
plains_matrix cs w =
    let v = full-map (literal-below cs) w in
    plains_append
    (plains_append (plains_literals cs) (sym (literals-length cs) ∙ sym (zero-add _)) (plains_clauses (literal_frame cs) (literals cs) (literals cs) (omega arith) v))
    (sym (zero-add _))
    (plains_conjunction _ _ (ends-below (literal_frame cs) (literals cs) (literals cs) (clauses_end cs) (omega arith) (omega (arith, end_is cs)) v))

-- ---- what the frames mean

-- the frame of a literal has its truth, and its variable alone
record Stands (κ : ℕ → Kind) (f : Literal → ℕ) (l : Literal) : Type 0 where
  truth-is : (σ : Assignment) → truth (formula_of κ (f l)) σ ≡ literal_truth l σ
  free-is : (x : ℕ) → free (formula_of κ (f l)) x ≡ eqb x l.variable

clause-truth : (κ : ℕ → Kind) (f : Literal → ℕ) {ls : Clause} → Every (Stands κ f) ls → (σ : Assignment) → joined true (formula_of κ) (map f ls) σ ≡ clause_truth ls σ
unfolding joined join clause_truth
clause-truth κ f every-none σ = refl
clause-truth κ f (every_one {a = l} w ws) σ = ap₂ ◌||◌ (w.truth-is σ) (clause-truth κ f ws σ)

clause_free : (κ : ℕ → Kind) (f : Literal → ℕ) {ls : Clause} → Every (Stands κ f) ls → (x : ℕ)
    → free_in (formula_of κ) (map f ls) x ≡ some_literal (λ (l : Literal). eqb x l.variable) ls
unfolding free_in some_literal
clause_free κ f every-none x = refl
clause_free κ f (every_one {a = l} w ws) x = ap₂ ◌||◌ (w.free-is x) (clause_free κ f ws x)

-- the frames of the first clause, and those of the others
has_clause : {κ : ℕ → Kind} (f : Literal → ℕ) (l : Literal) (ls : Clause) (cs : List Clause) (n : ℕ) → Has κ n (clause_kinds f ((l ∷ ls) ∷ cs) n)
    → Has κ n (chain Or (f l) (map f ls) n)
unfolding clause_kinds
has_clause f l ls cs n h = has_left (chain Or (f l) (map f ls) n) (clause_kinds f cs (n + length ls)) h

has_clauses : {κ : ℕ → Kind} (f : Literal → ℕ) (l : Literal) (ls : Clause) (cs : List Clause) (n : ℕ) → Has κ n (clause_kinds f ((l ∷ ls) ∷ cs) n)
    → Has κ (n + length ls) (clause_kinds f cs (n + length ls))
unfolding clause_kinds
has_clauses {κ} f l ls cs n h =
    rw (ap (λ (k : ℕ). n + k) (clause_length f l ls n)) at (has_right (chain Or (f l) (map f ls) n) (clause_kinds f cs (n + length ls)) h)

module _ (κ : ℕ → Kind) (m : ℕ) (o : OrderedBelow m variables κ) where
  input-is : (cs : List Clause) (x : ℕ) → literals cs ≤ m → Has κ 0 (input_kinds cs) → occurs cs x ≡ true → x < variables
      → formula_of κ (input_frame cs x) ≡ input x
  unfolding input_kinds input_frame build
  input-is cs x u h e b =
      frame_is κ m o (input_frame cs x)
      (omega (arith, input-below cs x e b))
      (sym (ap κ (zero-add (input_frame cs x))) ∙ has_having Input (occurs cs) 0 0 variables x x h b (sym (zero-add x)) e)

  negation-is : (cs : List Clause) (x : ℕ) → literals cs ≤ m → Has κ (inputs cs) (negation_kinds cs) → negated cs x ≡ true → x < variables
      → formula_of κ (inputs cs + count (negated cs) 0 x) ≡ neg (formula_of κ (input_frame cs x))
  unfolding negation_kinds negations build
  negation-is cs x u h e b =
      frame_is κ m o (inputs cs + count (negated cs) 0 x)
      (omega (arith, count_less (negated cs) x variables e b))
      (has_having (λ (x : ℕ). Not (input_frame cs x)) (negated cs) (inputs cs) 0 variables x x h b (sym (zero-add x)) e)

  literal-stands : (cs : List Clause) → literals cs ≤ m → Has κ 0 (input_kinds cs) → Has κ (inputs cs) (negation_kinds cs) → (l : Literal) → Of cs l
      → Stands κ (literal_frame cs) l
  unfolding frame_by input_frame inputs truth free
  literal-stands cs u h i l w =
      let p = input-is cs l.variable u h w.occurring w.below in
      by_bool l.negative
      (λ e. let q = negation-is cs l.variable u i (w.negating e) w.below in
      record { truth-is = λ σ. rw (e, q, p); free-is = λ x. rw (e, q, p) })
      (λ e. record { truth-is = λ σ. rw (e, p); free-is = λ x. rw (e, p) })

  clauses-truth : (f : Literal → ℕ) {cs : List Clause} (n : ℕ) → Full (Stands κ f) cs → Has κ n (clause_kinds f cs n) → n + length (clause_kinds f cs n) ≤ m
      → (σ : Assignment) → joined false (formula_of κ) (clause_ends f cs n) σ ≡ matrix_truth cs σ
  unfolding clause_ends joined join matrix_truth clause_truth
  clauses-truth f n full-none h u σ = refl
  clauses-truth f n (full-more {l} {ls} {cs} w ws more) h u σ =
      let size = clauses-length f l ls cs n in
      ap₂ ◌&&◌
      (chain-truth κ m o true Or or_gates (f l) (map f ls) n (has_clause f l ls cs n h) (omega (arith, size, length-map ls f)) σ
      ∙ ap₂ ◌||◌ (w.truth-is σ) (clause-truth κ f ws σ))
      (clauses-truth f (n + length ls) more (has_clauses f l ls cs n h) (omega (arith, size)) σ)

  clauses-free : (f : Literal → ℕ) {cs : List Clause} (n : ℕ) → Full (Stands κ f) cs → Has κ n (clause_kinds f cs n) → n + length (clause_kinds f cs n) ≤ m
      → (x : ℕ) → free_in (formula_of κ) (clause_ends f cs n) x ≡ occurs cs x
  unfolding clause_ends free_in occurs some_clause some_literal
  clauses-free f n full-none h u x = refl
  clauses-free f n (full-more {l} {ls} {cs} w ws more) h u x =
      let size = clauses-length f l ls cs n in
      ap₂ ◌||◌
      (chain-free κ m o true Or or_gates (f l) (map f ls) n (has_clause f l ls cs n h) (omega (arith, size, length-map ls f)) x
      ∙ ap₂ ◌||◌ (w.free-is x) (clause_free κ f ws x))
      (clauses-free f (n + length ls) more (has_clauses f l ls cs n h) (omega (arith, size)) x)

-- ---- the root

-- the frame that the conjunction ends with
unfoldable conjunction_end : List ℕ → ℕ → ℕ
conjunction_end [] n = n
conjunction_end (a ∷ others) n = chain_end a others n

module _ (κ : ℕ → Kind) (m : ℕ) (o : OrderedBelow m variables κ) where
  conjunction_truth : (bs : List ℕ) (n : ℕ) → 1 ≤ length bs → Has κ n (conjunction_kinds bs n) → n + length (conjunction_kinds bs n) ≤ m
      → (σ : Assignment) → truth (formula_of κ (conjunction_end bs n)) σ ≡ joined false (formula_of κ) bs σ
  unfolding conjunction_kinds conjunction_end
  conjunction_truth [] n i h u σ = absurd (omega arith)
  conjunction_truth (a ∷ bs) n i h u σ = chain-truth κ m o false And and_gates a bs n h (omega (arith, chain_length And a bs n)) σ

  conjunction_free : (bs : List ℕ) (n : ℕ) → 1 ≤ length bs → Has κ n (conjunction_kinds bs n) → n + length (conjunction_kinds bs n) ≤ m
      → (x : ℕ) → free (formula_of κ (conjunction_end bs n)) x ≡ free_in (formula_of κ) bs x
  unfolding conjunction_kinds conjunction_end
  conjunction_free [] n i h u x = absurd (omega arith)
  conjunction_free (a ∷ bs) n i h u x = chain-free κ m o false And and_gates a bs n h (omega (arith, chain_length And a bs n)) x

-- it is the last frame: of the conjunction, of the only clause, or, which the premise asks for, of the only literal
end-last : {P : Literal → Type 0} (f : Literal → ℕ) (n e : ℕ) {cs : List Clause} → 1 ≤ length cs → e ≡ n + length (clause_kinds f cs n)
    → ((l : Literal) → P l → cs ≡ (l ∷ []) ∷ [] → suc (f l) ≡ n) → Full P cs
    → suc (conjunction_end (clause_ends f cs n) e) ≡ e + length (conjunction_kinds (clause_ends f cs n) e)
unfolding conjunction_end conjunction_kinds clause_ends clause_kinds chain chain_end
end-last f n e h i single full-none = absurd (omega arith)
end-last f n e h i single (full-more {l} w every-none full-none) = omega (arith, i, single l w refl)
end-last f n e h i single (full-more {l} w (every_one {a = k} {l = ks} v vs) full-none) =
    omega (arith, i, chain-end-last (f l) (f k) (map f ks) n, clauses-length f l (k ∷ ks) [] n, length-map ks f)
end-last f n e h i single (full-more {l} {ls} w ws (full-more {l = k} {ls = ks} {cs = cs} v vs more)) =
    let first = chain_end (f l) (map f ls) n in
    let second = chain_end (f k) (map f ks) (n + length ls) in
    let others = clause_ends f cs (n + length ls + length ks) in
    omega (arith, chain-end-last first second others e, chain_length And first (second ∷ others) e)

occurs_single : (l : Literal) (x : ℕ) → occurs ((l ∷ []) ∷ []) x ≡ eqb x l.variable
unfolding occurs some_clause some_literal
occurs_single l x = or-false (eqb x l.variable || false) ∙ or-false (eqb x l.variable)

negated_single : (l : Literal) (x : ℕ) → negated ((l ∷ []) ∷ []) x ≡ l.negative && eqb x l.variable
unfolding negated some_clause some_literal
negated_single l x = or-false (l.negative && eqb x l.variable || false) ∙ or-false (l.negative && eqb x l.variable)

-- a literal alone has the last frame of the literals: its variable's only input, or behind it its only negation
single_frame : (p q : ℕ → Bool) (l : Literal) → ((x : ℕ) → p x ≡ eqb x l.variable) → ((x : ℕ) → q x ≡ l.negative && eqb x l.variable)
    → l.variable < variables → suc (frame_by p q l) ≡ count p 0 variables + count q 0 variables
unfolding frame_by
single_frame p q l s t h =
    by_bool l.negative
    (λ e. let w = count-only q l.variable variables (λ x. t x ∙ rw e) h in
    rw e (omega (arith, w.0, w.1)))
    (λ e. let v = count-only p l.variable variables s h in
    let w = count_none q 0 variables (λ x i j. t x ∙ rw e) in
    rw e (omega (arith, v.0, v.1, w)))

single_literal : (l : Literal) → l.variable < variables → suc (literal_frame ((l ∷ []) ∷ []) l) ≡ literals ((l ∷ []) ∷ [])
unfolding inputs negations
single_literal l h = single_frame (occurs ((l ∷ []) ∷ [])) (negated ((l ∷ []) ∷ [])) l (occurs_single l) (negated_single l) h

-- the frames of the matrix, part by part
record Parts (κ : ℕ → Kind) (cs : List Clause) : Type 0 where
  inputs-stand : Has κ 0 (input_kinds cs)
  negations-stand : Has κ (inputs cs) (negation_kinds cs)
  clauses-stand : Has κ (literals cs) (clause_kinds (literal_frame cs) cs (literals cs))
  conjunction_stands : Has κ (clauses_end cs) (conjunction_kinds (clause_ends (literal_frame cs) cs (literals cs)) (clauses_end cs))

has_at : {κ : ℕ → Kind} {n k : ℕ} {ks : List Kind} → n ≡ k → Has κ n ks → Has κ k ks
has_at e h = rw e at h

matrix-parts : {κ : ℕ → Kind} (cs : List Clause) → Has κ 0 (matrix_kinds cs) → Parts κ cs
unfolding matrix_kinds literal_kinds disjunction_kinds
matrix-parts cs h =
    let clauses = has_left (literal_kinds cs ++ disjunction_kinds cs) (conjunction_kinds (clause_ends (literal_frame cs) cs (literals cs)) (clauses_end cs)) h in
    let conjunction = has_right (literal_kinds cs ++ disjunction_kinds cs) (conjunction_kinds (clause_ends (literal_frame cs) cs (literals cs)) (clauses_end cs)) h in
    let ls = has_left (literal_kinds cs) (disjunction_kinds cs) clauses in
    record {
      inputs-stand = has_left (input_kinds cs) (negation_kinds cs) ls;
      negations-stand = has_at (zero-add (length (input_kinds cs)) ∙ inputs-length cs) (has_right (input_kinds cs) (negation_kinds cs) ls);
      clauses-stand = has_at (zero-add (length (literal_kinds cs)) ∙ literals-length cs) (has_right (literal_kinds cs) (disjunction_kinds cs) clauses);
      conjunction_stands = has_at (zero-add (clauses_end cs)) conjunction;
    }

matrix-length : (cs : List Clause) → length (matrix_kinds cs) ≡ clauses_end cs + length (conjunction_kinds (clause_ends (literal_frame cs) cs (literals cs)) (clauses_end cs))
unfolding matrix_kinds
matrix-length cs = length-append (literal_kinds cs ++ disjunction_kinds cs) (conjunction_kinds (clause_ends (literal_frame cs) cs (literals cs)) (clauses_end cs))

ends_some : {P : Literal → Type 0} {cs : List Clause} (f : Literal → ℕ) (n : ℕ) → 1 ≤ length cs → Full P cs → 1 ≤ length (clause_ends f cs n)
unfolding clause_ends
ends_some f n h full-none = h
ends_some f n h (full-more w ws more) = omega arith

pub matrix-stands : {κ : ℕ → Kind} (cs : List Clause) → 1 ≤ length cs → Every (SomeBelow (λ (l : Literal). l.variable) variables) cs
    → Has κ 0 (matrix_kinds cs) → MatrixStands κ cs
matrix-stands {κ} cs h w has = record {
  least = omega (arith, last, matrix-length cs);
  plain = plain;
  ordered = ordered;
  unbound = λ k v i. plain-binds (plain k i) v;
  truth-is = λ σ.
      ap (λ (k : ℕ). truth (formula_of κ k) σ) root
      ∙ conjunction_truth κ m ordered ends e (ends_some f n h full) parts.conjunction_stands (omega (arith, matrix-length cs)) σ
      ∙ clauses-truth κ m ordered f n stand parts.clauses-stand (omega (arith, matrix-length cs, end_is cs)) σ;
  free-is = λ x.
      ap (λ (k : ℕ). free (formula_of κ k) x) root
      ∙ conjunction_free κ m ordered ends e (ends_some f n h full) parts.conjunction_stands (omega (arith, matrix-length cs)) x
      ∙ clauses-free κ m ordered f n stand parts.clauses-stand (omega (arith, matrix-length cs, end_is cs)) x;
}
  where
    m : ℕ
    m = length (matrix_kinds cs)

    n : ℕ
    n = literals cs

    e : ℕ
    e = clauses_end cs

    f : Literal → ℕ
    f = literal_frame cs

    ends : List ℕ
    ends = clause_ends f cs n

    full : Full (Of cs) cs
    full = of_clauses cs cs (λ t u. u) w

    parts : Parts κ cs
    parts = matrix-parts cs has

    plain : (k : ℕ) → k < m → Plain k (κ k)
    plain k i = plains_at (plains_matrix cs full) has k (omega arith) (omega arith)

    ordered : OrderedBelow m variables κ
    ordered k i = plain-fit (plain k i)

    last : suc (conjunction_end ends e) ≡ e + length (conjunction_kinds ends e)
    last = end-last f n e h (end_is cs) (λ l v i. rw i (single_literal l v.below)) full

    root : m - 1 ≡ conjunction_end ends e
    root = omega (arith, last, matrix-length cs)

    stand : Full (Stands κ f) cs
    stand = full-map (literal-stands κ m ordered cs (omega (arith, matrix-length cs, end_is cs)) parts.inputs-stand parts.negations-stand) full
