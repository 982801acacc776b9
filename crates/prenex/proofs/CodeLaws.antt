-- What the two arrays of a question give: the clauses from their codes, and the quantifiers from the words of the blocks. Assumes nothing.
use Rattle.std.specs.Prelude.{ℕ, zero, suc, ◌+◌, ◌-◌, ◌*◌, ◌/◌, ◌%◌, ◌≤◌, ◌<◌, Bool, true, false, not, List, [], ◌∷◌, ◌++◌, map, ◌≡◌, refl, length, get_or}
use Rattle.std.proofs.Common.{arith, ap, ◌∙◌, length-append, ne_eqb}
use Rattle.std.proofs.Math.Path.{fun_ext}
use Rattle.std.proofs.lemmas.List.{length-map}
use Rattle.words.proofs.Logic.{by_bool}
use Rattle.prenex.specs.Question.{Literal, Block, Clause, Every, every-none, every_one, SomeBelow, Alternating, no_block, innermost, outer}
use Rattle.prenex.specs.Kinds.{block_kinds}
use Rattle.prenex.specs.Code.{literal_of, to_first, clauses_of, code_of, codes_of, literals, Codes, even, word_kinds}
use Rattle.prenex.specs.CodeLaws.{Words, words_none, words_one}

-- ---- a literal and its code

literal_code_by : (n : Bool) (x : ℕ) → literal_of (code_of (record { negative = n; variable = x })) ≡ record { negative = n; variable = x }
unfolding literal_of code_of
literal_code_by true x =
    let odd : (2 * x + 2 - 1) % 2 ≡ 1 = omega arith in
    let half : (2 * x + 2 - 1) / 2 ≡ x = omega arith in
    rw (odd, half)
literal_code_by false x =
    let even : (2 * x + 1 - 1) % 2 ≡ 0 = omega arith in
    let half : (2 * x + 1 - 1) / 2 ≡ x = omega arith in
    rw (even, half)

pub literal_code : (l : Literal) → literal_of (code_of l) ≡ l
literal_code l = literal_code_by l.negative l.variable

-- only the end of a clause is 0
pub code_some : (l : Literal) → 1 ≤ code_of l
unfolding code_of
code_some l = by_bool l.negative (λ e. rw e (omega arith)) (λ e. rw e (omega arith))

pub code_most : (l : Literal) → l.variable < 32 → code_of l ≤ 64
unfolding code_of
code_most l h = by_bool l.negative (λ e. rw e (omega (arith, h))) (λ e. rw e (omega (arith, h)))

-- ---- the clauses of the codes

clause_codes : (c : Clause) (r : List ℕ) → clauses_of (map code_of c ++ 0 ∷ r) ≡ c ∷ clauses_of r
unfolding clauses_of to_first
clause_codes [] r = refl
clause_codes (l ∷ c) r = rw (ne_eqb (code_of l) 0 (omega (arith, code_some l)), literal_code l, clause_codes c r)

pub clauses_codes : (cs : List Clause) → clauses_of (codes_of cs) ≡ cs
unfolding codes_of clauses_of
clauses_codes [] = refl
clauses_codes (c ∷ cs) = clause_codes c (codes_of cs) ∙ ap (λ (r : List Clause). c ∷ r) (clauses_codes cs)

-- ---- they are codes

-- one code more in front; a literal does not stand last
codes_one : (k : ℕ) (r : List ℕ) → k ≤ 64 → (0 < k → 1 ≤ length r) → Codes r → Codes (k ∷ r)
codes_one k r le more C = record { below = at_most; ended = behind }
  where
    at_most : (i : ℕ) → get_or (k ∷ r) i 0 ≤ 64
    at_most zero = le
    at_most (suc i) = C.below i

    behind : (i : ℕ) → 0 < get_or (k ∷ r) i 0 → suc i < suc (length r)
    behind zero h = omega (arith, more h)
    behind (suc i) h = omega (arith, C.ended i h)

codes_none : Codes []
codes_none = record { below = λ i. omega arith; ended = λ i h. absurd (omega (arith, h)) }

-- a clause's end stands behind its literals
end-behind : (c : Clause) (r : List ℕ) → 1 ≤ length (map code_of c ++ 0 ∷ r)
end-behind c r = rw (length-append (map code_of c) (0 ∷ r)) (omega arith)

clause_are : (c : Clause) (r : List ℕ) → Every (λ (l : Literal). l.variable < 32) c → Codes r → Codes (map code_of c ++ 0 ∷ r)
clause_are c r every-none C = codes_one 0 r (omega arith) (λ h. absurd (omega (arith, h))) C
clause_are c r (every_one {a = l} {l = ls} h t) C = codes_one (code_of l) (map code_of ls ++ 0 ∷ r) (code_most l h) (λ _. end-behind ls r) (clause_are ls r t C)

pub codes_are : (cs : List Clause) → Every (SomeBelow (λ (l : Literal). l.variable) 32) cs → Codes (codes_of cs)
unfolding codes_of
codes_are cs every-none = codes_none
codes_are cs (every_one {a = c} {l = ds} h t) = clause_are c (codes_of ds) h.below (codes_are ds t)

-- ---- how many they are

pub codes_length : (cs : List Clause) → length (codes_of cs) ≡ literals cs + length cs
unfolding codes_of literals
codes_length [] = refl
codes_length (c ∷ cs) = length-append (map code_of c) (0 ∷ codes_of cs) ∙ omega (arith, length-map c code_of, codes_length cs)

pub clauses-literals : (cs : List Clause) → Every (λ (c : Clause). 1 ≤ length c) cs → length cs ≤ literals cs
unfolding literals
clauses-literals cs every-none = omega arith
clauses-literals cs (every_one {a = c} {l = ds} h t) = omega (arith, h, clauses-literals ds t)

pub words_length : {ms : List ℕ} {bs : List Block} → Words ms bs → length ms ≡ length bs
words_length words_none = refl
words_length (words_one e w) = ap suc (words_length w)

pub alternating-inside : {b : Block} {bs : List Block} → Alternating (b ∷ bs) → Alternating bs
alternating-inside (innermost e) = no_block
alternating-inside (outer e a) = a

-- a block's kind is the parity of the number of blocks inside it
pub alternating-even : (b : Block) (bs : List Block) → Alternating (b ∷ bs) → b.exists ≡ even (length bs)
unfolding even
alternating-even b bs (innermost e) = e
alternating-even b bs (outer {c = c} {bs = ds} e a) = e ∙ ap not (alternating-even c ds a)

pub words_kinds : {ms : List ℕ} {bs : List Block} → Alternating bs → Words ms bs → (n : ℕ) → word_kinds ms n ≡ block_kinds bs n
unfolding word_kinds block_kinds
words_kinds a words_none n = refl
words_kinds a (words_one {b = b} {bs = bs} e w) n =
    rw (words_kinds (alternating-inside a) w n, words_length w, ← alternating-even b bs a, fun_ext e)
