-- A matrix is true under every assignment exactly if each clause has a literal and its opposite. Assumes nothing.
use Rattle.std.specs.Prelude.{Bool, true, false, not, ◌&&◌, ◌||◌, List, [], ◌∷◌, ◌≡◌, refl, eqb}
use Rattle.std.proofs.Common.{sym, ap, ◌∙◌, eqb-true, eq-eqb}
use Rattle.std.proofs.lemmas.Bool.{not-true}
use Rattle.words.proofs.Logic.{by_bool, clash, and_both, and_intro, or_cases, or_left, or_right}
use Rattle.formula.specs.Assignment.{Assignment}
use Rattle.prenex.specs.Question.{Literal, Clause, literal_truth, clause_truth, matrix_truth, some_literal}
use Rattle.prenex.specs.Code.{opposed, all_opposed}
use Rattle.prenex.specs.Opposed.{Of, against}

pub some_finds : (t : Literal → Bool) (c : Clause) → some_literal t c ≡ true → (l : Literal) × (t l ≡ true) × Of c l
unfolding some_literal
some_finds t [] e = clash false e refl
some_finds t (l ∷ c) e =
    or_cases (t l) (some_literal t c) e
    (λ h. (l, h, λ s p. or_left (s l) (some_literal s c) p))
    (λ h. let f = some_finds t c h in (f.0, f.1, λ s p. or_right (s l) (some_literal s c) (f.2 s p)))

-- a clause is true if some literal is
pub clause_some : (c : Clause) (σ : Assignment) → clause_truth c σ ≡ some_literal (λ (l : Literal). literal_truth l σ) c
unfolding clause_truth some_literal
clause_some [] σ = refl
clause_some (l ∷ c) σ = ap (λ (t : Bool). literal_truth l σ || t) (clause_some c σ)

-- l is c's, and makes it true
makes_true : (c : Clause) (σ : Assignment) (l : Literal) → Of c l → literal_truth l σ ≡ true → clause_truth c σ ≡ true
makes_true c σ l m e = clause_some c σ ∙ m (λ (k : Literal). literal_truth k σ) e

-- the tests of `opposed`: k is not negative and of l's variable; l is negative and has such a k
abbrev opposite : Literal → Literal → Bool
opposite l k = not k.negative && eqb l.variable k.variable

abbrev paired : Clause → Literal → Bool
paired c l = l.negative && some_literal (opposite l) c

-- one of the two is true
clause_opposed : (c : Clause) → opposed c ≡ true → (σ : Assignment) → clause_truth c σ ≡ true
unfolding opposed
clause_opposed c e σ =
    let f = some_finds (paired c) c e in
    let p = and_both f.0.negative (some_literal (opposite f.0) c) f.1 in
    let g = some_finds (opposite f.0) c p.1 in
    let q = and_both (not g.0.negative) (eqb f.0.variable g.0.variable) g.1 in
    by_bool (σ g.0.variable)
    (λ s. makes_true c σ g.0 g.2 (rw (not-true g.0.negative q.0, s)))
    (λ s. makes_true c σ f.0 f.2 (rw (p.0, eqb-true f.0.variable g.0.variable q.1, s)))

pub opposed-true : (cs : List Clause) → all_opposed cs ≡ true → (σ : Assignment) → matrix_truth cs σ ≡ true
unfolding all_opposed matrix_truth
opposed-true [] e σ = refl
opposed-true (c ∷ cs) e σ =
    let p = and_both (opposed c) (all_opposed cs) e in
    and_intro (clause_truth c σ) (matrix_truth cs σ) (clause_opposed c p.0 σ) (opposed-true cs p.1 σ)

-- a literal of c that is true there has its opposite in c
against-opposed : (c : Clause) (l : Literal) → Of c l → literal_truth l (against c) ≡ true → opposed c ≡ true
unfolding opposed
against-opposed c l m e =
    by_bool l.negative
    (λ n. clash (against c l.variable) (m (λ k. k.negative && eqb l.variable k.variable) (rw (n, eq-eqb l.variable l.variable refl)))
    (not-true (against c l.variable) (rw n at e)))
    (λ n. let f = some_finds (λ k. k.negative && eqb l.variable k.variable) c (rw n at e) in
    let p = and_both f.0.negative (eqb l.variable f.0.variable) f.1 in
    f.2 (paired c) (rw p.0 (m (opposite f.0) (rw (n, ← eqb-true l.variable f.0.variable p.1, eq-eqb l.variable l.variable refl)))))

clause_unopposed : (c : Clause) → opposed c ≡ false → clause_truth c (against c) ≡ false
clause_unopposed c e =
    by_bool (clause_truth c (against c))
    (λ h. let f = some_finds (λ (l : Literal). literal_truth l (against c)) c (sym (clause_some c (against c)) ∙ h) in
    clash (opposed c) (against-opposed c f.0 f.2 f.1) e)
    (λ h. h)

pub unopposed_false : (cs : List Clause) → all_opposed cs ≡ false → (σ : Assignment) × (matrix_truth cs σ ≡ false)
unfolding all_opposed matrix_truth
unopposed_false [] e = clash true refl e
unopposed_false (c ∷ cs) e =
    by_bool (opposed c)
    (λ h. let r = unopposed_false cs (rw h at e) in (r.0, by_bool (clause_truth c r.0) (λ t. rw (t, r.1)) (λ t. rw t)))
    (λ h. (against c, rw (clause_unopposed c h)))
