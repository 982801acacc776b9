-- Literals, step by step: codes, the variables that occur, and the frames of those with a property. Assumes nothing.
use Rattle.std.specs.Prelude.{ℕ, suc, ◌+◌, ◌-◌, ◌*◌, ◌/◌, ◌%◌, ◌^◌, ◌≤◌, ◌<◌, Bool, true, false, ◌&&◌, ◌||◌, List, [], ◌∷◌, map, ◌≡◌, refl, length, get_or}
use Rattle.std.proofs.Common.{arith, add-one, ◌∙◌, drop-cons, ne_eqb}
use Rattle.std.proofs.Math.Bool.{or-false, or_assoc}
use Rattle.std.proofs.Math.Path.{sym, ap, fun_ext}
use Rattle.std.specs.Int.Bits.{bit_or}
use Rattle.std.proofs.Math.Dec.{eqb}
use Rattle.std.proofs.Math.ListN.{drop, drop_of_length-le}
use Rattle.std.proofs.lemmas.List.Edits.{sets}
use Rattle.words.specs.Word.{bit}
use Rattle.words.proofs.Bits.{bit-or, bit-pow, bit-none}
use Rattle.sheet.specs.declared.Kind.{Kind}
use Rattle.prenex.specs.declared.literal.Occurring.{Occurring}
use Rattle.prenex.specs.Question.{Literal, Clause, some_literal, some_clause, occurs, negated}
use Rattle.prenex.specs.Kinds.{variables, having, count, frame_bytes, sheet_bytes}
use Rattle.prenex.specs.Code.{literal_of, to_first, clauses_of}
use Rattle.prenex.specs.Writing.{With}
use Rattle.prenex.proofs.StoreLaws.{store_frame, sheet-none}
use Rattle.prenex.specs.LiteralLaws.{Found}

-- ---- codes

pub variable-is : (c : ℕ) → (literal_of c).variable ≡ (c - 1) / 2
unfolding literal_of
variable-is c = refl

pub negative-is : (c : ℕ) → (literal_of c).negative ≡ eqb ((c - 1) % 2) 1
unfolding literal_of
negative-is c = refl

pub variable-below : (c v : ℕ) → c ≤ 64 → v ≡ (literal_of c).variable → v < 32
variable-below c v h e = omega (arith, variable-is c)

-- ---- the words of the variables that occur

pub or-one : (w v x : ℕ) → bit (bit_or w (2 ^ v)) x ≡ bit w x || eqb x v
or-one w v x = bit-or w (2 ^ v) x ∙ ap (λ (t : Bool). bit w x || t) (bit-pow v x)

module _ (found : Occurring) (code one : ℕ) (o : one ≡ 2 ^ (literal_of code).variable) where
  pub with_negative : (literal_of code).negative ≡ true → With found code (record { all = bit_or found.all one; negated = bit_or found.negated one })
  with_negative e = record {
    all-is = λ x. rw o (or-one found.all (literal_of code).variable x);
    negated-is = λ x. rw (o, e) (or-one found.negated (literal_of code).variable x);
  }

  pub with_positive : (literal_of code).negative ≡ false → With found code (record { all = bit_or found.all one; negated = found.negated })
  with_positive e = record {
    all-is = λ x. rw o (or-one found.all (literal_of code).variable x);
    negated-is = λ x. rw e (sym (or-false (bit found.negated x)));
  }

-- ---- a test of some literal of the clauses of codes

some_first : (t : Literal → Bool) (l : Literal) (cs : List Clause) → some_clause t (to_first l cs) ≡ t l || some_clause t cs
unfolding some_clause some_literal to_first
some_first t l [] = or_assoc (t l) false false
some_first t l (c ∷ cs) = or_assoc (t l) (some_literal t c) (some_clause t cs)

pub some-none : (t : Literal → Bool) → some_clause t (clauses_of []) ≡ false
unfolding some_clause clauses_of
some-none t = refl

pub some_end : (t : Literal → Bool) (cs : List ℕ) → some_clause t (clauses_of (0 ∷ cs)) ≡ some_clause t (clauses_of cs)
unfolding some_clause some_literal clauses_of
some_end t cs = refl

pub some-literal : (c : ℕ) (cs : List ℕ) → (c ≡ 0 → ⊥) → (t : Literal → Bool) → some_clause t (clauses_of (c ∷ cs)) ≡ t (literal_of c) || some_clause t (clauses_of cs)
unfolding clauses_of
some-literal c cs h t = rw (ne_eqb c 0 h) (some_first t (literal_of c) (clauses_of cs))

pub found-same : (codes : List ℕ) (i : ℕ) {found more : Occurring} → Found codes i found → more ≡ found → Found codes i more
found-same codes i f e = rw e f

pub found-start : (codes : List ℕ) → Found codes 0 (record { all = 0; negated = 0 })
found-start codes = record { all_found = λ x. rw bit-none; negated-found = λ x. rw bit-none }

module _ (codes : List ℕ) (i : ℕ) (found : Occurring) (f : Found codes i found) where
  pub found-end : length codes ≤ i → (bit found.all ≡ occurs (clauses_of codes)) × (bit found.negated ≡ negated (clauses_of codes))
  unfolding occurs negated
  found-end h =
      let e = drop_of_length-le codes {i = i} h in (
        fun_ext (λ x. sym (or-false (bit found.all x)) ∙ sym (rw (e, some-none) at (f.all_found x))),
        fun_ext (λ x. sym (or-false (bit found.negated x)) ∙ sym (rw (e, some-none) at (f.negated-found x))),
      )

  module _ (c : ℕ) (h : i < length codes) (e : c ≡ get_or codes i 0) where
    here : drop i codes ≡ c ∷ drop (i + 1) codes
    here = drop-cons codes i 0 h ∙ rw (e, add-one i)

    pub found_clause : c ≡ 0 → Found codes (i + 1) found
    unfolding occurs negated
    found_clause z =
        let d : drop i codes ≡ 0 ∷ drop (i + 1) codes = here ∙ ap (λ (k : ℕ). k ∷ drop (i + 1) codes) z in
        record { all_found = λ x. rw (d, some_end) at (f.all_found x); negated-found = λ x. rw (d, some_end) at (f.negated-found x) }

    pub found-literal : (c ≡ 0 → ⊥) → (more : Occurring) → With found c more → Found codes (i + 1) more
    unfolding occurs negated
    found-literal n more w =
        let l = literal_of c in
        let rest = clauses_of (drop (i + 1) codes) in
        let first = some-literal c (drop (i + 1) codes) n in
        record {
          all_found = λ x. rw (w.all-is x) ((rw (here, first) at (f.all_found x)) ∙ sym (or_assoc (bit found.all x) (eqb x l.variable) (occurs rest x)));
          negated-found = λ x.
              rw (w.negated-is x)
              ((rw (here, first) at (f.negated-found x)) ∙ sym (or_assoc (bit found.negated x) (l.negative && eqb x l.variable) (negated rest x)));
        }

-- ---- counts and frames of the numbers with a property, one number after the other

pub count_none : (p : ℕ → Bool) (x : ℕ) → count p x 0 ≡ 0
unfolding count
count_none p x = refl

pub count_has : (p : ℕ → Bool) (x n : ℕ) → p x ≡ true → count p x (suc n) ≡ suc (count p (x + 1) n)
unfolding count
count_has p x n e = rw (e, add-one x)

pub count_lacks : (p : ℕ → Bool) (x n : ℕ) → p x ≡ false → count p x (suc n) ≡ count p (x + 1) n
unfolding count
count_lacks p x n e = rw (e, add-one x)

pub having-none : (p : ℕ → Bool) (x : ℕ) → having p x 0 ≡ []
unfolding having
having-none p x = refl

pub having_has : (p : ℕ → Bool) (x n : ℕ) → p x ≡ true → having p x (suc n) ≡ x ∷ having p (x + 1) n
unfolding having
having_has p x n e = rw (e, add-one x)

pub having_lacks : (p : ℕ → Bool) (x n : ℕ) → p x ≡ false → having p x (suc n) ≡ having p (x + 1) n
unfolding having
having_lacks p x n e = rw (e, add-one x)

-- from frame `start` on: n frames stand once the numbers below x had their turn, and the stores that are left give what all give
module _ (p : ℕ → Bool) (f : ℕ → Kind) (start : ℕ) (all : List ℕ) where
  pub record Stored (x n : ℕ) (out : List ℕ) : Type 0 where
    pub few : n ≤ start + x
    pub counted : start + count p 0 variables ≡ n + count p x (variables - x)
    pub stored : sets all (start * 4) (sheet_bytes (map f (having p 0 variables))) ≡ sets out (n * 4) (sheet_bytes (map f (having p x (variables - x))))

  pub stored-start : Stored 0 start all
  stored-start = record { few = omega arith; counted = refl; stored = refl }

  module _ (x n : ℕ) (out : List ℕ) (s : Stored x n out) where
    pub stored-end : variables ≤ x → (n ≡ start + count p 0 variables) × (out ≡ sets all (start * 4) (sheet_bytes (map f (having p 0 variables))))
    stored-end h =
        let z : variables - x ≡ 0 = omega arith in
        let k = rw (z, count_none p x) at s.counted in
        (omega (arith, k), sym (rw (z, having-none p x, sheet-none) at s.stored))

    module _ (h : x < variables) (n' : ℕ) (out' : List ℕ) where
      rest : variables - x ≡ suc (variables - (x + 1))
      rest = omega arith

      pub stored_has : p x ≡ true → n' ≡ n + 1 → out' ≡ sets out (n * 4) (frame_bytes (f x)) → Stored (x + 1) n' out'
      stored_has t e o =
          let k = rw (rest, count_has p x (variables - (x + 1)) t) at s.counted in
          let g = rw (rest, having_has p x (variables - (x + 1)) t) at s.stored in
          record {
            few = omega (arith, s.few);
            counted = omega (arith, k);
            stored = g ∙ store_frame (f x) (map f (having p (x + 1) (variables - (x + 1)))) out n ∙ rw (e, o);
          }

      pub stored_lacks : p x ≡ false → n' ≡ n → out' ≡ out → Stored (x + 1) n' out'
      stored_lacks t e o = record {
        few = omega (arith, s.few);
        counted = rw e (rw (rest, count_lacks p x (variables - (x + 1)) t) at s.counted);
        stored = rw (e, o) (rw (rest, having_lacks p x (variables - (x + 1)) t) at s.stored);
      }
