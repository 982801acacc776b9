-- The definitions of Row.antt field by field, as the code takes them, and stores one after the other. Assumes nothing.
use Rattle.std.specs.Prelude.{ℕ, ◌+◌, ◌-◌, ◌^◌, ◌≤◌, ◌<◌, Bool, true, false, not, List, [], ◌∷◌, ◌≡◌, refl, leb, ltb, length, set}
use Rattle.std.proofs.Common.{None, Some, zero-add, add-one, arith, sym, ap, ◌∙◌}
use borrow.Author.Tests.{eq-eqb, ne_eqb, lt-ltb, ltb-true, leb-true, not-true, not-false}
use Rattle.std.specs.Int.Bits.{bit_or}
use Rattle.std.proofs.lemmas.List.Edits.{sets}
use Rattle.std.proofs.Math.Seq.{length-sets}
use Rattle.words.proofs.Logic.{and_both}
use Rattle.dimacs.specs.Shape.{number_of, variable_of, is_line, in_range}
use Rattle.dimacs.specs.Row.{block_row, clause_row, row_after, mentions, proper_atom, proper_atoms, code_of_field, codes_from, with_atom, words_from}
use Rattle.dimacs.specs.declared.token.Token.{Token}
use Rattle.dimacs.specs.RowSteps.{Storing}

-- ---- no field is left

pub mentions-none : (kind v row : ℕ) → mentions kind v row [] ≡ false
unfolding mentions
mentions-none kind v row = refl

pub proper-none : (row : ℕ) → proper_atoms row [] ≡ true
unfolding proper_atoms
proper-none row = refl

pub codes_none : (row : ℕ) → codes_from row [] ≡ []
unfolding codes_from
codes_none row = refl

pub words_none : (row word : ℕ) → words_from row word [] ≡ []
unfolding words_from
words_none row word = refl

-- ---- a field t, with the row behind it

pub mentions-here : {kind v row x : ℕ} {t : Token} {fs ts : List Token} → fs ≡ t ∷ ts → row ≡ kind → x ≡ variable_of t → x ≡ v → mentions kind v row fs ≡ true
unfolding mentions
mentions-here {kind} {v} {row} {x} s here x-is h = rw (s, eq-eqb row kind here, ← x-is, eq-eqb x v h)

module _ {row row' : ℕ} {t : Token} {fs ts : List Token} (s : fs ≡ t ∷ ts) (r : row' ≡ row_after row t) where
  module _ {kind : ℕ} (v : ℕ) where
    pub mentions-other_row : (row ≡ kind → ⊥) → mentions kind v row fs ≡ mentions kind v row' ts
    unfolding mentions
    mentions-other_row h = rw (s, r, ne_eqb row kind h)

    pub mentions-other-variable : row ≡ kind → {x : ℕ} → x ≡ variable_of t → (x ≡ v → ⊥) → mentions kind v row fs ≡ mentions kind v row' ts
    unfolding mentions
    mentions-other-variable here {x} x-is h = rw (s, r, eq-eqb row kind here, ← x-is, ne_eqb x v h)

  pub proper-other_row : (row ≡ block_row → ⊥) → proper_atoms row fs ≡ proper_atoms row' ts
  unfolding proper_atoms
  proper-other_row h = rw (s, r, ne_eqb row block_row h)

  module _ (here : row ≡ block_row) {x : ℕ} (x-is : x ≡ number_of t) where
    pub proper-zero : x ≡ 0 → proper_atoms row fs ≡ proper_atoms row' ts
    unfolding proper_atoms
    proper-zero h = rw (s, r, eq-eqb row block_row here, ← x-is, h)

    module _ (h : x ≡ 0 → ⊥) {b : Bool} (b-is : b ≡ proper_atom x row' ts) where
      pub proper-next : not b ≡ false → proper_atoms row fs ≡ proper_atoms row' ts
      unfolding proper_atoms
      proper-next e = rw (s, ← r, eq-eqb row block_row here, ← x-is, lt-ltb 0 x (omega (arith, h)), ← b-is, not-false b e)

      pub proper-fails : not b ≡ true → proper_atoms row fs ≡ false
      unfolding proper_atoms
      proper-fails e = rw (s, ← r, eq-eqb row block_row here, ← x-is, lt-ltb 0 x (omega (arith, h)), ← b-is, not-true b e)

  pub codes_other_row : (row ≡ clause_row → ⊥) → codes_from row fs ≡ codes_from row' ts
  unfolding codes_from
  codes_other_row h = rw (s, r, ne_eqb row clause_row h)

  module _ (here : row ≡ clause_row) where
    pub codes_same : code_of_field t ≡ None → codes_from row fs ≡ codes_from row' ts
    unfolding codes_from
    codes_same e = rw (s, r, eq-eqb row clause_row here, e)

    pub codes_next : {code : ℕ} → code_of_field t ≡ Some code → codes_from row fs ≡ code ∷ codes_from row' ts
    unfolding codes_from
    codes_next e = rw (s, r, eq-eqb row clause_row here, e)

  module _ (word : ℕ) {word' : ℕ} where
    pub words_other_row : (row ≡ block_row → ⊥) → word' ≡ word → words_from row word fs ≡ words_from row' word' ts
    unfolding words_from
    words_other_row h e = rw (s, r, ne_eqb row block_row h, e)

    module _ (here : row ≡ block_row) where
      pub words_atom : {n with : ℕ} → is_line t ≡ false → n ≡ number_of t → with ≡ with_atom word n → word' ≡ with → words_from row word fs ≡ words_from row' word' ts
      unfolding words_from
      words_atom h n-is k e = rw (s, r, eq-eqb row block_row here, h, ← n-is, e, k)

      pub words_next : is_line t ≡ true → word' ≡ 0 → words_from row word fs ≡ word ∷ words_from row' word' ts
      unfolding words_from
      words_next h e = rw (s, r, eq-eqb row block_row here, h, e)

-- ---- numbers of variables, with what a test of their range said

module _ (n : ℕ) {b : Bool} (b-is : b ≡ in_range 32 n) where
  in-range : not b ≡ false → in_range 32 n ≡ true
  in-range h = sym b-is ∙ not-false b h

  out_of_range : not b ≡ true → in_range 32 n ≡ false
  out_of_range h = sym b-is ∙ not-true b h

  pub range_bounds : not b ≡ false → (0 < n) × (n ≤ 32)
  range_bounds h = let k = and_both (ltb 0 n) (leb n 32) (in-range h) in (ltb-true 0 n k.0, leb-true n 32 k.1)

  module _ (word : ℕ) where
    pub atom_next : {one : ℕ} → not b ≡ false → one ≡ 2 ^ (n - 1) → bit_or word one ≡ with_atom word n
    unfolding with_atom
    atom_next h e = rw (in-range h, e)

    pub atom_none : not b ≡ true → word ≡ with_atom word n
    unfolding with_atom
    atom_none h = rw (out_of_range h)

pub storing_start : (l vs : List ℕ) → Storing l vs l 0 vs
storing_start l vs = record { gives = refl; counts = sym (zero-add (length vs)) }

module _ {l₀ vs l : List ℕ} {n : ℕ} {left : List ℕ} (s : Storing l₀ vs l n left) where
  counted : {rest : List ℕ} → left ≡ rest → length vs ≡ n + length rest
  counted e = s.counts ∙ ap (λ (ws : List ℕ). n + length ws) e

  pub storing_same : {l' rest : List ℕ} {n' : ℕ} → left ≡ rest → l' ≡ l → n' ≡ n → Storing l₀ vs l' n' rest
  storing_same e h k = record { gives = s.gives ∙ rw (e, h, k); counts = counted e ∙ rw k }

  pub storing_next : {a n' : ℕ} {l' rest : List ℕ} → left ≡ a ∷ rest → l' ≡ set l n a → n' ≡ n + 1 → Storing l₀ vs l' n' rest
  storing_next e h k = record { gives = s.gives ∙ rw (e, h, k, add-one n); counts = omega (arith, counted e, k) }

  pub storing-end : left ≡ [] → (n ≡ length vs) × (l ≡ sets l₀ 0 vs)
  storing-end e = (omega (arith, counted e), sym (s.gives ∙ ap (sets l n) e))

  pub storing_length : length l ≡ length l₀
  storing_length = sym (length-sets l n left) ∙ sym (ap length s.gives) ∙ length-sets l₀ 0 vs
