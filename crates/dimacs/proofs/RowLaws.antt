-- What the rows of a question's fields say: its atoms are quantified once and occur, the codes of its clauses, the words of its blocks. Assumes nothing.
use Rattle.std.specs.Prelude.{ℕ, suc, ◌-◌, ◌^◌, ◌≤◌, ◌<◌, Bool, true, false, not, ◌&&◌, ◌||◌, ◌≡◌, leb, ltb}
use Rattle.std.proofs.Common.{None, Some, arith, ◌∙◌, eqb-true, eq-eqb, lt-ltb, le-leb}
use Rattle.std.proofs.Math.Bool.{or-false, or_assoc}
use mathlib.Core.List.{List, [], ◌∷◌, ◌++◌, map}
use Rattle.std.proofs.Math.Path.{refl, sym, ap}
use Rattle.std.proofs.Math.Dec.{eqb, eqb-zero-suc, eqb-suc-suc}
use Rattle.words.specs.Logic.{not-true}
use Rattle.words.proofs.Logic.{by_bool, same_test, and_both, and_intro}
use Rattle.words.specs.Word.{bit}
use Rattle.words.proofs.Bits.{bit-or, bit-pow, bit-none}
use Rattle.prenex.specs.Question.{Literal, Block, Clause, Question, some_literal, some_clause, occurs, member, all_atoms}
use Rattle.prenex.specs.Question.{Every, every-none, every_one, Distinct, distinct_none, distinct_one, SomeBelow}
use Rattle.prenex.proofs.Every.{every_map, below_wider, every-wider}
use Rattle.prenex.specs.Code.{code_of, codes_of}
use Rattle.prenex.proofs.PrefixLaws.{member_append}
use Rattle.prenex.specs.CodeLaws.{Words, words_none, words_one}
use Rattle.dimacs.specs.Page.{atom_fields, literal_field, clause_fields, clauses_fields, block_field, blocks_fields, page}
use Rattle.dimacs.specs.Shape.{number_of, variable_of, is_line, in_range}
use Rattle.dimacs.proofs.ShapeLaws.{literal-variable}
use Rattle.dimacs.specs.Row.{header, block_row, clause_row, row_after, mentions, proper_atoms, code_of_field, codes_from, with_atom, words_from}
use Rattle.dimacs.specs.declared.token.Token.{Token}

-- ---- a literal's field, and the field that begins a block

block-row : (row : ℕ) (d : Bool) → row_after row (block_field d) ≡ block_row
unfolding row_after block_field
block-row row true = refl
block-row row false = refl

block_variable : (d : Bool) → variable_of (block_field d) ≡ 0
unfolding variable_of block_field
block_variable true = refl
block_variable false = refl

literal_row : (row : ℕ) (l : Literal) → row_after row (literal_field l) ≡ row
unfolding row_after literal_field
literal_row row l = by_bool l.negative (λ e. rw e refl) (λ e. rw e refl)

block_code : (d : Bool) → code_of_field (block_field d) ≡ None
unfolding code_of_field block_field
block_code true = refl
block_code false = refl

-- ---- which atoms and variables are mentioned

-- the text's variables are one higher
eqb-written : (x y : ℕ) → eqb (suc y) (suc x) ≡ eqb x y
eqb-written x y =
    eqb-suc-suc y x
    ∙ same_test (eqb y x) (eqb x y) (λ e. eq-eqb x y (sym (eqb-true y x e))) (λ e. eq-eqb y x (sym (eqb-true x y e)))

module _ (x : ℕ) where
  -- ---- in the blocks' rows

  atoms-quantified : (xs : List ℕ) (rest : List Token) → mentions block_row (suc x) block_row (atom_fields xs rest) ≡ member xs x || mentions block_row (suc x) clause_row rest
  unfolding mentions atom_fields row_after variable_of member
  atoms-quantified [] rest = rw (eqb-zero-suc x)
  atoms-quantified (y ∷ xs) rest =
      rw (eqb-written x y, atoms-quantified xs rest) (sym (or_assoc (eqb x y) (member xs x) (mentions block_row (suc x) clause_row rest)))

  clause_quantifies : (c : Clause) (rest : List Token) → mentions block_row (suc x) clause_row (clause_fields c rest) ≡ mentions block_row (suc x) clause_row rest
  unfolding mentions clause_fields row_after
  clause_quantifies [] rest = refl
  clause_quantifies (l ∷ c) rest = rw (literal_row clause_row l, clause_quantifies c rest)

  clauses_quantify : (cs : List Clause) → mentions block_row (suc x) clause_row (clauses_fields cs) ≡ false
  unfolding mentions clauses_fields
  clauses_quantify [] = refl
  clauses_quantify (c ∷ cs) = clause_quantifies c (clauses_fields cs) ∙ clauses_quantify cs

  blocks_quantify : (bs : List Block) (cs : List Clause) → mentions block_row (suc x) clause_row (blocks_fields bs (clauses_fields cs)) ≡ member (all_atoms bs) x
  unfolding mentions blocks_fields all_atoms member
  blocks_quantify [] cs = clauses_quantify cs
  blocks_quantify (b ∷ bs) cs =
      rw (block-row clause_row b.exists)
      (atoms-quantified b.atoms (blocks_fields bs (clauses_fields cs))
      ∙ ap (λ (t : Bool). member b.atoms x || t) (blocks_quantify bs cs)
      ∙ sym (member_append b.atoms (all_atoms bs) x))

  -- ---- in the clauses' rows

  atoms_occur : (xs : List ℕ) (rest : List Token) → mentions clause_row (suc x) block_row (atom_fields xs rest) ≡ mentions clause_row (suc x) clause_row rest
  unfolding mentions atom_fields row_after
  atoms_occur [] rest = refl
  atoms_occur (y ∷ xs) rest = atoms_occur xs rest

  clause_occurs : (c : Clause) (rest : List Token)
      → mentions clause_row (suc x) clause_row (clause_fields c rest) ≡ some_literal (λ l. eqb x l.variable) c || mentions clause_row (suc x) clause_row rest
  unfolding mentions clause_fields row_after variable_of some_literal
  clause_occurs [] rest = rw (eqb-zero-suc x)
  clause_occurs (l ∷ c) rest =
      rw (literal_row clause_row l, literal-variable l, eqb-written x l.variable, clause_occurs c rest)
      (sym (or_assoc (eqb x l.variable) (some_literal (λ k. eqb x k.variable) c) (mentions clause_row (suc x) clause_row rest)))

  clauses_occur : (cs : List Clause) → mentions clause_row (suc x) clause_row (clauses_fields cs) ≡ occurs cs x
  unfolding mentions clauses_fields occurs some_clause
  clauses_occur [] = refl
  clauses_occur (c ∷ cs) = clause_occurs c (clauses_fields cs) ∙ ap (λ (t : Bool). some_literal (λ l. eqb x l.variable) c || t) (clauses_occur cs)

  -- e and a come before a block's row, and are no variables
  blocks_occur : (bs : List Block) (cs : List Clause) → mentions clause_row (suc x) clause_row (blocks_fields bs (clauses_fields cs)) ≡ occurs cs x
  unfolding mentions blocks_fields
  blocks_occur [] cs = clauses_occur cs
  blocks_occur (b ∷ bs) cs =
      rw (block-row clause_row b.exists, block_variable b.exists, eqb-zero-suc x)
      (atoms_occur b.atoms (blocks_fields bs (clauses_fields cs)) ∙ blocks_occur bs cs)

-- ---- atoms are quantified once, and occur

module _ (cs : List Clause) where
  -- as a test on the atoms alone
  proper_list : List ℕ → Bool
  proper_list [] = true
  proper_list (x ∷ xs) = not (member xs x) && occurs cs x && proper_list xs

  clause_atoms : (c : Clause) (rest : List Token) → proper_atoms clause_row (clause_fields c rest) ≡ proper_atoms clause_row rest
  unfolding proper_atoms clause_fields row_after
  clause_atoms [] rest = refl
  clause_atoms (l ∷ c) rest = rw (literal_row clause_row l) (clause_atoms c rest)

  clauses-atoms : (ds : List Clause) → proper_atoms clause_row (clauses_fields ds) ≡ true
  unfolding proper_atoms clauses_fields
  clauses-atoms [] = refl
  clauses-atoms (d ∷ ds) = clause_atoms d (clauses_fields ds) ∙ clauses-atoms ds

  -- the atoms that a block has left, and those of the blocks behind it
  block_atoms : (xs : List ℕ) (bs : List Block)
      → proper_atoms clause_row (blocks_fields bs (clauses_fields cs)) ≡ proper_list (all_atoms bs)
      → proper_atoms block_row (atom_fields xs (blocks_fields bs (clauses_fields cs))) ≡ proper_list (xs ++ all_atoms bs)
  unfolding proper_atoms atom_fields row_after number_of proper_list
  block_atoms [] bs e = e
  block_atoms (x ∷ xs) bs e =
      let rest = blocks_fields bs (clauses_fields cs) in
      let once : mentions block_row (suc x) block_row (atom_fields xs rest) ≡ member (xs ++ all_atoms bs) x =
      atoms-quantified x xs rest ∙ ap (λ (t : Bool). member xs x || t) (blocks_quantify x bs cs) ∙ sym (member_append xs (all_atoms bs) x) in
      let somewhere : mentions clause_row (suc x) block_row (atom_fields xs rest) ≡ occurs cs x =
      atoms_occur x xs rest ∙ blocks_occur x bs cs in
      rw (lt-ltb 0 (suc x) (omega arith), once, somewhere, block_atoms xs bs e)

  blocks-atoms : (bs : List Block) → proper_atoms clause_row (blocks_fields bs (clauses_fields cs)) ≡ proper_list (all_atoms bs)
  unfolding proper_atoms blocks_fields all_atoms proper_list
  blocks-atoms [] = clauses-atoms cs
  blocks-atoms (b ∷ bs) = rw (block-row clause_row b.exists) (block_atoms b.atoms bs (blocks-atoms bs))

  list_proper : (xs : List ℕ) → proper_list xs ≡ true → Distinct xs × Every (λ x. occurs cs x ≡ true) xs
  unfolding proper_list
  list_proper [] e = (distinct_none, every-none)
  list_proper (x ∷ xs) e =
      let p = and_both (not (member xs x) && occurs cs x) (proper_list xs) e in
      let h = and_both (not (member xs x)) (occurs cs x) p.0 in
      let t = list_proper xs p.1 in
      (distinct_one (not-true (member xs x) h.0) t.0, every_one h.1 t.1)

  proper-list : (xs : List ℕ) → Distinct xs → Every (λ x. occurs cs x ≡ true) xs → proper_list xs ≡ true
  unfolding proper_list
  proper-list xs distinct_none every-none = refl
  proper-list xs (distinct_one {x = x} {l = l} f d) (every_one e t) = rw (f, e, proper-list l d t)

module _ (q : Question) where
  page-atoms : proper_atoms header (page q) ≡ proper_list q.clauses (all_atoms q.blocks)
  unfolding proper_atoms page row_after
  page-atoms = blocks-atoms q.clauses q.blocks

  pub atoms-proper : proper_atoms header (page q) ≡ true → Distinct (all_atoms q.blocks) × Every (λ x. occurs q.clauses x ≡ true) (all_atoms q.blocks)
  atoms-proper e = list_proper q.clauses (all_atoms q.blocks) (sym page-atoms ∙ e)

  pub proper-atoms : Distinct (all_atoms q.blocks) → Every (λ x. occurs q.clauses x ≡ true) (all_atoms q.blocks) → proper_atoms header (page q) ≡ true
  proper-atoms d e = page-atoms ∙ proper-list q.clauses (all_atoms q.blocks) d e

-- ---- the codes of the clauses

in-range : (n : ℕ) → n < 32 → in_range 32 (suc n) ≡ true
in-range n h = and_intro (ltb 0 (suc n)) (leb (suc n) 32) (lt-ltb 0 (suc n) (omega arith)) (le-leb (suc n) 32 (omega (arith, h)))

literal_code : (l : Literal) → l.variable < 32 → code_of_field (literal_field l) ≡ Some (code_of l)
unfolding code_of_field literal_field code_of
literal_code l h =
    by_bool l.negative
    (λ e. rw (e, in-range l.variable h) (ap Some (omega arith)))
    (λ e. rw (e, in-range l.variable h) (ap Some (omega arith)))

clause_codes : (c : Clause) (rest : List Token) → Every (λ (l : Literal). l.variable < 32) c
    → codes_from clause_row (clause_fields c rest) ≡ map code_of c ++ 0 ∷ codes_from clause_row rest
unfolding codes_from clause_fields row_after code_of_field
clause_codes c rest every-none = refl
clause_codes c rest (every_one {a = l} {l = ls} h t) = rw (literal_row clause_row l, literal_code l h, clause_codes ls rest t)

clauses_codes : (cs : List Clause) → Every (SomeBelow (λ (l : Literal). l.variable) 32) cs → codes_from clause_row (clauses_fields cs) ≡ codes_of cs
unfolding codes_from clauses_fields codes_of
clauses_codes cs every-none = refl
clauses_codes cs (every_one {a = c} {l = ds} h t) =
    clause_codes c (clauses_fields ds) h.below ∙ ap (λ (r : List ℕ). map code_of c ++ 0 ∷ r) (clauses_codes ds t)

-- blocks have no codes
atoms_codes : (xs : List ℕ) (rest : List Token) → codes_from block_row (atom_fields xs rest) ≡ codes_from clause_row rest
unfolding codes_from atom_fields row_after
atoms_codes [] rest = refl
atoms_codes (x ∷ xs) rest = atoms_codes xs rest

blocks_codes : (bs : List Block) (rest : List Token) → codes_from clause_row (blocks_fields bs rest) ≡ codes_from clause_row rest
unfolding codes_from blocks_fields
blocks_codes [] rest = refl
blocks_codes (b ∷ bs) rest =
    rw (block_code b.exists, block-row clause_row b.exists) (atoms_codes b.atoms (blocks_fields bs rest) ∙ blocks_codes bs rest)

pub codes_page : (q : Question) → Every (SomeBelow (λ (l : Literal). l.variable) q.variables) q.clauses → q.variables ≤ 32
    → codes_from header (page q) ≡ codes_of q.clauses
unfolding codes_from page row_after
codes_page q e h = blocks_codes q.blocks (clauses_fields q.clauses) ∙ clauses_codes q.clauses (every-wider h e)

-- ---- the words of the blocks

-- a word with the atoms of a row
with_atoms : ℕ → List ℕ → ℕ
with_atoms word [] = word
with_atoms word (x ∷ xs) = with_atoms (with_atom word (suc x)) xs

atom_bit : (word y x : ℕ) → y < 32 → bit (with_atom word (suc y)) x ≡ bit word x || eqb x y
unfolding with_atom
atom_bit word y x h =
    let less : suc y - 1 ≡ y = omega arith in
    rw (in-range y h, less) (bit-or word (2 ^ y) x ∙ ap (λ (t : Bool). bit word x || t) (bit-pow y x))

atoms-bit : (xs : List ℕ) (word x : ℕ) → Every (λ (y : ℕ). y < 32) xs → bit (with_atoms word xs) x ≡ bit word x || member xs x
unfolding with_atoms member
atoms-bit xs word x every-none = sym (or-false (bit word x))
atoms-bit xs word x (every_one {a = y} {l = ys} h t) =
    atoms-bit ys (with_atom word (suc y)) x t
    ∙ ap (λ (b : Bool). b || member ys x) (atom_bit word y x h)
    ∙ or_assoc (bit word x) (eqb x y) (member ys x)

-- a block's row gives its word at the line's end
atoms_words : (xs : List ℕ) (word : ℕ) (rest : List Token) → words_from block_row word (atom_fields xs rest) ≡ with_atoms word xs ∷ words_from clause_row 0 rest
unfolding words_from atom_fields row_after is_line number_of with_atoms with_atom
atoms_words [] word rest = refl
atoms_words (x ∷ xs) word rest = atoms_words xs (with_atom word (suc x)) rest

clause_words : (c : Clause) (word : ℕ) (rest : List Token) → words_from clause_row word (clause_fields c rest) ≡ words_from clause_row word rest
unfolding words_from clause_fields row_after
clause_words [] word rest = refl
clause_words (l ∷ c) word rest = rw (literal_row clause_row l) (clause_words c word rest)

clauses_words : (cs : List Clause) (word : ℕ) → words_from clause_row word (clauses_fields cs) ≡ []
unfolding words_from clauses_fields
clauses_words [] word = refl
clauses_words (c ∷ cs) word = clause_words c word (clauses_fields cs) ∙ clauses_words cs word

blocks_words : (bs : List Block) (cs : List Clause) → Every (λ (b : Block). SomeBelow (λ (x : ℕ). x) 32 b.atoms) bs
    → Words (words_from clause_row 0 (blocks_fields bs (clauses_fields cs))) bs
unfolding words_from blocks_fields
blocks_words bs cs every-none = rw (clauses_words cs 0) words_none
blocks_words bs cs (every_one {a = b} {l = ds} h t) =
    rw (block-row clause_row b.exists, atoms_words b.atoms 0 (blocks_fields ds (clauses_fields cs)))
    (words_one (λ x. atoms-bit b.atoms 0 x h.below ∙ ap (λ (s : Bool). s || member b.atoms x) (bit-none x)) (blocks_words ds cs t))

pub words_page : (q : Question) → Every (λ (b : Block). SomeBelow (λ (x : ℕ). x) q.variables b.atoms) q.blocks → q.variables ≤ 32
    → Words (words_from header 0 (page q)) q.blocks
unfolding words_from page row_after
words_page q e h = blocks_words q.blocks q.clauses (every_map (λ b s. below_wider h s) e)
