-- A text is the text of at most one question: the question can be computed back from its fields. Assumes nothing.
use Rattle.std.specs.Prelude.{ℕ, zero, suc, Bool, true, false, List, [], ◌∷◌, ◌++◌, map, ◌≡◌, refl, length, get_or, drop}
use Rattle.std.proofs.Common.{append-nil, sym, ap, ap₂, ◌∙◌}
use Rattle.words.proofs.Logic.{by_bool}
use Rattle.prenex.specs.Question.{Literal, Block, Clause, Question}
use Rattle.prenex.specs.Code.{to_first}
use Rattle.dimacs.specs.Page.{atom_fields, literal_field, clause_fields, clauses_fields, block_field, blocks_fields, page, Written}
use Rattle.dimacs.specs.Shape.{number_of}
use Rattle.dimacs.specs.declared.token.Token.{Token}
use Rattle.dimacs.specs.declared.token.Token.TheVariants.{Line, Problem, Format, Exists, Forall, Number, Negative, Other}

-- ---- literals of the two signs

abbrev positive : ℕ → Literal
positive x = record { negative = false; variable = x }

abbrev negation : ℕ → Literal
negation x = record { negative = true; variable = x }

-- ---- back from the fields: the quantifiers, and all rows as clauses, those of blocks first

quantifiers : List Token → List Bool
quantifiers [] = []
quantifiers (Line ∷ ts) = quantifiers ts
quantifiers (Problem ∷ ts) = quantifiers ts
quantifiers (Format ∷ ts) = quantifiers ts
quantifiers (Exists ∷ ts) = true ∷ quantifiers ts
quantifiers (Forall ∷ ts) = false ∷ quantifiers ts
quantifiers (Number n ∷ ts) = quantifiers ts
quantifiers (Negative n ∷ ts) = quantifiers ts
quantifiers (Other ∷ ts) = quantifiers ts

-- a row ends with its 0
rows : List Token → List Clause
rows [] = []
rows (Line ∷ ts) = rows ts
rows (Problem ∷ ts) = rows ts
rows (Format ∷ ts) = rows ts
rows (Exists ∷ ts) = rows ts
rows (Forall ∷ ts) = rows ts
rows (Number zero ∷ ts) = [] ∷ rows ts
rows (Number (suc x) ∷ ts) = to_first (positive x) (rows ts)
rows (Negative zero ∷ ts) = rows ts
rows (Negative (suc x) ∷ ts) = to_first (negation x) (rows ts)
rows (Other ∷ ts) = rows ts

-- each quantifier takes a row
blocks_of : List Bool → List Clause → List Block
blocks_of [] rs = []
blocks_of (d ∷ ds) [] = []
blocks_of (d ∷ ds) (r ∷ rs) = record { exists = d; atoms = map (λ (l : Literal). l.variable) r } ∷ blocks_of ds rs

-- behind the problem line
question_of : List Token → Question
question_of ts =
    let behind = drop 5 ts in
    record {
      variables = number_of (get_or ts 2 Other);
      blocks = blocks_of (quantifiers behind) (rows behind);
      clauses = drop (length (quantifiers behind)) (rows behind);
    }

-- ---- the fields of a question give it back

abbrev kind_of : Block → Bool
kind_of b = b.exists

abbrev row_of : Block → Clause
row_of b = map positive b.atoms

quantifiers-atoms : (xs : List ℕ) (rest : List Token) → quantifiers (atom_fields xs rest) ≡ quantifiers rest
unfolding quantifiers atom_fields
quantifiers-atoms [] rest = refl
quantifiers-atoms (x ∷ xs) rest = quantifiers-atoms xs rest

quantifiers-literal : (l : Literal) (rest : List Token) → quantifiers (literal_field l ∷ rest) ≡ quantifiers rest
unfolding quantifiers literal_field
quantifiers-literal l rest = by_bool l.negative (λ e. rw e) (λ e. rw e)

quantifiers_clause : (c : Clause) (rest : List Token) → quantifiers (clause_fields c rest) ≡ quantifiers rest
unfolding quantifiers clause_fields
quantifiers_clause [] rest = refl
quantifiers_clause (l ∷ c) rest = quantifiers-literal l (clause_fields c rest) ∙ quantifiers_clause c rest

quantifiers-clauses : (cs : List Clause) → quantifiers (clauses_fields cs) ≡ []
unfolding quantifiers clauses_fields
quantifiers-clauses [] = refl
quantifiers-clauses (c ∷ cs) = quantifiers_clause c (clauses_fields cs) ∙ quantifiers-clauses cs

quantifiers_block : (d : Bool) (rest : List Token) → quantifiers (block_field d ∷ rest) ≡ d ∷ quantifiers rest
unfolding quantifiers block_field
quantifiers_block true rest = refl
quantifiers_block false rest = refl

quantifiers-blocks : (bs : List Block) (rest : List Token) → quantifiers (blocks_fields bs rest) ≡ map kind_of bs ++ quantifiers rest
unfolding blocks_fields
quantifiers-blocks [] rest = refl
quantifiers-blocks (b ∷ bs) rest =
    quantifiers_block b.exists (atom_fields b.atoms (blocks_fields bs rest))
    ∙ ap {B = List Bool} (λ ds. b.exists ∷ ds) (quantifiers-atoms b.atoms (blocks_fields bs rest) ∙ quantifiers-blocks bs rest)

rows-atoms : (xs : List ℕ) (rest : List Token) → rows (atom_fields xs rest) ≡ map positive xs ∷ rows rest
unfolding rows atom_fields to_first
rows-atoms [] rest = refl
rows-atoms (x ∷ xs) rest = ap (to_first (positive x)) (rows-atoms xs rest)

rows-literal-by : (n : Bool) (x : ℕ) (rest : List Token)
    → rows (literal_field (record { negative = n; variable = x }) ∷ rest) ≡ to_first (record { negative = n; variable = x }) (rows rest)
unfolding rows literal_field
rows-literal-by true x rest = refl
rows-literal-by false x rest = refl

rows_clause : (c : Clause) (rest : List Token) → rows (clause_fields c rest) ≡ c ∷ rows rest
unfolding rows clause_fields to_first
rows_clause [] rest = refl
rows_clause (l ∷ c) rest = rows-literal-by l.negative l.variable (clause_fields c rest) ∙ ap (to_first l) (rows_clause c rest)

rows-clauses : (cs : List Clause) → rows (clauses_fields cs) ≡ cs
unfolding rows clauses_fields
rows-clauses [] = refl
rows-clauses (c ∷ cs) = rows_clause c (clauses_fields cs) ∙ ap (λ (ds : List Clause). c ∷ ds) (rows-clauses cs)

rows_block : (d : Bool) (rest : List Token) → rows (block_field d ∷ rest) ≡ rows rest
unfolding rows block_field
rows_block true rest = refl
rows_block false rest = refl

rows-blocks : (bs : List Block) (rest : List Token) → rows (blocks_fields bs rest) ≡ map row_of bs ++ rows rest
unfolding blocks_fields
rows-blocks [] rest = refl
rows-blocks (b ∷ bs) rest =
    rows_block b.exists (atom_fields b.atoms (blocks_fields bs rest))
    ∙ rows-atoms b.atoms (blocks_fields bs rest)
    ∙ ap {B = List Clause} (λ rs. row_of b ∷ rs) (rows-blocks bs rest)

variables-positive : (xs : List ℕ) → map (λ (l : Literal). l.variable) (map positive xs) ≡ xs
variables-positive [] = refl
variables-positive (x ∷ xs) = ap (λ (ys : List ℕ). x ∷ ys) (variables-positive xs)

blocks_back : (bs : List Block) (rs : List Clause) → blocks_of (map kind_of bs) (map row_of bs ++ rs) ≡ bs
unfolding blocks_of
blocks_back [] rs = refl
blocks_back (b ∷ bs) rs =
    ap₂ {C = List Block} (λ (xs : List ℕ) (cs : List Block). record { exists = b.exists; atoms = xs } ∷ cs) (variables-positive b.atoms) (blocks_back bs rs)

clauses_back : (bs : List Block) (rs : List Clause) → drop (length (map kind_of bs)) (map row_of bs ++ rs) ≡ rs
clauses_back [] rs = refl
clauses_back (b ∷ bs) rs = clauses_back bs rs

module _ (bs : List Block) (cs : List Clause) where
  quantifiers-all : quantifiers (blocks_fields bs (clauses_fields cs)) ≡ map kind_of bs
  quantifiers-all =
      quantifiers-blocks bs (clauses_fields cs) ∙ ap {B = List Bool} (λ ds. map kind_of bs ++ ds) (quantifiers-clauses cs) ∙ append-nil (map kind_of bs)

  rows_all : rows (blocks_fields bs (clauses_fields cs)) ≡ map row_of bs ++ cs
  rows_all = rows-blocks bs (clauses_fields cs) ∙ ap {B = List Clause} (λ rs. map row_of bs ++ rs) (rows-clauses cs)

question_page : (q : Question) → question_of (page q) ≡ q
unfolding question_of page number_of
question_page q =
    let bs = q.blocks in
    let cs = q.clauses in
    rw (quantifiers-all bs cs, rows_all bs cs, blocks_back bs cs, clauses_back bs cs)

-- ---- one question

pub page-one : (q r : Question) → page q ≡ page r → q ≡ r
page-one q r e = sym (question_page q) ∙ ap question_of e ∙ question_page r

pub written_one : {q r : Question} {text : List ℕ} → Written q text → Written r text → q ≡ r
written_one {q} {r} w v = page-one q r (sym w.fields ∙ v.fields)
