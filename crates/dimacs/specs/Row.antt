-- What the fields of a text say row by row: whether atoms are quantified once and occur, the codes of the clauses, the words of the blocks. Assumes nothing.
use Rattle.std.specs.Prelude.{ℕ, ◌-◌, ◌*◌, ◌^◌, Bool, true, false, not, cond, ◌&&◌, ◌||◌, List, [], ◌∷◌, eqb, ltb, Option, None, Some}
use Rattle.std.specs.Int.Bits.{bit_or}
use Rattle.dimacs.specs.Shape.{number_of, variable_of, is_line, in_range}
use Rattle.dimacs.specs.declared.token.Token.{Token}
use Rattle.dimacs.specs.declared.token.Token.TheVariants.{Line, Problem, Format, Exists, Forall, Number, Negative, Other}

-- rows: the problem line, a block's line, a clause's line
abbrev pub header : ℕ
header = 0

abbrev pub block_row : ℕ
block_row = 1

abbrev pub clause_row : ℕ
clause_row = 2

-- e and a begin a block's row; at a line's end a clause's row begins, until the next field says otherwise
unfoldable pub row_after : ℕ → Token → ℕ
row_after row Line = clause_row
row_after row Problem = row
row_after row Format = row
row_after row Exists = block_row
row_after row Forall = block_row
row_after row (Number n) = row
row_after row (Negative n) = row
row_after row Other = row

-- ---- atoms

-- the variable v, from 1 on, stands in a row of that kind
unfoldable pub mentions : ℕ → ℕ → ℕ → List Token → Bool
mentions kind v row [] = false
mentions kind v row (t ∷ ts) = (eqb row kind && eqb (variable_of t) v) || mentions kind v (row_after row t) ts

-- this atom stands in no later block's row, and in a clause's
abbrev pub proper_atom : ℕ → ℕ → List Token → Bool
proper_atom v row ts = not (mentions block_row v row ts) && mentions clause_row v row ts

unfoldable pub proper_atoms : ℕ → List Token → Bool
proper_atoms row [] = true
proper_atoms row (t ∷ ts) =
    cond (eqb row block_row && ltb 0 (number_of t)) (proper_atom (number_of t) (row_after row t) ts) true
    && proper_atoms (row_after row t) ts

-- ---- clauses

-- the code of a literal (prenex: 2 x + 1 and 2 x + 2), whose variable here is x + 1; 0 for a line's 0; none of a line's end and of words
unfoldable pub code_of_field : Token → Option ℕ
code_of_field Line = None
code_of_field Problem = None
code_of_field Format = None
code_of_field Exists = None
code_of_field Forall = None
code_of_field (Number n) = Some (cond (in_range 32 n) (2 * n - 1) 0)
code_of_field (Negative n) = Some (cond (in_range 32 n) (2 * n) 0)
code_of_field Other = Some 0

-- one more, if there is one
abbrev pub with_code : Option ℕ → List ℕ → List ℕ
with_code None codes = codes
with_code (Some c) codes = c ∷ codes

unfoldable pub codes_from : ℕ → List Token → List ℕ
codes_from row [] = []
codes_from row (t ∷ ts) = with_code (cond (eqb row clause_row) (code_of_field t) None) (codes_from (row_after row t) ts)

-- ---- blocks

unfoldable pub with_atom : ℕ → ℕ → ℕ
with_atom word n = cond (in_range 32 n) (bit_or word (2 ^ (n - 1))) word

-- word: the atoms of the block that the row has so far
unfoldable pub words_from : ℕ → ℕ → List Token → List ℕ
words_from row word [] = []
words_from row word (t ∷ ts) =
    cond (eqb row block_row)
    (cond (is_line t) (word ∷ words_from (row_after row t) 0 ts) (words_from (row_after row t) (with_atom word (number_of t)) ts))
    (words_from (row_after row t) word ts)
