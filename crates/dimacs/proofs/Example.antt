-- A text of a question, field by field: the worked question of prenex, with a comment, blanks and tabs. Assumes nothing.
use Rattle.std.specs.Prelude.{ℕ, List, [], ◌∷◌, refl}
use Rattle.prenex.specs.Example.{worked}
use Rattle.prenex.proofs.Example.{worked-proper}
use Rattle.dimacs.specs.Token.{behind_comments, tokens, tokens_within, token, behind, token_here, behind_here, after_blanks, word, blank, separates, token_of, letter_token, is_format, negative_token, number_token, decimal, decimal_from, with_digit, digit}
use Rattle.dimacs.specs.Page.{page, blocks_fields, block_field, atom_fields, clauses_fields, clause_fields, literal_field, Written}

-- c x / p cnf 3 2 / a 1 0 / e 2 3 0 / 1 -2 0 / 2 3 -1 0, with a tab before the 3 of the second set, two spaces behind p, and a blank at the end of the third line
abbrev example : List ℕ
example =
    99 ∷ 32 ∷ 120 ∷ 10
    ∷ 112 ∷ 32 ∷ 32 ∷ 99 ∷ 110 ∷ 102 ∷ 32 ∷ 51 ∷ 32 ∷ 50 ∷ 10
    ∷ 97 ∷ 32 ∷ 49 ∷ 32 ∷ 48 ∷ 32 ∷ 10
    ∷ 101 ∷ 32 ∷ 50 ∷ 9 ∷ 51 ∷ 32 ∷ 48 ∷ 10
    ∷ 49 ∷ 32 ∷ 45 ∷ 50 ∷ 32 ∷ 48 ∷ 10
    ∷ 50 ∷ 32 ∷ 51 ∷ 32 ∷ 45 ∷ 49 ∷ 32 ∷ 48 ∷ 10
    ∷ []

pub example-written : Written worked example
unfolding behind_comments tokens tokens_within token behind token_here behind_here after_blanks word blank separates token_of letter_token is_format negative_token number_token decimal decimal_from with_digit digit page blocks_fields block_field atom_fields clauses_fields clause_fields literal_field
example-written = record { fields = refl; proper = worked-proper }
