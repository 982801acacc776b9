-- The fields of a QDIMACS text: what stands between blanks and line ends. Assumes nothing.
use Rattle.std.specs.Prelude.{ℕ, zero, suc, ◌+◌, ◌-◌, ◌*◌, ◌≤◌, ◌<◌, Bool, true, false, not, cond, ◌&&◌, ◌||◌, List, [], ◌∷◌, ◌≡◌, eqb, leb, ltb, length, get_or, drop, Option, None, Some}
use Rattle.dimacs.specs.declared.token.Token.{Token}
use Rattle.dimacs.specs.declared.token.Token.TheVariants.{Line, Problem, Format, Exists, Forall, Number, Negative, Other}

abbrev pub line_feed : ℕ
line_feed = 10

-- a space or a tab; 0D is none
unfoldable pub blank : ℕ → Bool
blank b = eqb b 32 || eqb b 9

unfoldable pub separates : ℕ → Bool
separates b = blank b || eqb b line_feed

-- ---- comments: lines that begin with c, before all others

-- what is left behind them; `inside`: within such a line, up to its end
unfoldable pub behind_comments : Bool → List ℕ → List ℕ
behind_comments inside [] = []
behind_comments true (b ∷ l) = behind_comments (not (eqb b line_feed)) l
behind_comments false (b ∷ l) = cond (eqb b 99) (behind_comments true l) (b ∷ l)

-- ---- a field

unfoldable pub after_blanks : List ℕ → List ℕ
after_blanks [] = []
after_blanks (b ∷ l) = cond (blank b) (after_blanks l) (b ∷ l)

-- the bytes up to the next separator
unfoldable pub word : List ℕ → List ℕ
word [] = []
word (b ∷ l) = cond (separates b) [] (b ∷ word l)

-- ---- numbers: decimal, without leading zeros, below 2 ^ 31, so that they fit 32 bits signed

abbrev pub number_limit : ℕ
number_limit = 2147483648

unfoldable pub digit : ℕ → Bool
digit b = leb 48 b && leb b 57

-- v with one digit more
unfoldable pub with_digit : ℕ → ℕ → Option ℕ
with_digit v b = cond (digit b && ltb (v * 10 + (b - 48)) number_limit) (Some (v * 10 + (b - 48))) None

abbrev pub and_then : Option ℕ → (ℕ → Option ℕ) → Option ℕ
and_then None f = None
and_then (Some v) f = f v

unfoldable pub decimal_from : ℕ → List ℕ → Option ℕ
decimal_from v [] = Some v
decimal_from v (b ∷ l) = and_then (with_digit v b) (λ w. decimal_from w l)

unfoldable pub decimal : List ℕ → Option ℕ
decimal w = cond (eqb (length w) 0 || (ltb 1 (length w) && eqb (get_or w 0 0) 48)) None (decimal_from 0 w)

-- ---- what a field says

unfoldable pub number_token : Option ℕ → Token
number_token None = Other
number_token (Some n) = Number n

unfoldable pub negative_token : Option ℕ → Token
negative_token None = Other
negative_token (Some n) = cond (ltb 0 n) (Negative n) Other

-- of one byte: p, e, a or a digit
unfoldable pub letter_token : ℕ → Token
letter_token b = cond (eqb b 112) Problem (cond (eqb b 101) Exists (cond (eqb b 97) Forall (number_token (with_digit 0 b))))

-- the word cnf
unfoldable pub is_format : List ℕ → Bool
is_format w = eqb (length w) 3 && (eqb (get_or w 0 0) 99 && (eqb (get_or w 1 0) 110 && eqb (get_or w 2 0) 102))

-- one byte, cnf, a number behind a minus sign, or a number
unfoldable pub token_of : List ℕ → Token
token_of w =
    cond (eqb (length w) 1) (letter_token (get_or w 0 0))
    (cond (is_format w) Format
    (cond (eqb (get_or w 0 0) 45) (negative_token (decimal (drop 1 w))) (number_token (decimal w))))

-- ---- the fields in a row, line ends among them

-- behind blanks; blanks that no line end follows are no field
unfoldable pub token_here : List ℕ → Token
token_here [] = Other
token_here (b ∷ l) = cond (eqb b line_feed) Line (token_of (word (b ∷ l)))

unfoldable pub behind_here : List ℕ → List ℕ
behind_here [] = []
behind_here (b ∷ l) = cond (eqb b line_feed) l (drop (length (word (b ∷ l))) (b ∷ l))

unfoldable pub token : List ℕ → Token
token l = token_here (after_blanks l)

unfoldable pub behind : List ℕ → List ℕ
behind l = behind_here (after_blanks l)

-- at most so many
unfoldable pub tokens_within : ℕ → List ℕ → List Token
tokens_within zero l = []
tokens_within (suc n) [] = []
tokens_within (suc n) (b ∷ l) = token (b ∷ l) ∷ tokens_within n (behind (b ∷ l))

-- all of them: each takes a byte at least
unfoldable pub tokens : List ℕ → List Token
tokens l = tokens_within (length l) l

-- what taking the field at a place gives
pub record Taken (text : List ℕ) (at : ℕ) (t : Token) (end : ℕ) : Type 0 where
  pub token-is : t ≡ token (drop at text)
  pub rest-is : drop end text ≡ behind (drop at text)
  pub onward : at < end
  pub within : end ≤ length text
