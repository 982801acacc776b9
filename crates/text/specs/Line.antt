-- A line of the text: two digits for each byte of its frame and what ends the line. Each definition takes what is left of the text; w is how many bytes
-- the line's frame has. Assumes nothing.
use Rattle.std.specs.Prelude.{ℕ, zero, suc, ◌+◌, ◌*◌, ◌<◌, Bool, true, cond, ◌&&◌, List, [], ◌∷◌, ◌++◌, eqb, ltb, ◌≡◌, get_or, drop}
use Rattle.text.specs.Hex.{digit_value, line_feed, carriage_return}
use Rattle.text.specs.declared.line.Counted.{Counted}

-- the first byte, and 0, which is neither a digit nor a line's end, where nothing is left
abbrev pub head : List ℕ → ℕ
head l = get_or l 0 0

-- how many bytes here end a line: one, 0A, or two, 0D 0A; 0 where no line ends here
unfoldable pub ending : List ℕ → ℕ
ending l =
    cond (eqb (head l) line_feed) 1 (cond (eqb (head l) carriage_return && eqb (head (drop 1 l)) line_feed) 2 0)

-- the first n bytes are digits
unfoldable pub digits : ℕ → List ℕ → Bool
digits zero l = true
digits (suc n) l = ltb (digit_value (head l)) 16 && digits n (drop 1 l)

-- how many bytes the line here takes, its end counted in; 0 where it is not the digits of w bytes and a line's end
unfoldable pub line_size : ℕ → List ℕ → ℕ
line_size w l =
    cond (digits (2 * w) l && ltb 0 (ending (drop (2 * w) l))) (2 * w + ending (drop (2 * w) l)) 0

-- the byte that two digits give, the high one first
abbrev pub byte_here : List ℕ → ℕ
byte_here l = digit_value (head l) * 16 + digit_value (head (drop 1 l))

-- two digits stand here
pub record TwoDigits (l : List ℕ) : Type 0 where
  pub high : digit_value (head l) < 16
  pub low : digit_value (head (drop 1 l)) < 16

-- the bytes that the first 2 n digits give
unfoldable pub bytes : ℕ → List ℕ → List ℕ
bytes zero l = []
bytes (suc n) l = byte_here l ∷ bytes n (drop 2 l)

-- lines in a row: how many, the bytes of their frames, and what is left behind them
pub record Lines : Type 0 where
  pub count : ℕ
  pub frames : List ℕ
  pub rest : List ℕ

abbrev pub no_lines : List ℕ → Lines
no_lines l = record { count = 0; frames = []; rest = l }

-- one line more, in front
abbrev pub line_then : ℕ → List ℕ → Lines → Lines
line_then w l k = record { count = suc k.count; frames = bytes w l ++ k.frames; rest = k.rest }

-- the lines that stand here in a row, `most` at most
unfoldable pub lines : ℕ → ℕ → List ℕ → Lines
lines w zero l = no_lines l
lines w (suc most) l = cond (ltb 0 (line_size w l)) (line_then w l (lines w most (drop (line_size w l) l))) (no_lines l)

-- what counting the lines of a text gives
pub record LinesAt (w : ℕ) (text : List ℕ) (most : ℕ) (r : Counted) : Type 0 where
  pub count : r.count ≡ (lines w most text).count
  pub rest : r.rest.now ≡ (lines w most text).rest
