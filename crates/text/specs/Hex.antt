-- Hexadecimal digits as the text has them: what a byte is worth as a digit, and which byte a digit is written as. Assumes nothing.
use Rattle.std.specs.Prelude.{ℕ, zero, suc, ◌+◌, ◌-◌, ◌/◌, ◌%◌, Bool, cond, ◌&&◌, List, [], ◌∷◌, ◌++◌, leb, ltb, take, drop}

-- the value of a digit 0-9, A-F or a-f, and 16 for a byte that is no digit
unfoldable pub digit_value : ℕ → ℕ
digit_value b =
    cond (leb 48 b && leb b 57) (b - 48) (cond (leb 65 b && leb b 70) (b - 55) (cond (leb 97 b && leb b 102) (b - 87) 16))

-- whether a byte is a digit
abbrev pub is_digit : ℕ → Bool
is_digit b = ltb (digit_value b) 16

-- the byte that a digit of this value is written as, in capitals
unfoldable pub digit_byte : ℕ → ℕ
digit_byte d = cond (ltb d 10) (d + 48) (d + 55)

-- byte 0A, which ends a line that is written
abbrev pub line_feed : ℕ
line_feed = 10

-- byte 0D, which may stand before the 0A of a line that is read
abbrev pub carriage_return : ℕ
carriage_return = 13

-- a line that is written: two digits for each byte, the high one first, and 0A
unfoldable pub hex_line : List ℕ → List ℕ
hex_line [] = line_feed ∷ []
hex_line (b ∷ bs) = digit_byte (b / 16) ∷ digit_byte (b % 16) ∷ hex_line bs

-- the lines of n records of w bytes each
unfoldable pub hex_lines : ℕ → ℕ → List ℕ → List ℕ
hex_lines w zero l = []
hex_lines w (suc n) l = hex_line (take w l) ++ hex_lines w n (drop w l)
