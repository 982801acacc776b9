-- Answers as text, of either form. Assumes nothing.
use Rattle.std.specs.Prelude.{ℕ, ◌+◌, ◌*◌, ◌/◌, ◌≤◌, min, List, ◌∷◌, ◌≡◌, length}
use Rattle.words.specs.Bytes.{bytes_of}
use Rattle.form.specs.Form.{frame_bytes, word_bytes, answer_bytes}
use Rattle.form.specs.declared.Form.{Form}
use Rattle.text.specs.Hex.{hex_line, hex_lines}
use Rattle.text.specs.Reading.{written_over}

-- the line of an answer: its number, V and the word's bytes
unfoldable pub answer_line : Form → ℕ → ℕ → ℕ → List ℕ
answer_line F number v word = hex_line (number ∷ v ∷ bytes_of (word_bytes F) word)

-- the line of w bytes has two digits for each, and a line's end
abbrev pub line_bytes : ℕ → ℕ
line_bytes w = 2 * w + 1

abbrev pub answer_line_bytes : Form → ℕ
answer_line_bytes F = line_bytes (answer_bytes F)

-- the lines of the first n answers
abbrev pub answer_lines : Form → ℕ → List ℕ → List ℕ
answer_lines F n l = hex_lines (answer_bytes F) n l

-- how many whole records of w bytes there are, and lines there is room for
abbrev pub with_room : ℕ → List ℕ → List ℕ → ℕ
with_room w records out = min (length records / w) (length out / line_bytes w)

-- what writing the lines of records leaves: the count of bytes r, and the buffer, that was out before
pub record WroteLines (w : ℕ) (records out : List ℕ) (r : ℕ) (out' : List ℕ) : Type 0 where
  pub count : r ≡ with_room w records out * line_bytes w
  pub bytes : out' ≡ written_over (hex_lines w (with_room w records out) records) out
  pub fits : r ≤ length out

-- of answers, and of a sheet's frames
abbrev pub Wrote : Form → List ℕ → List ℕ → ℕ → List ℕ → Type 0
Wrote F = WroteLines (answer_bytes F)

abbrev pub WroteFrames : Form → List ℕ → List ℕ → ℕ → List ℕ → Type 0
WroteFrames F = WroteLines (frame_bytes F)
