-- Which texts there are, apart from how they are read: digits in either case, lines with either ending, a text's form and its two parts. Each says of a
-- text what stands at its start, and what is left behind it. Assumes nothing.
use Rattle.std.specs.Prelude.{ℕ, zero, suc, ◌+◌, ◌/◌, ◌%◌, ◌≤◌, ◌<◌, cond, List, [], ◌∷◌, ◌++◌, ◌≡◌, ltb, length, get_or}
use Rattle.text.specs.Hex.{digit_byte, line_feed, carriage_return}
use Rattle.form.specs.Form.{frame_bytes, most_frames}
use Rattle.form.specs.declared.Form.{Form}
use Rattle.form.specs.declared.Form.TheVariants.{Narrow, Wide}
use Rattle.text.specs.Reading.{script_frames, script_frame_bytes, malformed, long_sheet, long_script, other_form, other, Reading, refused}

-- the byte of a digit of this value in lower case
unfoldable pub lower_byte : ℕ → ℕ
lower_byte d = cond (ltb d 10) (d + 48) (d + 87)

-- a byte that is a digit of the value d
pub data DigitOf (d : ℕ) : ℕ → Type 0 where
  capital : DigitOf d (digit_byte d)
  lower : DigitOf d (lower_byte d)

-- two digits for each of the bytes, the high one first
pub data DigitsOf : List ℕ → List ℕ → List ℕ → Type 0 where
  no-digits : {rest : List ℕ} → DigitsOf [] rest rest
  byte : {b high low : ℕ} {bytes text rest : List ℕ} → b < 256 → DigitOf (b / 16) high → DigitOf (b % 16) low → DigitsOf bytes text rest
      → DigitsOf (b ∷ bytes) (high ∷ low ∷ text) rest

-- the end of a line: 0A or 0D 0A
pub data EndOf : List ℕ → List ℕ → Type 0 where
  feed : {rest : List ℕ} → EndOf (line_feed ∷ rest) rest
  return_feed : {rest : List ℕ} → EndOf (carriage_return ∷ line_feed ∷ rest) rest

-- the line of a frame of w bytes
pub record LineOf (w : ℕ) (frame text rest : List ℕ) : Type 0 where
  pub whole : length frame ≡ w
  pub end : List ℕ
  pub digits : DigitsOf frame text end
  pub ended : EndOf end rest

-- the lines of n such frames
pub data LinesOf (w : ℕ) : ℕ → List ℕ → List ℕ → List ℕ → Type 0 where
  no_lines_lem : {rest : List ℕ} → LinesOf w zero [] rest rest
  line : {n : ℕ} {frame frames text behind rest : List ℕ} → LineOf w frame text behind → LinesOf w n frames behind rest → LinesOf w (suc n) (frame ++ frames) text rest

-- no line of w bytes and no line's end stand here
abbrev pub NoLine : ℕ → List ℕ → Type 0
NoLine w text = (frame rest : List ℕ) → LineOf w frame text rest → ⊥

abbrev pub NoEnd : List ℕ → Type 0
NoEnd text = (rest : List ℕ) → EndOf text rest → ⊥

-- A text is wide if it begins with a line of fourteen digits, and else narrow.
pub data HasForm (text : List ℕ) : Form → Type 0 where
  begins-wide : {frame rest : List ℕ} → LineOf (frame_bytes Wide) frame text rest → HasForm text Wide
  else_narrow : NoLine (frame_bytes Wide) text → HasForm text Narrow

-- the lines of at most so many frames
pub record Part (w most : ℕ) (frames text rest : List ℕ) : Type 0 where
  pub count : ℕ
  pub lines : LinesOf w count frames text rest
  pub few : count ≤ most

-- the lines of a sheet of the form, and those of a script, which are the same in both forms
abbrev pub SheetPart : Form → List ℕ → List ℕ → List ℕ → Type 0
SheetPart F = Part (frame_bytes F) (most_frames F)

abbrev pub ScriptPart : List ℕ → List ℕ → List ℕ → Type 0
ScriptPart = Part script_frame_bytes script_frames

-- a sheet's lines and the empty line
pub record Headed (F : Form) (sheet text rest : List ℕ) : Type 0 where
  pub behind : List ℕ
  pub part : SheetPart F sheet text behind
  pub empty_line : EndOf behind rest

-- a text of a sheet and a script: the sheet's lines, the empty line, the script's lines, and nothing behind them
pub record TextOf (F : Form) (sheet script text : List ℕ) : Type 0 where
  pub form : HasForm text F
  pub behind : List ℕ
  pub head : Headed F sheet text behind
  pub part : ScriptPart script behind []

-- What a text of a form gives, by what it is: the first fault is told, and the shape of a line before the count of lines.
pub data GivesIn (F : Form) (text : List ℕ) : Reading → Type 0 where
  reads : {sheet script : List ℕ} → TextOf F sheet script text → GivesIn F text (record { form = F; refusal = 0; sheet = sheet; script = script })
  -- a well-shaped line too many, whatever stands behind it
  long-sheet : {sheet rest : List ℕ} → LinesOf (frame_bytes F) (suc (most_frames F)) sheet text rest → GivesIn F text (refused F long_sheet)
  long-script : {sheet script behind rest : List ℕ} → Headed F sheet text behind → LinesOf script_frame_bytes (suc script_frames) script behind rest → GivesIn F text (refused F long_script)
  -- behind the sheet's lines, behind the last that there may be too, a line of the other form
  other-sheet : {sheet frame rest behind : List ℕ} → SheetPart F sheet text rest → LineOf (frame_bytes (other F)) frame rest behind → GivesIn F text (refused F other_form)
  -- behind the sheet's lines neither a line nor the empty line; behind the script's lines something that is no line, a second empty line too
  bad_sheet : {sheet rest : List ℕ} → SheetPart F sheet text rest → NoLine (frame_bytes F) rest → NoLine (frame_bytes (other F)) rest → NoEnd rest → GivesIn F text (refused F malformed)
  bad_script : {sheet script behind rest : List ℕ} → Headed F sheet text behind → ScriptPart script behind rest → NoLine script_frame_bytes rest → 0 < length rest → GivesIn F text (refused F malformed)

-- What a text gives: its form is told of a refused text too.
pub record Gives (text : List ℕ) (r : Reading) : Type 0 where
  pub form : HasForm text r.form
  pub told : GivesIn r.form text r

-- each 0D of a text has a 0A right behind it
pub record Paired (text : List ℕ) : Type 0 where
  pub feed-behind : (i : ℕ) → get_or text i 0 ≡ carriage_return → get_or text (suc i) 0 ≡ line_feed
