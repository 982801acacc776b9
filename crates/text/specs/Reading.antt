-- What a text reads to: its form, and a refusal or the bytes of a sheet and of a script. Assumes nothing.
use Rattle.std.specs.Prelude.{Result, Ok, Err, ℕ, suc, ◌*◌, ◌≤◌, Bool, cond, ◌||◌, List, [], ◌++◌, ◌≡◌, eqb, ltb, length, drop}
use Rattle.form.specs.Form.{form_of, frame_bytes, most_frames}
use Rattle.form.specs.declared.Form.{Form}
use Rattle.form.specs.declared.Form.TheVariants.{Narrow, Wide}
use Rattle.sheet.specs.Refusal as Number
use Rattle.sheet.specs.Told.{number_of}
use Rattle.sheet.specs.declared.refusal.Fault.{Fault}
use Rattle.text.specs.Line.{Lines, lines, line_size, ending}
use Rattle.text.specs.declared.Parsed.{Parsed}
use Rattle.text.specs.declared.Unread.{Unread}
use Rattle.text.specs.declared.layout.Layout.{Layout}

-- the most frames of a script, and the bytes of each, in either form
abbrev pub script_frames : ℕ
script_frames = 1000

abbrev pub script_frame_bytes : ℕ
script_frame_bytes = 4

-- the least lengths of the buffers, for either form: 3,000 wide frames, and the longest script
abbrev pub sheet_room : ℕ
sheet_room = 21000

abbrev pub script_room : ℕ
script_room = script_frames * script_frame_bytes

-- the refusals' numbers, as they stand for all crates
abbrev pub malformed : ℕ
malformed = Number.text_shape

abbrev pub long_sheet : ℕ
long_sheet = Number.sheet_too_long

abbrev pub long_script : ℕ
long_script = Number.script_too_long

abbrev pub no_room : ℕ
no_room = Number.no_room

abbrev pub other_form : ℕ
other_form = Number.other_form

-- the text's form, a refusal's number or 0, and the bytes of the two parts
pub record Reading : Type 0 where
  pub form : Form
  pub refusal : ℕ
  pub sheet : List ℕ
  pub script : List ℕ

abbrev pub refused : Form → ℕ → Reading
refused F n = record { form = F; refusal = n; sheet = []; script = [] }

abbrev pub accepted : Form → Lines → Lines → Reading
accepted F sheet script = record { form = F; refusal = 0; sheet = sheet.frames; script = script.frames }

-- a text is wide exactly if it begins with an ended line of fourteen digits
unfoldable pub begins_wide : List ℕ → Bool
begins_wide text = ltb 0 (line_size (frame_bytes Wide) text)

abbrev pub text_form : List ℕ → Form
text_form text = form_of (begins_wide text)

abbrev pub other : Form → Form
other Narrow = Wide
other Wide = Narrow

-- the fault where neither one more line of the sheet nor the empty line stands: an ended line of the other form, or anything else
unfoldable pub sheet_fault : Form → List ℕ → ℕ
sheet_fault F l = cond (ltb 0 (line_size (frame_bytes (other F)) l)) other_form malformed

-- The script's lines, counted to one too many. The line behind them is no line of eight digits: a fault, unless the text ends there
abbrev pub read_script : Form → Lines → Lines → Reading
read_script F sheet script =
    cond (ltb script_frames script.count) (refused F long_script)
    (cond (ltb 0 (length script.rest)) (refused F malformed) (accepted F sheet script))

-- The sheet's lines, counted to one too many. The line behind them is no line of the form: a fault, told by `fault`, unless it is the empty line
abbrev pub read_sheet : Form → (List ℕ → ℕ) → Lines → Reading
read_sheet F fault sheet =
    cond (ltb (most_frames F) sheet.count) (refused F long_sheet)
    (cond (eqb (ending sheet.rest) 0) (refused F (fault sheet.rest))
    (read_script F sheet (lines script_frame_bytes (suc script_frames) (drop (ending sheet.rest) sheet.rest))))

-- a text of a form: the sheet's lines, the empty line, the script's lines
unfoldable pub reading_in : Form → List ℕ → Reading
reading_in F text = read_sheet F (sheet_fault F) (lines (frame_bytes F) (suc (most_frames F)) text)

-- a text, by its form
unfoldable pub reading : List ℕ → Reading
reading text = reading_in (text_form text) text

-- the same into two buffers of these lengths, which come before the text and its form
unfoldable pub read_into : ℕ → ℕ → List ℕ → Reading
read_into sheet script text =
    cond (ltb sheet sheet_room || ltb script script_room) (refused Narrow no_room) (reading text)

-- bytes written from a buffer's start, with what stood behind them
abbrev pub written_over : List ℕ → List ℕ → List ℕ
written_over written buffer = written ++ drop (length written) buffer

-- where an accepted text of a form has its parts: how many lines the sheet has, what is left of the text behind the empty line, and how many lines the script has
pub record Parts (F : Form) (text : List ℕ) (sheet : ℕ) (behind : List ℕ) (script : ℕ) : Type 0 where
  pub accepts : reading_in F text ≡ accepted F (lines (frame_bytes F) sheet text) (lines script_frame_bytes script behind)
  pub sheet-lines : (lines (frame_bytes F) sheet text).count ≡ sheet
  pub script_lines : (lines script_frame_bytes script behind).count ≡ script
  pub sheet-most : sheet ≤ most_frames F
  pub script_most : script ≤ script_frames

-- what going through a text of a form finds
abbrev pub Scanned : Form → List ℕ → Result Layout Fault → Type 0
Scanned F text (Err f) = reading_in F text ≡ refused F (number_of f)
Scanned F text (Ok at) = Parts F text at.sheet at.behind.now at.script

-- ---- what reading a text gives, by what is told of it: its form, the number of why it is refused or 0, and how many bytes of the two parts it wrote

abbrev pub form_told : Result Parsed Unread → Form
form_told (Ok p) = p.form
form_told (Err u) = u.form

abbrev pub refusal_told : Result Parsed Unread → ℕ
refusal_told (Ok p) = 0
refusal_told (Err u) = number_of u.fault

abbrev pub sheet_told : Result Parsed Unread → ℕ
sheet_told (Ok p) = p.sheet
sheet_told (Err u) = 0

abbrev pub script_told : Result Parsed Unread → ℕ
script_told (Ok p) = p.script
script_told (Err u) = 0

-- what reading a text leaves: the answer r, and the two buffers, that were sheet and script before
pub record Read (text sheet script : List ℕ) (r : Result Parsed Unread) (sheet' script' : List ℕ) : Type 0 where
  pub form : form_told r ≡ (read_into (length sheet) (length script) text).form
  pub refusal : refusal_told r ≡ (read_into (length sheet) (length script) text).refusal
  pub sheet-length : sheet_told r ≡ length (read_into (length sheet) (length script) text).sheet
  pub script_length : script_told r ≡ length (read_into (length sheet) (length script) text).script
  pub sheet-bytes : sheet' ≡ written_over (read_into (length sheet) (length script) text).sheet sheet
  pub script_bytes : script' ≡ written_over (read_into (length sheet) (length script) text).script script
  pub sheet-fits : sheet_told r ≤ sheet_room
  pub script-fits : script_told r ≤ script_room
