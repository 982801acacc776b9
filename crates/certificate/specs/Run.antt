-- What a run is refused for, and the contract of `run` for all inputs. Assumes nothing.
use Rattle.std.specs.Prelude.{ℕ, ◌+◌, ◌*◌, ◌%◌, ◌<◌, ◌≡◌, false, not, List, [], ◌∷◌, ◌++◌, length, get_or, drop, eqb, ltb}
use Rattle.sheet.specs.Refusal as Number
use Rattle.sheet.specs.Cause.{Cause, Refusal, first}
use Rattle.form.specs.Form.{answer_start}
use Rattle.form.specs.declared.Form.{Form}
use Rattle.sheet.specs.Fields.{Sheet}
use Rattle.sheet.specs.Rules.{cause, size_causes, frame_causes}
use Rattle.solver.specs.Contract.{verdict_of, TablesGrown, Promised}
use Rattle.model.specs.declared.Entry.{Entry}
use Rattle.session.specs.Sound.{sheet_meaning}
use Rattle.session.specs.Step.{searches}
use Rattle.model.specs.Model.{Meaning, entered_mask, entered_values, ASK, lines, after, answer_at, answers}

-- ---- refusals

abbrev pub most_lines : ℕ
most_lines = 1000

unfoldable pub script_causes : List ℕ → List Cause
script_causes s = cause (not (eqb (length s % 4) 0)) Number.not_whole 0 ∷ (cause (ltb most_lines (lines s)) Number.script_too_long 0 ∷ [])

-- of an answer buffer of that many bytes
unfoldable pub room_causes : Form → List ℕ → ℕ → List Cause
room_causes F s bytes = cause (ltb bytes (answer_start F (lines s))) Number.no_room 0 ∷ []

-- document 01's order: the sheet's size, the script's, the room, and only then the sheet's frames
abbrev pub causes : Sheet → List ℕ → ℕ → List Cause
causes sheet script bytes = size_causes sheet ++ (script_causes script ++ (room_causes sheet.form script bytes ++ frame_causes sheet))

abbrev pub refusal : Sheet → List ℕ → ℕ → Refusal
refusal sheet script bytes = first (causes sheet script bytes)

-- ---- what a line of the script means

-- what the reference model takes from a sheet: the meaning of its last frame, with the sheet's gauges
abbrev pub book : Sheet → Meaning
book sheet = sheet_meaning sheet

-- the entries that stand before line i of the script
abbrev pub before : Sheet → List ℕ → ℕ → List Entry
before sheet script i = after (book sheet) [] script i

-- the kind of line i
abbrev pub kind_at : List ℕ → ℕ → ℕ
kind_at script i = get_or script (i * 4) 0

-- line i of the script is of the kind k, and is not refused
pub record Taken (k : ℕ) (sheet : Sheet) (script : List ℕ) (i : ℕ) : Type 0 where
  pub line : i < lines script
  pub kind : kind_at script i ≡ k
  pub taken : (answer_at (book sheet) [] script i).number ≡ 0

abbrev pub Asked : Sheet → List ℕ → ℕ → Type 0
Asked sheet script i = Taken ASK sheet script i

-- ---- the records in the course of a run

-- both tables, and how many records of each count
pub record Held : Type 0 where
  pub under : List ℕ
  pub cu : ℕ
  pub over : List ℕ
  pub co : ℕ

-- as they are lent: nothing that a table holds counts
abbrev pub as_lent : List ℕ → List ℕ → Held
as_lent under over = record { under = under; cu = 0; over = over; co = 0 }

-- every counted record is true, those that were counted stay, and the numbers behind the counts are as found
abbrev pub Grows : Sheet → Held → Held → Type 0
Grows sheet h h' = TablesGrown sheet h.under h.cu h.over h.co h'.under h'.cu h'.over h'.co

-- document 01's promise for line i: the table concerned is full, or a counted record is the one that the verdict calls for
abbrev pub Promised-at : Sheet → List ℕ → ℕ → Held → Type 0
Promised-at sheet script i h =
    let es = before sheet script i in
    Promised sheet (entered_mask es) (entered_values es) (verdict_of sheet (entered_mask es) (entered_values es)) h.under h.cu h.over h.co

-- what line i makes of the records h before it: h' after it
pub record LineRecords (sheet : Sheet) (script : List ℕ) (i : ℕ) (h h' : Held) : Type 0 where
  pub grows : Grows sheet h h'
  -- a refused line changes nothing, and neither do ENTER, TAKE BACK and READ
  pub refused : 0 < (answer_at (book sheet) [] script i).number → h' ≡ h
  pub quiet : searches (kind_at script i) ≡ false → h' ≡ h
  -- an ASK that is answered leaves its record, then and there
  pub promised : Asked sheet script i → Promised-at sheet script i h'

-- How the records go through the first n lines, from h to h'. Which records an ASK or a WHY keeps, and how many, is the program's choice.
pub record History (sheet : Sheet) (script : List ℕ) (n : ℕ) (h h' : Held) : Type 0 where
  -- before line i, which is after line i - 1
  pub records : ℕ → Held
  pub starts : records 0 ≡ h
  pub each : (i : ℕ) → i < n → LineRecords sheet script i (records i) (records (i + 1))
  pub ends : records n ≡ h'

-- ---- the contract

-- What run tells and leaves in the buffers, as far as it has no choice. At entry and, primed, at exit; cu and co are the two record counts.
pub record Answers (sheet : Sheet) (script ans under over ans' under' over' : List ℕ) (number place cu co : ℕ) : Type 0 where
  pub number_is : number ≡ (refusal sheet script (length ans)).number
  pub place_is : place ≡ (refusal sheet script (length ans)).place
  -- refused: everything as at entry, and no records
  pub untouched : 0 < number → (ans' ≡ ans) × (under' ≡ under) × (over' ≡ over) × (cu ≡ 0) × (co ≡ 0)
  -- accepted: the reference model's bytes, then what was behind them
  pub written : number ≡ 0 → ans' ≡ answers sheet.form (book sheet) script ++ drop (answer_start sheet.form (lines script)) ans

-- what the records of an accepted run have in common: a history from the tables as lent to the tables at exit
abbrev pub Records : Sheet → List ℕ → List ℕ → List ℕ → List ℕ → List ℕ → ℕ → ℕ → Type 0
Records sheet script under over under' over' cu co =
    History sheet script (lines script) (as_lent under over) (record { under = under'; cu = cu; over = over'; co = co })

pub record Run (sheet : Sheet) (script ans under over ans' under' over' : List ℕ) (number place cu co : ℕ) : Type 0 where
  pub answered : Answers sheet script ans under over ans' under' over' number place cu co
  pub recorded : number ≡ 0 → Records sheet script under over under' over' cu co
