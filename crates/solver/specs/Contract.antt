-- What asking a sheet needs and gives: the contracts of `ask` and `why`. Assumes nothing.
use Rattle.std.specs.Prelude.{ℕ, ◌+◌, ◌≡◌, Bool, true, false, List}
use Rattle.std.specs.Int.Bits.{bit_or}
use Rattle.words.specs.Mask.{Sub}
use Rattle.formula.specs.Ask.{Verdict, free_mask}
use Rattle.formula.specs.Gauges.{unread, ours, verdict, reason}
use Rattle.sheet.specs.Fields.{Sheet, frames, variables}
use Rattle.sheet.specs.Frames.{formula}
use Rattle.sheet.specs.Rules.{gauges}
use Rattle.records.specs.Table.{Kept}
use Rattle.records.specs.Both as Both
use Rattle.net.specs.Layout.{free_of}
use Rattle.net.specs.Sheet.{Checked, NetOf}
-- the number of the last frame, and the formula of the whole sheet
pub use Rattle.net.specs.Sheet.{last, root}

-- every counted record is true of its frame
abbrev pub Tables : Sheet → List ℕ → ℕ → List ℕ → ℕ → Type 0
Tables s u cu o co = Both.Tables s.form (formula s) (frames s) u cu o co

-- the tables at exit: true, with every record that was counted, and behind their counts as they were
abbrev pub TablesGrown : Sheet → List ℕ → ℕ → List ℕ → ℕ → List ℕ → ℕ → List ℕ → ℕ → Type 0
TablesGrown s u cu o co u' cu' o' co' = Both.TablesGrown s.form (formula s) (frames s) u cu o co u' cu' o' co'

-- a checked sheet and its net, entries among its free variables, and true tables
pub record Ready (s : Sheet) (net : List ℕ) (mask values : ℕ) (u : List ℕ) (cu : ℕ) (o : List ℕ) (co : ℕ) : Type 0 where
  pub checked : Checked s (free_of net)
  pub net_of : NetOf s net
  pub entered : Sub mask (free_of net)
  pub valued : Sub values mask
  pub tables : Tables s u cu o co

-- what ASK and WHY say of the sheet, where the variables of mask are entered with these values
abbrev pub verdict_of : Sheet → ℕ → ℕ → Verdict
verdict_of s mask values = verdict (variables s) (root s) (gauges s) mask values

abbrev pub reason_of : Sheet → ℕ → ℕ → Verdict
reason_of s mask values = reason (variables s) (root s) (gauges s) mask values

-- the gauges that are open and not entered
abbrev pub unread_of : Sheet → ℕ → ℕ
unread_of s mask = unread (variables s) (root s) (gauges s) mask

-- and the other free variables that are not entered
abbrev pub ours_of : Sheet → ℕ → ℕ
ours_of s mask = ours (variables s) (root s) (gauges s) mask

-- the promise after an ASK (document 01, with document 02's gauges): the table concerned is full, or holds a record of the last frame that agrees with the word (yes), or with the entries
-- and the gauges of the word and with a mask inside the entered variables and the unread gauges (no)
abbrev pub Promised : Sheet → ℕ → ℕ → Verdict → List ℕ → ℕ → List ℕ → ℕ → Type 0
Promised s mask values a u cu o co =
    (a.holds ≡ true → Kept s.form u cu (last s) (free_mask (variables s) (root s)) a.word)
    × (a.holds ≡ false → Kept s.form o co (last s) (bit_or mask (unread_of s mask)) (values + a.word))

-- an answer with its verdict v and word w is the one that the definitions give
pub record Same (a : Verdict) (v : Bool) (w : ℕ) : Type 0 where
  pub holds : v ≡ a.holds
  pub word : w ≡ a.word
