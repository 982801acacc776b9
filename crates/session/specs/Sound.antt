-- What a session holds, and what is always so of it: on a checked sheet, with entries that may stand together and tables of true records. Assumes nothing.
use Rattle.std.specs.Prelude.{ℕ, ◌≤◌, ◌<◌, ◌≡◌, false, List, length, take}
use Rattle.sheet.specs.Fields.{Sheet, variables}
use Rattle.sheet.specs.Rules.{gauges}
use Rattle.net.specs.Layout.{free_of}
use Rattle.net.specs.Sheet.{NetOf}
pub use Rattle.net.specs.Sheet.{Checked}
use Rattle.solver.specs.Contract.{root, Tables}
use Rattle.model.specs.declared.Entry.{Entry}
use Rattle.session.specs.declared.Session.{Session}
use Rattle.model.specs.Model.{Meaning, meaning, entered}
use Rattle.model.specs.Entries.{Entered, Words, entry_at}

-- the entries that stand, oldest first
abbrev pub standing_of : Session → List Entry
standing_of x = take x.len x.entries

-- the cube that the session keeps is that of the entries that stand
abbrev pub WordsKept : Session → Type 0
WordsKept x = Words (standing_of x) x.entered.mask x.entered.values

-- what the reference model takes from a sheet: the meaning of its last frame, with the sheet's gauges
abbrev pub sheet_meaning : Sheet → Meaning
sheet_meaning s = meaning (variables s) (root s) (gauges s)

-- the array has its length, and as many entries stand as there are variables at most, each of one that no earlier entry has; their words are kept
pub record Shaped (x : Session) : Type 0 where
  pub cells : length x.entries ≡ 64
  pub within : x.len ≤ 64
  pub low : (i : ℕ) → i < x.len → (entry_at x.entries i).variable < 64
  pub fresh : (i : ℕ) → i < x.len → entered (take i x.entries) (entry_at x.entries i).variable ≡ false
  pub words : WordsKept x

-- v is a variable, and no entry of it stands
pub record Fresh (x : Session) (v : ℕ) : Type 0 where
  pub low : v < 64
  pub absent : entered (standing_of x) v ≡ false

-- s with free is checked; entries are of open variables, distinct, and valued 0 or 1, and their words are kept; the counted records are within the
-- tables u and o, and true
pub record Sound (s : Sheet) (free : ℕ) (x : Session) (u o : List ℕ) : Type 0 where
  pub sheet : Checked s free
  pub cells : length x.entries ≡ 64
  pub within : x.len ≤ 64
  pub entered : Entered (sheet_meaning s) (standing_of x)
  pub words : WordsKept x
  pub tables : Tables s u x.kept.under o x.kept.over

-- ---- on the sheet's net

-- a line is lent the net of the sheet, and the sheet's free variables stand in it
pub record OnNet (s : Sheet) (net : List ℕ) (x : Session) (u o : List ℕ) : Type 0 where
  pub net_of : NetOf s net
  pub sound : Sound s (free_of net) x u o

-- ---- no entry, and no record

pub record Empty (x : Session) : Type 0 where
  pub cells : length x.entries ≡ 64
  pub none : x.len ≡ 0
  pub mask : x.entered.mask ≡ 0
  pub values : x.entered.values ≡ 0
  pub under : x.kept.under ≡ 0
  pub over : x.kept.over ≡ 0
