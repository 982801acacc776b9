-- The contract of one script line: what it answers, which entries stand then, and what it leaves of the tables. Assumes nothing.
use Rattle.std.specs.Prelude.{ℕ, ◌≤◌, ◌<◌, ◌≡◌, Bool, false, ◌||◌, List, length, eqb}
use Rattle.formula.specs.Ask.{Verdict}
use Rattle.sheet.specs.Fields.{Sheet}
use Rattle.solver.specs.Contract.{verdict_of, reason_of, TablesGrown, Promised}
use Rattle.model.specs.declared.Entry.{Entry}
use Rattle.session.specs.declared.Session.{Session}
use Rattle.model.specs.Model.{Answer, Reply, judged, entered_mask, entered_values, ASK, WHY, line}
use Rattle.session.specs.Sound.{standing_of, WordsKept, sheet_meaning, Sound}

-- what ASK and WHY say of a sheet where the entries es stand
abbrev pub ask_of : Sheet → List Entry → Verdict
ask_of s es = verdict_of s (entered_mask es) (entered_values es)

abbrev pub why_of : Sheet → List Entry → Verdict
why_of s es = reason_of s (entered_mask es) (entered_values es)

-- document 01's promise after an ASK
abbrev pub PromisedFor : Sheet → List Entry → List ℕ → ℕ → List ℕ → ℕ → Type 0
PromisedFor s es u cu o co = Promised s (entered_mask es) (entered_values es) (ask_of s es) u cu o co

-- an answer's number, V and word
pub record Tells (a : Answer) (number v word : ℕ) : Type 0 where
  pub number_is : number ≡ a.number
  pub v-is : v ≡ a.v
  pub word-is : word ≡ a.word

-- x' has the entries es standing and keeps their words, and counts the records that x counts
pub record Moved (x x' : Session) (es : List Entry) : Type 0 where
  pub cells : length x'.entries ≡ 64
  pub within : x'.len ≤ 64
  pub stands : standing_of x' ≡ es
  pub words : WordsKept x'
  pub kept : x'.kept ≡ x.kept

-- a line that looks at no record: its answer, and the session after it
pub record Replies (x : Session) (y : Reply) (x' : Session) (number v word : ℕ) : Type 0 where
  pub tells : Tells y.answer number v word
  pub moved : Moved x x' y.entries

-- x' has the entries of x and their words, and counts cu and co records
pub record Recounted (x : Session) (cu co : ℕ) (x' : Session) : Type 0 where
  pub entries : x'.entries ≡ x.entries
  pub len : x'.len ≡ x.len
  pub entered : x'.entered ≡ x.entered
  pub under : x'.kept.under ≡ cu
  pub over : x'.kept.over ≡ co

-- a line that searches: the verdict it tells, and the session and the tables after it
pub record Searches (s : Sheet) (x : Session) (u o : List ℕ) (a : Verdict) (x' : Session) (u' o' : List ℕ) (number v word : ℕ) : Type 0 where
  pub tells : Tells (judged a) number v word
  pub entries : x'.entries ≡ x.entries
  pub len : x'.len ≡ x.len
  pub entered : x'.entered ≡ x.entered
  pub kept : TablesGrown s u x.kept.under o x.kept.over u' x'.kept.under o' x'.kept.over

-- the tables and the counts are as they were
pub record Untouched (x : Session) (u o : List ℕ) (x' : Session) (u' o' : List ℕ) : Type 0 where
  pub under : u' ≡ u
  pub over : o' ≡ o
  pub under-count : x'.kept.under ≡ x.kept.under
  pub over-count : x'.kept.over ≡ x.kept.over

-- kinds that may keep records
abbrev pub searches : ℕ → Bool
searches k = eqb k ASK || eqb k WHY

-- The line k a b c on the sheet s, whose free variables are free: session and tables at entry and, primed, at exit, and the answer.
pub record Step (s : Sheet) (free : ℕ) (x : Session) (u o : List ℕ) (k a b c : ℕ) (x' : Session) (u' o' : List ℕ) (number v word : ℕ) : Type 0 where
  -- the answer, and the entries that stand after it, are the reference model's
  pub tells : Tells (line (sheet_meaning s) (standing_of x) k a b c).answer number v word
  pub stands : standing_of x' ≡ (line (sheet_meaning s) (standing_of x) k a b c).entries
  pub sound : Sound s free x' u' o'
  -- every counted record is true, those that were counted stay, and the numbers behind the counts are as found
  pub kept : TablesGrown s u x.kept.under o x.kept.over u' x'.kept.under o' x'.kept.over
  -- a refused line changes no record, and neither do ENTER, TAKE BACK and READ
  pub refused-same : 0 < number → Untouched x u o x' u' o'
  pub quiet_same : searches k ≡ false → Untouched x u o x' u' o'
  -- document 01's promise for an ASK
  pub promised : number ≡ 0 → k ≡ ASK → PromisedFor s (standing_of x) u' x'.kept.under o' x'.kept.over
