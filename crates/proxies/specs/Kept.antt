-- What records say of a quantifier under a full candidate, what a search of its body shows, and what is kept of it. Assumes nothing.
use Rattle.std.specs.Prelude.{ℕ, ◌-◌, ◌%◌, ◌<◌, ◌≡◌, Bool, true, false, ◌⊎◌, List}
use Rattle.words.specs.Mask.{without}
use Rattle.form.specs.Form.{word_end}
use Rattle.form.specs.declared.Form.{Form}
use Rattle.records.specs.Table.{matches, mask_at, Kept}
use Rattle.net.specs.Layout.{net_form, changed, decides}

-- every variable of a record, as a mask
abbrev pub all : Form → ℕ
all F = word_end F - 1

-- the part of a word that a record speaks of
abbrev pub low_word : Form → ℕ → ℕ
low_word F w = w % word_end F

-- record j of t is counted, matches, and has the mask r
pub record RecordAt (F : Form) (t : List ℕ) (count frame w r : ℕ) : Type 0 where
  pub at : ℕ
  pub counted : at < count
  pub hit : matches F t frame (all F) (low_word F w) at ≡ true
  pub reason : r ≡ mask_at F t at

-- a value that a record gives: true from the under table, false from the over table
abbrev pub Recorded : Form → ℕ → ℕ → List ℕ → ℕ → List ℕ → ℕ → ℕ → ℕ → Type 0
Recorded F frame w u cu o co v r = 0 < v → ((v ≡ 2) × RecordAt F u cu frame w r) ⊎ ((v ≡ 1) × RecordAt F o co frame w r)

-- the same of node i of the net: no record speaks of one that is changed
pub record RecordedNode (net : List ℕ) (i w : ℕ) (u : List ℕ) (cu : ℕ) (o : List ℕ) (co v r : ℕ) : Type 0 where
  pub unchanged : 0 < v → changed net i ≡ false
  pub recorded : Recorded (net_form net) i w u cu o co v r

-- a quantifier's value v and reason r, from what the search of its body found
pub record Shown (op mask : ℕ) (found : Bool) (reason v r : ℕ) : Type 0 where
  pub some : 0 < v
  pub low : v < 3
  pub met : found ≡ true → (v ≡ decides op) × (r ≡ without reason mask)
  pub missed : found ≡ false → (v ≡ 3 - decides op) × (r ≡ reason)

-- source 000's postcondition, that the candidate is a model of U or of not O: the table concerned is full, or a record of it agrees
pub record Noted (F : Form) (frame v w : ℕ) (u : List ℕ) (cu : ℕ) (o : List ℕ) (co : ℕ) : Type 0 where
  pub under : v ≡ 2 → Kept F u cu frame (all F) (low_word F w)
  pub over : v ≡ 1 → Kept F o co frame (all F) (low_word F w)
