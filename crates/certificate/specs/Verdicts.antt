-- What a verdict and a reason say of the entries that stand, in terms of assignments. f is a sheet's formula over n variables, g the word of its gauges.
-- Assumes nothing.
use Rattle.std.specs.Prelude.{ℕ, ◌^◌, ◌≤◌, ◌<◌, ◌≡◌, Bool, cond, ◌&&◌, ◌↔◌, List}
use Rattle.std.proofs.Math.Bool.{true, false, not}
use Rattle.words.specs.Word.{bit}
use Rattle.words.specs.Mask.{Sub, without}
use Rattle.formula.specs.Assignment.{Assignment, On}
use Rattle.formula.specs.Formula.{Formula, truth, free}
use Rattle.formula.specs.Ask.{Verdict}
use Rattle.formula.specs.Gauges.{verdict}
use Rattle.sheet.specs.Fields.{Sheet, frames, kind}
use Rattle.sheet.specs.declared.Kind.TheVariants.{Gauge}
use Rattle.model.specs.declared.Entry.{Entry}
use Rattle.model.specs.Model.{entered_mask, entered_values, entered}
use Rattle.model.specs.Agree.{Agrees}

-- ---- ASK

-- k waits: it is an open (free) gauge that is not entered
abbrev pub waits : Formula → ℕ → List Entry → ℕ → Bool
waits f g es k = free f k && (bit g k && not (entered es k))

-- w has the waiting gauges at 0
abbrev pub AtRest : Formula → ℕ → List Entry → ℕ → Type 0
AtRest f g es w = (k : ℕ) → waits f g es k ≡ true → bit w k ≡ false

-- z is a setting of the waiting gauges: it marks nothing else
abbrev pub Setting : Formula → ℕ → List Entry → ℕ → Type 0
Setting f g es z = (k : ℕ) → bit z k ≡ true → waits f g es k ≡ true

-- w is the smallest word, of n variables, that agrees with the entries, makes f true, has 0 for variables not free (open) in f, and has the waiting gauges at 0
pub record Least (n : ℕ) (f : Formula) (g : ℕ) (es : List Entry) (w : ℕ) : Type 0 where
  pub below : w < 2 ^ n
  pub agrees : Agrees es (bit w)
  pub holds : truth f (bit w) ≡ true
  pub stays : (k : ℕ) → bit w k ≡ true → free f k ≡ true
  pub rests : AtRest f g es w
  pub least : (z : ℕ) → Agrees es (bit z) → truth f (bit z) ≡ true → AtRest f g es z → w ≤ z

-- w is the smallest setting of the waiting gauges that fails: no assignment that agrees with the entries and with it makes f true, and with each smaller
-- one some does
pub record Fails (f : Formula) (g : ℕ) (es : List Entry) (w : ℕ) : Type 0 where
  pub setting : Setting f g es w
  pub never : (σ : Assignment) → Agrees es σ → On (waits f g es) σ (bit w) → truth f σ ≡ false
  pub least : (z : ℕ) → Setting f g es z → z < w → (σ : Assignment) × Agrees es σ × On (waits f g es) σ (bit z) × (truth f σ ≡ true)

-- what ASK's verdict says of f and the entries
pub record Decides (n : ℕ) (f : Formula) (g : ℕ) (es : List Entry) (a : Verdict) : Type 0 where
  -- yes exactly if, for every assignment that agrees with the entries, some assignment with the same waiting gauges agrees with them and makes f true
  pub exactly : (a.holds ≡ true) ↔ ((σ : Assignment) → Agrees es σ → (τ : Assignment) × Agrees es τ × On (waits f g es) τ σ × (truth f τ ≡ true))
  -- on yes the word is the smallest with the waiting gauges at 0, on no it holds their smallest failing setting and nothing else
  pub smallest : a.holds ≡ true → Least n f g es a.word
  pub failing : a.holds ≡ false → Fails f g es a.word

-- ---- ASK as document 01 has it, where every variable that is not entered is chosen

-- w is the smallest word, of n variables, that agrees with the entries, makes f true, and has 0 for variables not free (open) in f
pub record LeastChoice (n : ℕ) (f : Formula) (es : List Entry) (w : ℕ) : Type 0 where
  pub below : w < 2 ^ n
  pub agrees : Agrees es (bit w)
  pub holds : truth f (bit w) ≡ true
  pub stays : (k : ℕ) → bit w k ≡ true → free f k ≡ true
  pub least : (z : ℕ) → Agrees es (bit z) → truth f (bit z) ≡ true → w ≤ z

-- what ASK's verdict says there
pub record Chooses (n : ℕ) (f : Formula) (es : List Entry) (a : Verdict) : Type 0 where
  -- yes exactly if some assignment that agrees with the entries makes f true
  pub exactly : (a.holds ≡ true) ↔ ((σ : Assignment) × Agrees es σ × (truth f σ ≡ true))
  -- on yes the word is the smallest, on no it is 0
  pub smallest : a.holds ≡ true → LeastChoice n f es a.word
  pub none : a.holds ≡ false → a.word ≡ 0

-- ---- WHY

-- the values that a reason goes by: ASK's word on yes, the entries' on no
abbrev pub reason_values : List Entry → Verdict → ℕ
reason_values es a = cond a.holds a.word (entered_values es)

-- what WHY's answer r says of f and the entries, on a sheet without a frame of kind 07, where ASK's is a; its word is a mask of variables
pub record Reason (f : Formula) (es : List Entry) (a r : Verdict) : Type 0 where
  -- the verdict is ASK's
  pub same : r.holds ≡ a.holds
  -- its variables are free (open), and on no they are entered ones
  pub opened : (k : ℕ) → bit r.word k ≡ true → free f k ≡ true
  pub among : a.holds ≡ false → (k : ℕ) → bit r.word k ≡ true → entered es k ≡ true
  -- all assignments that agree with the values on the mask give f the verdict's truth
  pub forces : (σ : Assignment) → On (bit r.word) σ (bit (reason_values es a)) → truth f σ ≡ a.holds
  -- no variable is idle: with any one taken out, some agreeing assignment gives f the other truth
  pub needed : (k : ℕ) → bit r.word k ≡ true → (σ : Assignment) × On (bit (without r.word (2 ^ k))) σ (bit (reason_values es a)) × (truth f σ ≡ not a.holds)

-- some frame of the sheet is of kind 07, reached or not
abbrev pub Gauged : Sheet → Type 0
Gauged sheet = (j : ℕ) × (x : ℕ) × (j < frames sheet) × (kind sheet j ≡ Gauge x)

-- y has values of the variables that es enters, and on those of the mask m the values that were entered
pub record Revalued (es : List Entry) (m y : ℕ) : Type 0 where
  pub inside : Sub y (entered_mask es)
  pub agrees : On (bit m) (bit y) (bit (entered_values es))

-- the verdict of ASK where the variables of es are entered with the values of y
abbrev pub asked_with : ℕ → Formula → ℕ → List Entry → ℕ → Bool
asked_with n f g es y = (verdict n f g (entered_mask es) y).holds

-- what a yes means there: for every assignment with those values some assignment with the same waiting gauges has them too and makes f true
abbrev pub Assures : Formula → ℕ → List Entry → ℕ → Type 0
Assures f g es y = (σ : Assignment) → On (entered es) σ (bit y) → (τ : Assignment) × On (entered es) τ (bit y) × On (waits f g es) τ σ × (truth f τ ≡ true)

-- what WHY's answer r says on a sheet with a frame of kind 07
pub record GaugedReason (n : ℕ) (f : Formula) (g : ℕ) (es : List Entry) (a r : Verdict) : Type 0 where
  -- the verdict is ASK's
  pub same : r.holds ≡ a.holds
  -- its variables are entered ones, on yes too
  pub among : (k : ℕ) → bit r.word k ≡ true → entered es k ≡ true
  -- whatever values the entered variables outside the mask have, the verdict is the same
  pub forces : (y : ℕ) → Revalued es r.word y → asked_with n f g es y ≡ a.holds
  -- no variable is idle: with any one taken out, there are values with the other verdict
  pub needed : (k : ℕ) → bit r.word k ≡ true → (y : ℕ) × Revalued es (without r.word (2 ^ k)) y × (asked_with n f g es y ≡ not a.holds)
