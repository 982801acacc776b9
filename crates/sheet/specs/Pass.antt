-- One pass over the frames: what holds before frame k, how it comes to hold before the next, and what the check answers. Assumes nothing.
use Prim.Native.Nat.{ℕ, ◌≤◌, ◌<◌}
use Rattle.std.specs.Prelude.{◌≡◌, cond, length, Result, Ok, Err}
use mathlib.Core.List.{List}
use Rattle.words.specs.Word.{bit}
use Rattle.sheet.specs.Refusal as Number
use Rattle.sheet.specs.Fields.{Sheet, frames, most_frames, variables, kind}
use Rattle.sheet.specs.Frames.{formula}
use Rattle.sheet.specs.Rules.{binds, names_input, names_gauge, some_before, meet, frame_causes}
use Rattle.form.specs.declared.Form.{Form}
use Rattle.sheet.specs.declared.rules.Seen.{Seen}
use Rattle.sheet.specs.RuleLaws.{CleanAt}
use Rattle.sheet.specs.Check.{Checks, FreeBelow}
use Rattle.sheet.specs.Told.{number_of}
use Rattle.sheet.specs.declared.refusal.Refused.{Refused}

-- before frame k: no cause holds below it, and the words of free variables and of what earlier frames did are right
pub record Passed (s : Sheet) (words : List ℕ) (seen : Seen) (k : ℕ) : Type 0 where
  pub most : frames s ≤ most_frames s
  pub room : most_frames s ≤ length words
  pub within : k ≤ frames s
  pub clean : (j : ℕ) → j < k → CleanAt s j
  pub frees : FreeBelow (variables s) k words (formula s)
  pub bounds : (v : ℕ) → bit seen.bound v ≡ some_before binds (kind s) k v
  pub inputs : (v : ℕ) → bit seen.inputs v ≡ some_before names_input (kind s) k v
  pub gauges : (v : ℕ) → bit seen.gauges v ≡ some_before names_gauge (kind s) k v

-- what the last frame's words say: a bound variable is free, and it is refused; or the word is the answer, with the gauges
pub record RootChecks (F : Form) (word : ℕ) (seen : Seen) (place number at free gauges : ℕ) : Type 0 where
  pub number_is : number ≡ cond (meet F (bit seen.bound) (bit word)) Number.bound_free 0
  pub place_is : at ≡ cond (meet F (bit seen.bound) (bit word)) place 0
  pub free-is : free ≡ cond (meet F (bit seen.bound) (bit word)) 0 word
  pub gauges_are : gauges ≡ cond (meet F (bit seen.bound) (bit word)) 0 seen.gauges

-- where the pass stands behind the frames below k: one of them is refused, or all are passed
abbrev pub Scanned : Sheet → List ℕ → ℕ → Result Seen Refused → Type 0
Scanned s words k (Ok seen) = Passed s words seen k
Scanned s words k (Err r) = Checks (frame_causes s) s (number_of r.fault) r.place 0 0
