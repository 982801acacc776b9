-- Where some variables are gauges: what ASK's verdict and word say in terms of assignments, what a solver shows, and when ASK is `ask`. Assumes nothing.
use Prim.Native.Nat.{ℕ, ◌<◌}
use Rattle.std.specs.Prelude.{◌≡◌}
use Rattle.std.proofs.Math.Bool.{true, false}
use Rattle.words.specs.Word.{bit}
use Rattle.words.specs.Mask.{Sub}
use Rattle.formula.specs.Assignment.{Assignment, On}
use Rattle.formula.specs.Formula.{Formula, truth}
use Rattle.formula.specs.Gauges.{unread}

-- ---- the verdict in words

-- on no: the word is a setting of the unread gauges under which no assignment that agrees with the entries makes f true, and under each smaller one some does
pub record Failing (n : ℕ) (f : Formula) (g mask values w : ℕ) : Type 0 where
  pub inside : Sub w (unread n f g mask)
  pub fails : (τ : Assignment) → On (bit mask) τ (bit values) → On (bit (unread n f g mask)) τ (bit w) → truth f τ ≡ false
  pub least : (z : ℕ) → Sub z (unread n f g mask) → z < w → (τ : Assignment) × On (bit mask) τ (bit values) × On (bit (unread n f g mask)) τ (bit z) × (truth f τ ≡ true)
