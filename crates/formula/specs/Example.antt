-- Worked examples, computed at 32 variables. Assumes nothing.
use Rattle.std.specs.Prelude.{ℕ, ◌≡◌, Bool}
use Rattle.formula.specs.Formula.{Formula, input, neg, and, or, exists}
use Rattle.formula.specs.Ask.{ask}
use Rattle.formula.specs.Why.{why}

-- what ASK and WHY answer for f with these entries
pub record Answered (f : Formula) (mask values : ℕ) (holds : Bool) (word reason : ℕ) : Type 0 where
  pub asked : ask 32 f mask values ≡ record { holds = holds; word = word }
  pub because : why 32 f mask values ≡ record { holds = holds; word = reason }

-- there is a value of variable 2 that is variable 0's, and variable 1 is true
abbrev pub gauges : Formula
gauges = and (exists 2 1 (or (and (input 0) (input 2)) (and (neg (input 0)) (neg (input 2))))) (input 1)
