-- A reason: a mask of free variables whose values in w force a formula's truth. Assumes nothing.
use Rattle.std.specs.Prelude.{ℕ, ◌≡◌, Bool, true}
use Rattle.formula.specs.Assignment.{Assignment, On}
use Rattle.formula.specs.Formula.{Formula, truth, free}

pub record Explains (f : Formula) (v : Bool) (r w : Assignment) : Type 0 where
  pub inside : (k : ℕ) → r k ≡ true → free f k ≡ true
  pub forces : (σ : Assignment) → On r σ w → truth f σ ≡ v
