-- What the formulas of frames have in common with them: their parts, the variables that they bind and read, and that a formula's frame is the last one.
-- Assumes nothing.
use Rattle.std.specs.Prelude.{ℕ, Bool, ◌||◌, eqb}
use Rattle.std.proofs.Math.Bool.{false}
use Rattle.formula.specs.Assignment.{within}
use Rattle.formula.specs.Formula.{Formula, never, input, neg, gate, quant}

-- ---- the variables that a formula binds at its root

unfoldable pub binder : Formula → ℕ → Bool
binder never v = false
binder (input x) v = false
binder (neg f) v = false
binder (gate d f g) v = false
binder (quant d b c f) v = within b c v

-- ---- the variables that it reads

unfoldable pub occurs : Formula → ℕ → Bool
occurs never x = false
occurs (input y) x = eqb x y
occurs (neg f) x = occurs f x
occurs (gate d f g) x = occurs f x || occurs g x
occurs (quant d b c f) x = occurs f x
