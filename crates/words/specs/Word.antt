-- The bits of a number, and the laws of masks, for every width. Assumes nothing.
use Rattle.std.specs.Prelude.{Bool, not, ℕ, ◌/◌, ◌%◌, ◌^◌}
use Rattle.std.specs.Bool.{beq}
use Rattle.std.proofs.Math.Dec.{eqb}

-- bit k of w
unfoldable pub bit : ℕ → ℕ → Bool
bit w k = eqb (w / 2 ^ k % 2) 1

-- ---- the operations, bit by bit

abbrev pub xorb : Bool → Bool → Bool
xorb a b = not (beq a b)
