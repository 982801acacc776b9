-- The lanes of each kind of formula, from those of its parts; and what a word of hits says. Assumes nothing.
use Prim.Native.Nat.{ℕ, zero, suc}
use Rattle.words.specs.Mask.{placed}
use Rattle.formula.specs.Assignment.{Assignment}
use Rattle.lanes.specs.Lanes.{Positions}

-- ---- the lane of a setting

-- of the variables below n
unfoldable pub lane_of : ℕ → Positions → Assignment → ℕ
lane_of zero π σ = 0
lane_of (suc n) π σ = placed 6 (lane_of n π σ) (π n) (σ n)
