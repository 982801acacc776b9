-- Lines that are written, store by store, for records of any width: the laws that the code goes by. Assumes nothing.
use Prim.Native.Nat.{ℕ, ◌+◌, ◌*◌, ◌≤◌, ◌<◌}
use Rattle.std.proofs.Common.{mul-le-mul_right}
use Rattle.std.proofs.Math.Nat.{suc-mul}

-- ---- the lines of records of w bytes

-- record i of n lies within them
pub record_within : (w i n : ℕ) → i < n → i * w + w ≤ n * w
record_within w i n h = rw suc-mul at (mul-le-mul_right w h)
