-- `lanes::marks::mark` meets its contract. Assumes nothing.
use Prim.Native.Nat.{◌%◌}
use native.Mathlib.Omega.{arith}
use Rattle.words.proofs.Mask.{one_shl}
use Rattle.lanes.specs.Marks.{joined}
use Rattle.lanes.proofs.marks.mark.Goals as goal

pub returns : goal.returns
unfolding joined
returns c =
    rw (one_shl 64 (c.args.k % 64) (omega arith))
