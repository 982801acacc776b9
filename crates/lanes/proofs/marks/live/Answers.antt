-- `lanes::marks::live` meets its contract: downwards, what a marked node names is marked. Assumes nothing.
use native.Mathlib.Omega.{arith}
use mathlib.Core.Path.{refl}
use Rattle.lanes.proofs.MarksLaws.{joined-here, closed_start}
use Rattle.lanes.proofs.marks.live.Goals as goal

pub loop-k-init : goal.loop-k-init
loop-k-init c =
    (closed_start (omega arith) (rw c.mark.ensures (joined-here _ _ c.requires.3)), refl)
