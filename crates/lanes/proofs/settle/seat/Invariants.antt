-- `lanes::settle::seat` meets its contract: each variable gets the next position. Assumes nothing.
use Prim.Native.Nat.{◌≤◌}
use Rattle.words.specs.Mask.{Sub}
use Rattle.lanes.specs.Fill.{Seated}
use Rattle.lanes.proofs.settle.seat.Given as goal

abbrev pub invariant-loop-rest : goal.invariant-loop-rest
invariant-loop-rest l = (l.top ≤ 6) × Sub l.rest l.mask × Seated l.places l.mask l.top

abbrev pub decreases-loop-rest : goal.decreases-loop-rest
decreases-loop-rest l = l.rest
