-- `dimacs::shape::run` meets its contract. The invariant: taking the fields that are left gives what taking all of them gives. Assumes nothing.
use Prim.Native.Nat.{◌-◌, ◌≤◌}
use mathlib.Core.Path.{◌≡◌}
use lib.ListN.{length, drop}
use Rattle.dimacs.specs.Token.{tokens}
use Rattle.dimacs.specs.Shape as Machine
use Rattle.dimacs.proofs.shape.run.Given as goal

abbrev pub invariant-loop-at : goal.invariant-loop-at
invariant-loop-at l =
    (l.at ≤ length l.text) × (Machine.run l.state (tokens (drop l.at l.text)) ≡ Machine.run Machine.start (tokens (drop l.from l.text)))

abbrev pub decreases-loop-at : goal.decreases-loop-at
decreases-loop-at l = length l.text - l.at
