-- `dimacs::atoms::mentions` meets its contract. The invariant: the answer is that of the fields which are still to be read. Assumes nothing.
use Prim.Native.Nat.{◌-◌, ◌≤◌}
use mathlib.Core.Path.{◌≡◌}
use lib.ListN.{length, drop}
use Rattle.dimacs.specs.Token.{tokens}
use Rattle.dimacs.specs.Row.{mentions}
use Rattle.dimacs.proofs.atoms.mentions.Given as goal

abbrev pub invariant-loop-at : goal.invariant-loop-at
invariant-loop-at l =
    (l.at ≤ length l.text) × (mentions l.kind l.v l.fn.now_in (tokens (drop l.from l.text)) ≡ mentions l.kind l.v l.row (tokens (drop l.at l.text)))

abbrev pub decreases-loop-at : goal.decreases-loop-at
decreases-loop-at l = length l.text - l.at
