-- `dimacs::atoms::proper_atoms` meets its contract. The invariant: the answer is that of the fields which are still to be read. Assumes nothing.
use Prim.Native.Nat.{◌-◌, ◌≤◌}
use mathlib.Core.Path.{◌≡◌}
use lib.ListN.{length, drop}
use Rattle.dimacs.specs.Token.{tokens}
use Rattle.dimacs.specs.Row.{header, proper_atoms}
use Rattle.dimacs.proofs.atoms.proper_atoms.Given as goal

abbrev pub invariant-loop-at : goal.invariant-loop-at
invariant-loop-at l =
    (l.at ≤ length l.text) × (proper_atoms header (tokens (drop l.from l.text)) ≡ proper_atoms l.row (tokens (drop l.at l.text)))

abbrev pub decreases-loop-at : goal.decreases-loop-at
decreases-loop-at l = length l.text - l.at
