-- `dimacs::decode::clauses` meets its contract. The invariant: the stores that are left give what all stores give. Assumes nothing.
use Prim.Native.Nat.{◌-◌, ◌≤◌}
use lib.ListN.{length, drop}
use Rattle.dimacs.specs.Token.{tokens}
use Rattle.dimacs.specs.Row.{header, codes_from}
use Rattle.dimacs.specs.RowSteps.{Storing}
use Rattle.dimacs.proofs.decode.clauses.Given as goal

abbrev pub invariant-loop-at : goal.invariant-loop-at
invariant-loop-at l =
    (l.at ≤ length l.text) × (l.n ≤ l.at)
    × Storing l.initial.codes (codes_from header (tokens (drop l.from l.text))) l.codes l.n (codes_from l.row (tokens (drop l.at l.text)))

abbrev pub decreases-loop-at : goal.decreases-loop-at
decreases-loop-at l = length l.text - l.at
