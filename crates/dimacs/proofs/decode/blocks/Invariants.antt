-- `dimacs::decode::blocks` meets its contract. The invariant: the stores that are left give what all stores give. Assumes nothing.
use Prim.Native.Nat.{◌-◌, ◌≤◌}
use lib.ListN.{length, drop}
use Rattle.dimacs.specs.Token.{tokens}
use Rattle.dimacs.specs.Row.{header, words_from}
use Rattle.dimacs.specs.RowSteps.{Storing}
use Rattle.dimacs.proofs.decode.blocks.Given as goal

abbrev pub invariant-loop-at : goal.invariant-loop-at
invariant-loop-at l =
    (l.at ≤ length l.text) × (l.n ≤ l.at)
    × Storing l.initial.words (words_from header 0 (tokens (drop l.from l.text))) l.words l.n (words_from l.row l.word (tokens (drop l.at l.text)))

abbrev pub decreases-loop-at : goal.decreases-loop-at
decreases-loop-at l = length l.text - l.at
