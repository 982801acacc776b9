-- `judge::dirty::mark_variable` meets its contract: it ends because the links fall. Assumes nothing.
use mathlib.Core.Path.{◌≡◌}
use lib.ListN.{length}
use Rattle.judge.proofs.dirty.mark_variable.Given as goal

abbrev pub invariant-loop-link : goal.invariant-loop-link
invariant-loop-link l = length l.marks ≡ length l.initial.marks

abbrev pub decreases-loop-link : goal.decreases-loop-link
decreases-loop-link l = l.link
