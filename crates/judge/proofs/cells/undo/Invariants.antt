-- `judge::cells::undo` meets its contract: whatever the cells were, the chain goes back there, and each turn leaves fewer words set. Assumes nothing.
use mathlib.Core.Path.{◌≡◌}
use lib.ListN.{length}
use Rattle.judge.specs.CellLaws.{Undone, some}
use Rattle.judge.proofs.cells.undo.Given as goal

abbrev pub invariant-loop-at : goal.invariant-loop-at
invariant-loop-at l = Undone l.initial.cells l.head l.cells l.at × (length l.cells ≡ length l.initial.cells)

abbrev pub decreases-loop-at : goal.decreases-loop-at
decreases-loop-at l = some l.cells
