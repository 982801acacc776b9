-- `lanes::marks::live` meets its contract: downwards, what a marked node names is marked. Assumes nothing.

use mathlib.Core.Path.{◌≡◌}
use lib.ListN.{length}
use Rattle.lanes.specs.Marks.{Closed}
use Rattle.lanes.proofs.marks.live.Given as goal

abbrev pub invariant-loop-k : goal.invariant-loop-k
invariant-loop-k l = Closed l.net l.cells l.marks l.k l.a × (length l.marks ≡ length l.initial.marks)
