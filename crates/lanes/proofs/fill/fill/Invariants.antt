-- `lanes::fill::fill` meets its contract: each marked node in turn. Assumes nothing.
use mathlib.Core.Path.{◌≡◌}
use lib.ListN.{length}
use Rattle.lanes.specs.Fill.{Filled}
use Rattle.lanes.proofs.fill.fill.Given as goal

abbrev pub invariant-loop-k : goal.invariant-loop-k
invariant-loop-k l = Filled l.net l.places l.cube.values l.marks l.rows l.k × (length l.rows ≡ length l.initial.rows)
