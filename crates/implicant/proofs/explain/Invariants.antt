-- `implicant::explain` meets its contract: the cells before k are right. Assumes nothing.
use mathlib.Core.Path.{◌≡◌}
use lib.ListN.{length}
use Rattle.implicant.specs.Implicant.{Shows}
use Rattle.implicant.proofs.explain.Given as goal

abbrev pub invariant-loop-k : goal.invariant-loop-k
invariant-loop-k l = Shows l.net l.cube.mask l.cube.values l.cells l.k × (length l.cells ≡ length l.initial.cells)
