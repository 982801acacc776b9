-- `imply::force` meets its contract: the wants are right, and so are the variables forced so far. Assumes nothing.
use mathlib.Core.Path.{◌≡◌}
use lib.ListN.{length}
use Rattle.imply.specs.Required.{Wanted, Forcing}
use Rattle.imply.proofs.force.Given as goal

abbrev pub invariant-loop-k : goal.invariant-loop-k
invariant-loop-k l =
    Wanted l.net l.a l.target l.cube.mask l.cube.values l.wants
    × Forcing l.net l.a l.target l.loose l.cube.mask l.cube.values l.f.mask l.f.values l.whys
    × (length l.wants ≡ length l.initial.wants)
