-- The frames passed are stored from the start.
use Rattle.std.proofs.Common.{◌≡◌}
use Rattle.std.proofs.lemmas.List.Edits.{sets}
use Rattle.widen.specs.Widen.{widened_to}
use Rattle.widen.proofs.widen_frames.Given as goal

abbrev pub invariant-loop-k : goal.invariant-loop-k
invariant-loop-k l = l.out ≡ sets l.initial.out 0 (widened_to l.sheet l.k)
