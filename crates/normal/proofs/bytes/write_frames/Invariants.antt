-- The frames passed are stored from the start.
use Rattle.std.proofs.Common.{◌≡◌, take}
use Rattle.std.proofs.lemmas.List.Edits.{sets}
use Rattle.normal.specs.Normal.{frames_bytes}
use Rattle.normal.proofs.bytes.write_frames.Given as goal

abbrev pub invariant-loop-number : goal.invariant-loop-number
invariant-loop-number l = l.out ≡ sets l.initial.out 0 (frames_bytes l.form (take l.number l.kinds))
