-- The stores that are left give what all stores give. Assumes nothing.
use Rattle.std.proofs.Common.{◌≡◌, ◌-◌, ◌*◌}
use Rattle.std.proofs.lemmas.List.Edits.{sets}
use Rattle.text.specs.Line.{lines}
use Rattle.text.proofs.frame.put_frames.Given as goal

abbrev pub invariant-loop-i : goal.invariant-loop-i
invariant-loop-i l =
    ((lines l.size (l.count - l.i) l.rest).count ≡ l.count - l.i)
    × (sets l.initial.out 0 (lines l.size l.count l.text).frames ≡ sets l.out (l.i * l.size) (lines l.size (l.count - l.i) l.rest).frames)
