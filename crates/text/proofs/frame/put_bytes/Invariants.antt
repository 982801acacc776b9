-- The stores that are left give what all stores give. Assumes nothing.
use Rattle.std.proofs.Common.{◌≡◌, ◌-◌, ◌*◌, length, drop}
use Rattle.std.proofs.lemmas.List.Edits.{sets}
use Rattle.text.specs.Line.{bytes}
use Rattle.text.proofs.frame.put_bytes.Given as goal

abbrev pub invariant-loop-i : goal.invariant-loop-i
invariant-loop-i l =
    let n = length l.initial.out in
    sets l.initial.out 0 (bytes n l.rest) ≡ sets l.out l.i (bytes (n - l.i) (drop (2 * l.i) l.rest))
