-- The stores that are left give what all stores give. Assumes nothing.
use Rattle.std.proofs.Common.{◌≡◌, ◌*◌, drop}
use Rattle.std.proofs.lemmas.List.Edits.{sets}
use Rattle.text.specs.Hex.{hex_line}
use Rattle.text.proofs.hex.put_line.Given as goal

abbrev pub invariant-loop-i : goal.invariant-loop-i
invariant-loop-i l =
    sets l.initial.out 0 (hex_line l.bytes) ≡ sets l.out (2 * l.i) (hex_line (drop l.i l.bytes))
