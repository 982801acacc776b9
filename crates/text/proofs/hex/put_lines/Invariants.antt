-- The stores that are left give what all stores give. Assumes nothing.
use Rattle.std.proofs.Common.{◌≡◌, ◌-◌, ◌*◌, drop}
use Rattle.std.proofs.lemmas.List.Edits.{sets}
use Rattle.text.specs.Hex.{hex_lines}
use Rattle.text.proofs.hex.put_lines.Given as goal

abbrev pub invariant-loop-i : goal.invariant-loop-i
invariant-loop-i l =
    sets l.initial.out 0 (hex_lines l.size l.n l.bytes) ≡ sets l.out (l.i * l.line) (hex_lines l.size (l.n - l.i) (drop (l.i * l.size) l.bytes))
