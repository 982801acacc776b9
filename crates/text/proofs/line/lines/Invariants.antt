-- The lines counted so far and those that are left are all lines. Assumes nothing.
use Rattle.std.proofs.Common.{◌≡◌, ◌+◌, ◌-◌}
use Rattle.text.specs.Line.{lines}
use Rattle.text.proofs.line.lines.Given as goal

abbrev pub invariant-loop-count : goal.invariant-loop-count
invariant-loop-count l =
    ((lines l.size l.most l.text).count ≡ l.count + (lines l.size (l.most - l.count) l.rest).count)
    × ((lines l.size l.most l.text).rest ≡ (lines l.size (l.most - l.count) l.rest).rest)
