-- What holds between two turns; turns come to an end.
use Rattle.sheet.specs.Fields.{sheet_of, frames}
use Rattle.normal.specs.Visit.{left, Visiting}
use Rattle.normal.proofs.visit.Walk.run.Given as goal

abbrev pub invariant-loop-self : goal.invariant-loop-self
invariant-loop-self g l = Visiting (sheet_of l.form l.sheet) l.self.frames.kinds l.self.numbers l.self.waiting.frames l.self.frames.count l.self.waiting.depth

abbrev pub decreases-loop-self : goal.decreases-loop-self
decreases-loop-self g l = left l.self.numbers (frames (sheet_of l.form l.sheet)) l.self.waiting.depth
