-- `absorb::sweep`: whatever sheet the net was of, it is of still.
use Rattle.sheet.specs.Fields.{Sheet}
use Rattle.net.specs.Sheet.{NetOf}
use Rattle.absorb.proofs.sweep.Given as goal

abbrev pub invariant-loop-k : goal.invariant-loop-k
invariant-loop-k g l = (s : Sheet) → NetOf s l.initial.net → NetOf s l.net
