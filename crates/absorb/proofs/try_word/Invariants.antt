-- `absorb::try_word`: whatever sheet the net was of, it is of still. The word falls.
use Rattle.sheet.specs.Fields.{Sheet}
use Rattle.net.specs.Sheet.{NetOf}
use Rattle.absorb.proofs.try_word.Given as goal

abbrev pub invariant-loop-rest : goal.invariant-loop-rest
invariant-loop-rest g l = (s : Sheet) → NetOf s l.initial.net → NetOf s l.net

abbrev pub decreases-loop-rest : goal.decreases-loop-rest
decreases-loop-rest g l = l.rest
