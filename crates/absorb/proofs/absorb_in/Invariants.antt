-- `absorb::absorb_in`: whatever sheet the net was of, it is of still.
use Rattle.sheet.specs.Fields.{Sheet}
use Rattle.net.specs.Sheet.{NetOf}
use Rattle.absorb.proofs.absorb_in.Given as goal

abbrev pub invariant-sweeps : goal.invariant-sweeps
invariant-sweeps g l = (s : Sheet) → NetOf s l.initial.net → NetOf s l.net
