-- `phase::choice::mark` meets its contract: the word is that of a variable.
use Rattle.std.proofs.Common.{arith, refl}
use Rattle.net.specs.LinkLaws.{linked_reader}
use Rattle.phase.proofs.choice.mark.Goals as goal

pub returns : goal.returns
returns c = linked_reader _ _ (omega arith) (omega arith) refl
