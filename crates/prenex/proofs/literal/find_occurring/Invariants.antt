-- `prenex::literal::find_occurring` meets its contract. The invariant: what is found, with what the codes that are left have, is what all have. Assumes nothing.
use Rattle.prenex.specs.LiteralLaws.{Found}
use Rattle.prenex.proofs.literal.find_occurring.Given as goal

abbrev pub invariant-loop-code : goal.invariant-loop-code
invariant-loop-code l = Found l.codes l.code-index l.found
