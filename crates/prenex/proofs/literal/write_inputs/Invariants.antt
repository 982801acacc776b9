-- `prenex::literal::write_inputs` meets its contract. The invariant: the stores that are left give what all stores give. Assumes nothing.
use Rattle.words.specs.Word.{bit}
use Rattle.sheet.specs.declared.Kind.TheVariants.{Input}
use Rattle.prenex.proofs.LiteralLaws.{Stored}
use Rattle.prenex.proofs.literal.write_inputs.Given as goal

abbrev pub invariant-loop-x : goal.invariant-loop-x
invariant-loop-x l = Stored (bit l.all) Input 0 l.initial.out l.x l.n l.out
