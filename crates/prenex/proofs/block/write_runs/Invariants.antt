-- `prenex::block::write_runs` meets its contract. The invariant: the stores that are left give what all stores give. Assumes nothing.
use Rattle.words.specs.Word.{bit}
use Rattle.prenex.proofs.BlockLaws.{Runs}
use Rattle.prenex.proofs.block.write_runs.Given as goal

abbrev pub invariant-loop-x : goal.invariant-loop-x
invariant-loop-x l = Runs l.exists (bit l.word) l.n l.initial.out l.x l.c l.to l.out
