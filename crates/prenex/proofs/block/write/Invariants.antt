-- `prenex::block::write` meets its contract. The invariant: what stands are the quantifiers of the blocks that had their turn, the last ones. Assumes nothing.
use Prim.Native.Nat.{◌-◌}
use lib.ListN.{length}
use Rattle.prenex.proofs.BlockLaws.{Blocks}
use Rattle.prenex.proofs.block.write.Given as goal

abbrev pub invariant-loop-word : goal.invariant-loop-word
invariant-loop-word l = Blocks l.words l.n l.initial.out l.exists (length l.words - length l.yielded) l.to l.out
