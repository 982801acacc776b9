-- `absorb::cone::free_words` meets its contract.
use Rattle.std.proofs.Common.{arith}
use Rattle.absorb.specs.ConeLaws.{near_at, free-none, free-next}
use Rattle.absorb.proofs.cone.free_words.Goals as goal

pub loop-k-init : goal.loop-k-init
loop-k-init c = free-none _ _

pub free_word-w-requires : goal.free_word-w-requires
free_word-w-requires c = near_at c.requires.0 c.node_at.ensures.is (omega arith)

pub loop-k-preserved : goal.loop-k-preserved
loop-k-preserved c =
    free-next c.requires.0 (omega arith) c.loop-k.invariant c.node_at.ensures.is c.free_word-w.ensures
