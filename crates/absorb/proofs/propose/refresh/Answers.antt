-- `absorb::propose::refresh` meets its contract.
use Rattle.std.proofs.Common.{arith}
use Rattle.absorb.specs.ConeLaws.{near_at}
use Rattle.absorb.proofs.propose.refresh.Goals as goal

pub free_word-word-requires : goal.free_word-word-requires
free_word-word-requires c = near_at c.requires.0 c.node_at.ensures.is (omega arith)
