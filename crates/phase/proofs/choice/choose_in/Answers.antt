-- `phase::choice::choose_in` meets its contract.
use Rattle.std.proofs.Common.{arith}
use Rattle.net.specs.LinkLaws.{linked_ground}
use Rattle.phase.proofs.choice.choose_in.Goals as goal

pub choose_at-requires : goal.choose_at-requires
choose_at-requires g c =
    (linked_ground c.requires.0 c.loop-k.invariant, omega (arith, c.loop-k.invariant.long, c.requires.0.room))
