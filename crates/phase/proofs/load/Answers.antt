-- `phase::load` meets its contract: the net of the sheet, rewritten, with other bits that no node is read from.
use Rattle.net.specs.LinkLaws.{linked_ground, linked_net}
use Rattle.phase.proofs.load.Goals as goal

pub choose_phases-requires : goal.choose_phases-requires
choose_phases-requires c =
    linked_ground (c.absorb.ensures _ c.load.ensures).grounded c.link.ensures

pub returns : goal.returns
returns c =
    linked_net c.choose_phases.ensures (linked_net c.link.ensures (c.absorb.ensures _ c.load.ensures))
