-- `phase::choice::choose_bound` meets its contract: the set of variables falls, as a word.
use Rattle.words.proofs.Mask.{top_less}
use Rattle.net.specs.LinkLaws.{linked_ground}
use Rattle.phase.proofs.choice.choose_bound.Goals as goal

pub choose-requires : goal.choose-requires
choose-requires c = (c.highest-x.ensures.1, linked_ground c.requires c.loop-left.invariant)

pub loop-left-smaller : goal.loop-left-smaller
loop-left-smaller c = top_less c.highest-x.ensures.0 c.one.ensures c.without-left.ensures
