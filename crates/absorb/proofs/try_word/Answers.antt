-- `absorb::try_word` meets its contract: the word loses its highest variable.
use Rattle.words.proofs.Mask.{top_less}
use Rattle.absorb.proofs.try_word.Goals as goal

pub loop-rest-smaller : goal.loop-rest-smaller
loop-rest-smaller g c = top_less c.highest-y.ensures.0 c.one.ensures c.without-rest.ensures
