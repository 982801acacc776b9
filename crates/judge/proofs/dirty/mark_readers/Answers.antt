-- `judge::dirty::mark_readers` meets its contract: it ends because the set of variables falls, as a word. Assumes nothing.
use Rattle.words.proofs.Mask.{top_less}
use Rattle.judge.proofs.dirty.mark_readers.Goals as goal

pub loop-left-smaller : goal.loop-left-smaller
loop-left-smaller c =
    top_less c.highest-x.ensures.0 c.one.ensures c.without-left.ensures
