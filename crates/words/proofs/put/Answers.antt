-- `words::put` meets its contract: the two branches are the definition's. Assumes nothing.
use Rattle.words.specs.Mask.{put}
use Rattle.words.proofs.put.Goals as goal

pub returns-then-b : goal.returns-then-b
unfolding put
returns-then-b g c =
    rw (g.met.W.Word.bitor_law _ _ _ c.bitor.ensures, c.one-p.ensures, c.if-b.true)

pub returns-else-b : goal.returns-else-b
unfolding put
returns-else-b g c =
    rw (c.without.ensures, c.one-p.ensures, c.if-b.false)
