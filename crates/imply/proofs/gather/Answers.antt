-- `imply::gather` meets its contract. Assumes nothing.
use Rattle.words.proofs.Mask.{top_less}
use Rattle.imply.specs.GatherLaws.{gather_none, gather_more, gather-end}
use Rattle.imply.proofs.gather.Goals as goal

pub loop-left-init : goal.loop-left-init
loop-left-init c =
    gather_none _ _

pub loop-left-smaller : goal.loop-left-smaller
loop-left-smaller c =
    top_less c.highest-x.ensures.0 c.one.ensures c.without-left.ensures

pub loop-left-preserved : goal.loop-left-preserved
loop-left-preserved c =
    gather_more c.loop-left.invariant c.highest-x.ensures.0 c.one.ensures c.without-left.ensures (rw c.from.ensures)

pub returns : goal.returns
returns c =
    gather-end c.loop-left.invariant c.loop-left-test.false
