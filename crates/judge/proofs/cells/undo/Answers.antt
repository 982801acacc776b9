-- `judge::cells::undo` meets its contract: whatever the cells were, the chain goes back there, and each turn leaves fewer words set. Assumes nothing.
use mathlib.Core.Path.{◌∙◌}
use Rattle.judge.specs.CellLaws.{undone_here, undone_less, undone_step, undone-end}
use Rattle.judge.proofs.cells.undo.Goals as goal

pub unset-at-requires : goal.unset-at-requires
unset-at-requires c =
    undone_here c.loop-at.invariant.0 c.from.ensures c.loop-at-test.true

pub loop-at-smaller : goal.loop-at-smaller
loop-at-smaller c =
    undone_less c.loop-at.invariant.0 c.from.ensures c.loop-at-test.true c.unset-at.ensures.0

pub loop-at-preserved : goal.loop-at-preserved
loop-at-preserved c =
    (undone_step c.loop-at.invariant.0 c.from.ensures c.loop-at-test.true c.unset-at.ensures.0 c.unset-at.ensures.1, c.unset-at.auto.cells ∙ c.loop-at.invariant.1)

pub returns : goal.returns
returns c =
    undone-end c.loop-at.invariant.0 c.loop-at-test.false
