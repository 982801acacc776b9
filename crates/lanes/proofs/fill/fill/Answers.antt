-- `lanes::fill::fill` meets its contract: each marked node in turn. Assumes nothing.
use native.Mathlib.Omega.{arith}
use mathlib.Core.Path.{sym, ◌∙◌}
use Rattle.lanes.proofs.FillLaws.{filled_next, filled_skip}
use Rattle.lanes.proofs.fill.fill.Goals as goal
use Rattle.lanes.proofs.fill.fill.Goals.{then-marked, else-marked}

pub loop-k-preserved : goal.loop-k-preserved
loop-k-preserved c =
    elim c.if-marked.branch [
      | then-marked w ↦ rw w.rows-is (filled_next c.loop-k.invariant.0 (omega arith) w.next.ensures, w.next.auto.rows ∙ c.loop-k.invariant.1)
      | else-marked w ↦ rw w.rows-is (filled_skip c.loop-k.invariant.0 (omega arith) (sym c.marked.ensures ∙ w.if-marked.false), c.loop-k.invariant.1)
    ]
