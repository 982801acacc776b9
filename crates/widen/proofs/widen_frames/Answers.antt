-- `widen::widen_frames` meets its contract.
use Rattle.std.proofs.Common.{sym, ◌∙◌, arith}
use Rattle.widen.proofs.WidenLaws.{widened_none, widened-next, widened-all}
use Rattle.widen.proofs.widen_frames.Goals as goal

pub loop-k-init : goal.loop-k-init
loop-k-init c = sym (widened_none _ _)

pub loop-k-preserved : goal.loop-k-preserved
loop-k-preserved c = c.widen_frame.ensures ∙ rw c.loop-k.invariant (widened-next _ _ _)

pub returns : goal.returns
returns c = c.loop-k.invariant ∙ widened-all _ _ (omega arith) (omega arith)
