-- `widen::widen` meets its contract.
use Rattle.std.proofs.Common.{refl, arith}
use Rattle.std.proofs.lemmas.Result.{err_from_is_err_and}
use Rattle.sheet.proofs.ToldLaws.{fault_not-0}
use Rattle.widen.proofs.WidenLaws.{widen_refused, widen_short, widen_written}
use Rattle.widen.proofs.widen.Goals as goal

pub returns-in_err-check : goal.returns-in_err-check
returns-in_err-check c =
    let p = err_from_is_err_and c.from_residual.result c.from_residual.ensures.1 in
    rw (p.1, p.2) (widen_refused c.args.sheet.now c.args.out.now c.in_err-check.ensures (fault_not-0 _))

pub returns-then-out-size : goal.returns-then-out-size
returns-then-out-size c =
    rw (c.from.ensures.0, c.from.ensures.1) (widen_short c.args.sheet.now c.args.out.now c.in_ok-check.ensures refl (omega arith))

pub returns : goal.returns
returns c = widen_written c.args.sheet.now c.args.out.now c.in_ok-check.ensures refl (omega arith) refl c.widen_frames.ensures
