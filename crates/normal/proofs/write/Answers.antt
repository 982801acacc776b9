-- `normal::write` meets its contract.
use Rattle.std.proofs.Common.{arith}
use Rattle.std.proofs.lemmas.Result.{err_from_is_err_and}
use Rattle.normal.proofs.WriteLaws.{write_refused, checked_keeps}
use Rattle.normal.proofs.write.Goals as goal

pub returns-in_err-check : goal.returns-in_err-check
returns-in_err-check c =
    let p = err_from_is_err_and c.from_residual.result c.from_residual.ensures.1 in
    rw (p.1, p.2) (write_refused _ c.args.out.now c.in_err-check.ensures)

pub write_sized-requires : goal.write_sized-requires
write_sized-requires c = (checked_keeps c.in_ok-check.ensures, rw c.in-Narrow.is (omega arith))

pub write_sized-requires-in-Wide : goal.write_sized-requires-in-Wide
write_sized-requires-in-Wide c = (checked_keeps c.in_ok-check.ensures, rw c.in-Wide.is (omega arith))
