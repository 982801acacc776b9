-- The parts that are handed on hold the bytes that were read. Assumes nothing.
use Rattle.std.proofs.Common.{refl, arith}
use Rattle.sheet.proofs.ToldLaws.{fault_not-0}
use Rattle.response.proofs.PrintedLaws.{prints-same, text_refused, text_read}
use Rattle.response.proofs.respond.Goals as goal

pub returns-in-Err : goal.returns-in-Err
returns-in-Err c =
    prints-same (text_refused c.in-Err.ensures (omega arith) (omega arith) (fault_not-0 c.in-Err.unread.fault)) (rw (c.from.ensures.0, c.from.ensures.1) at c.print_refusal.ensures)

pub returns-in-Ok : goal.returns-in-Ok
returns-in-Ok c = prints-same (text_read c.in-Ok.ensures (omega arith) (omega arith) refl) c.print_run.ensures
