-- `to_normal::print` meets its contract: the part that is handed on holds the sheet's bytes that were read.
use Rattle.std.proofs.Common.{refl, arith}
use Rattle.form.proofs.FormLaws.{some-frames}
use Rattle.sheet.proofs.ToldLaws.{fault_not-0}
use Rattle.to_normal.proofs.PrintedLaws.{begins-same, sheet-begins, text_refused, text_read}
use Rattle.to_normal.proofs.print.Goals as goal

pub slice_bounds-print_sheet-end : goal.slice_bounds-print_sheet-end
slice_bounds-print_sheet-end c = (sheet-begins c.in-Ok.ensures (omega arith) (omega arith)).counted

pub refuse-requires : goal.refuse-requires
refuse-requires c = (rw c.from.ensures.1 (some-frames c.in-Err.unread.form), c.requires)

pub returns-in-Ok : goal.returns-in-Ok
returns-in-Ok c = begins-same (text_read c.in-Ok.ensures (omega arith) (omega arith) refl) c.print_sheet.ensures

pub returns-in-Err : goal.returns-in-Err
returns-in-Err c =
    begins-same (text_refused c.in-Err.ensures (omega arith) (omega arith) (fault_not-0 c.in-Err.unread.fault)) (rw (c.from.ensures.0, c.from.ensures.1) at c.refuse.ensures)
