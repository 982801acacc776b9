-- `from_qdimacs::convert` meets its contract: the lines of what was read, or that of the refusal. Assumes nothing.
use Rattle.std.proofs.Common.{arith, refl}
use Rattle.sheet.proofs.ToldLaws.{fault_positive}
use Rattle.from_qdimacs.proofs.ConvertedLaws.{read-sheet, sheet-counted, refusal-printed, sheet-printed}
use Rattle.from_qdimacs.proofs.convert.Goals as goal

pub slice_bounds-frame_lines-end : goal.slice_bounds-frame_lines-end
slice_bounds-frame_lines-end c = sheet-counted (read-sheet refl c.in-Ok.ensures)

pub returns-in-Ok : goal.returns-in-Ok
returns-in-Ok c =
    sheet-printed c.args.out.now c.requires c.frame_lines.auto.out (read-sheet refl c.in-Ok.ensures) c.frame_lines.ensures

pub returns-in-Err : goal.returns-in-Err
returns-in-Err c =
    refusal-printed c.args.out.now c.requires c.answer_lines.auto.out (omega arith) (λ z. omega (arith, fault_positive c.in-Err.fault, z)) c.in-Err.ensures
    (rw c.number.ensures at c.answer_lines.ensures)
