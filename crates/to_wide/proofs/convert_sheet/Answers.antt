-- `to_wide::convert_sheet` meets its contract: the part that is handed on holds the wide sheet.
use Rattle.std.proofs.Common.{refl, sym, arith}
use Rattle.std.proofs.lemmas.Result.{err_from_is_err_and}
use Rattle.sheet.proofs.ToldLaws.{fault_not-0}
use Rattle.to_wide.proofs.ConvertedLaws.{place-fits, sheet-refused, sheet-converted}
use Rattle.to_wide.proofs.convert_sheet.Goals as goal

pub returns-in_err-end : goal.returns-in_err-end
returns-in_err-end c =
    let p = err_from_is_err_and c.from_residual.result c.from_residual.ensures.1 in
    rw (p.1, p.2) (sym (sheet-refused c.in_err-end.ensures (omega arith) c.args.script.now (fault_not-0 _)), place-fits c.in_err-end.ensures (omega arith))

pub returns : goal.returns
returns c =
    sheet-converted c.in_ok-end.ensures (omega arith) refl c.args.script.now c.args.first.now c.args.second.now c.requires.0 c.requires.1 c.requires.2
    c.frame_lines.ensures c.frame_lines-2.ensures
