-- `sheet::scan::check` meets its contract: the size first, then the frames.
use Rattle.std.proofs.Common.{refl}
use Rattle.std.proofs.lemmas.Result.{err_from_is_err_and}
use Rattle.sheet.specs.Fields.{sheet_of}
use Rattle.sheet.proofs.ToldLaws.{fault_not-0}
use Rattle.sheet.proofs.PassLaws.{size_none, size_checks, frames_check}
use Rattle.sheet.proofs.scan.check.Goals as goal

pub returns-in_err-check_size : goal.returns-in_err-check_size
returns-in_err-check_size c =
    let p = err_from_is_err_and c.from_residual.result c.from_residual.ensures.1 in
    rw (p.1, p.2.0, p.2.1) (size_checks (sheet_of c.args.form c.args.sheet.now) _ c.in_err-check_size.ensures (fault_not-0 _))

pub check_frames-requires : goal.check_frames-requires
check_frames-requires c =
    size_none (sheet_of c.args.form c.args.sheet.now) 0 c.in_ok-check_size.ensures refl

pub returns : goal.returns
returns c =
    let s = sheet_of c.args.form c.args.sheet.now in
    frames_check s (size_none s 0 c.in_ok-check_size.ensures refl) _ _ _ _ c.check_frames.ensures
