-- `run::check` meets its contract.
use Rattle.std.proofs.Common.{refl}
use Rattle.std.proofs.lemmas.Result.{err_from_is_err_and}
use Rattle.sheet.specs.Fields.{sheet_of}
use Rattle.sheet.proofs.ToldLaws.{fault_not-0}
use Rattle.certificate.proofs.Checking.{size_checks, size_none, script_checks, frames_checks}
use Rattle.run.proofs.check.Goals as goal

pub returns-in_err-check_size : goal.returns-in_err-check_size
returns-in_err-check_size c =
    let p = err_from_is_err_and c.from_residual.result c.from_residual.ensures.1 in
    rw (p.1, p.2.0, p.2.1) (size_checks (sheet_of c.args.form c.args.sheet.now) c.args.script.now c.args.room c.in_err-check_size.ensures (fault_not-0 _))

pub returns-in_err-check_script : goal.returns-in_err-check_script
returns-in_err-check_script c =
    let p = err_from_is_err_and c.from_residual-in_err-check_script.result c.from_residual-in_err-check_script.ensures.1 in
    rw (p.1, p.2.0, p.2.1)
    (script_checks (sheet_of c.args.form c.args.sheet.now) c.args.script.now c.args.room c.in_ok-check_size.ensures refl c.in_err-check_script.ensures (fault_not-0 _))

pub check_frames-requires : goal.check_frames-requires
check_frames-requires c =
    size_none (sheet_of c.args.form c.args.sheet.now) c.args.script.now c.args.room c.in_ok-check_size.ensures refl

pub returns : goal.returns
returns c =
    frames_checks (sheet_of c.args.form c.args.sheet.now) c.args.script.now c.args.room c.in_ok-check_size.ensures refl c.in_ok-check_script.ensures refl c.check_frames.ensures
