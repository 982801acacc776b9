-- `run::run_sized` meets its contract.
use Rattle.std.proofs.Common.{refl}
use Rattle.std.proofs.lemmas.Result.{err_from_is_err_and}
use Rattle.sheet.specs.Fields.{sheet_of}
use Rattle.sheet.proofs.ToldLaws.{fault_not-0}
use Rattle.net.specs.Sheet.{checked_net}
use Rattle.certificate.proofs.Progress.{run_room, run_checked, run-gauged, run-accepted, run-refused}
use Rattle.run.proofs.run_sized.Goals as goal

pub returns-in_err-accepted : goal.returns-in_err-accepted
returns-in_err-accepted g c =
    let p = err_from_is_err_and c.from_residual.result c.from_residual.ensures.1 in
    rw (p.1, p.2) (run-refused (sheet_of c.args.form c.args.sheet.now) c.args.script.now c.args.answers.now c.in_err-accepted.ensures (fault_not-0 _))

pub load-requires : goal.load-requires
load-requires g c = (
  run_checked (sheet_of c.args.form c.args.sheet.now) c.args.script.now c.args.answers.now c.in_ok-accepted.ensures refl,
  run-gauged (sheet_of c.args.form c.args.sheet.now) c.args.script.now c.args.answers.now c.in_ok-accepted.ensures refl,
  record { is = rw c.requires },
)

pub run_lines-last-requires : goal.run_lines-last-requires
run_lines-last-requires g c =
    let k = c.in_ok-accepted.ensures in (
      (
        c.args.sheet.now,
        checked_net (run_checked (sheet_of c.args.form c.args.sheet.now) c.args.script.now c.args.answers.now k refl) c.load.ensures,
        c.load.ensures,
      ),
      run_room (sheet_of c.args.form c.args.sheet.now) c.args.script.now c.args.answers.now k refl,
    )

pub returns : goal.returns
returns g c =
    let k = c.in_ok-accepted.ensures in
    let h = checked_net (run_checked (sheet_of c.args.form c.args.sheet.now) c.args.script.now c.args.answers.now k refl) c.load.ensures in
    run-accepted (sheet_of c.args.form c.args.sheet.now) c.args.script.now c.args.answers.now k refl (c.run_lines-last.ensures c.args.sheet.now h c.load.ensures)
