-- `sheet::scan::scan_sized` meets its contract: where the pass ends is the answer.
use Rattle.std.proofs.Common.{arith, refl}
use Rattle.form.proofs.FormLaws.{most-place}
use Rattle.sheet.specs.Fields.{sheet_of}
use Rattle.sheet.proofs.AcceptedLaws.{none_sized}
use Rattle.sheet.proofs.PassLaws.{passed_small, root_read}
use Rattle.sheet.proofs.scan.scan_sized.Goals as goal

pub whole_as_slice-scan_frames : goal.whole_as_slice-scan_frames
whole_as_slice-scan_frames c k =
    omega (arith, k.requires.1, most-place k.args.form)

pub overflow_sub-last : goal.overflow_sub-last
overflow_sub-last c k =
    let z = none_sized (sheet_of k.args.form k.args.sheet.now) k.requires.0 in
    omega (arith, z.least, k.frames-last.ensures)

pub root_answer-requires : goal.root_answer-requires
root_answer-requires c k =
    let z = none_sized (sheet_of k.args.form k.args.sheet.now) k.requires.0 in
    passed_small _ _ _ _ _ k.in_ok-seen.ensures (omega (arith, z.least, k.frames-last.ensures))

pub returns : goal.returns
returns c k =
    let z = none_sized (sheet_of k.args.form k.args.sheet.now) k.requires.0 in
    root_read _ _ _ k.in_ok-seen.ensures z.least _ _ refl k.frames-last.ensures _ _ _ _ k.root_answer.ensures
