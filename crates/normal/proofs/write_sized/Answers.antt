-- `normal::write_sized` meets its contract.
use Rattle.std.proofs.Common.{rules, ◌≤◌, ℕ, Option, None, refl, arith}
use Rattle.std.proofs.lemmas.List.{get_or-replicate}
use Rattle.form.proofs.FormLaws.{most-place}
use Rattle.sheet.specs.Fields.{sheet_of}
use Rattle.normal.proofs.WriteLaws.{visited_few, write_short, kinds-fit, kinds-start, write_written}
use Rattle.normal.proofs.write_sized.Goals as goal

pub run-requires : goal.run-requires
run-requires g c =
    let K = c.requires.0 in
    let m : g.row.N ≤ 3000 = omega (arith, c.requires.1, most-place c.args.form) in
    (search rules, (K, omega (arith, K.most, c.requires.1), m, λ k h. get_or-replicate {A = Option ℕ} g.row.N k None None (omega (arith, h, K.most, c.requires.1)), refl, refl))

pub bytes_of-size-requires : goal.bytes_of-size-requires
bytes_of-size-requires g c = omega (arith, visited_few c.requires.0 c.run.ensures, c.requires.0.most, most-place c.args.form)

pub returns-then-out-size : goal.returns-then-out-size
returns-then-out-size g c =
    rw (c.from.ensures.0, c.from.ensures.1) (write_short (sheet_of c.args.form c.args.sheet.now) c.args.out.now c.requires.0 c.run.ensures c.bytes_of-size.ensures (omega arith))

pub shared_whole_as_front-write_frames : goal.shared_whole_as_front-write_frames
shared_whole_as_front-write_frames g c =
    let few = visited_few c.requires.0 c.run.ensures in
    (omega (arith, few, c.requires.0.most, c.requires.1), omega (arith, c.requires.1, most-place c.args.form))

pub write_frames-requires : goal.write_frames-requires
write_frames-requires g c = (
  kinds-fit (sheet_of c.args.form c.args.sheet.now) c.args.out.now c.requires.0 c.run.ensures c.bytes_of-size.ensures,
  omega (arith, kinds-start (sheet_of c.args.form c.args.sheet.now) c.args.out.now c.requires.0 c.run.ensures c.bytes_of-size.ensures),
)

pub returns : goal.returns
returns g c =
    write_written (sheet_of c.args.form c.args.sheet.now) c.args.out.now c.requires.0 c.run.ensures c.bytes_of-size.ensures (omega arith) c.write_frames.ensures
