-- `to_normal::print_sized` meets its contract: the part that is handed on holds the normal sheet.
use Rattle.std.proofs.Common.{◌≤◌, ℕ, length, replicate, refl, arith}
use Rattle.std.proofs.lemmas.List.{length-replicate}
use Rattle.sheet.proofs.ToldLaws.{fault_not-0}
use Rattle.to_normal.proofs.PrintedLaws.{begins-same, place-fits, sheet-refused, normal-begins, sheet-printed}
use Rattle.to_normal.specs.PrintedLaws.{normal_room}
use Rattle.to_normal.proofs.print_sized.Goals as goal

pub slice_bounds-frame_lines-end : goal.slice_bounds-frame_lines-end
slice_bounds-frame_lines-end g c =
    let room : normal_room c.args.form ≤ length (replicate {A = ℕ} g.row.N 0) = omega (arith, c.requires.0, length-replicate {A = ℕ} g.row.N 0) in
    (normal-begins c.in-Ok.ensures room refl).counted

pub refuse-requires : goal.refuse-requires
refuse-requires g c =
    let room : normal_room c.args.form ≤ length (replicate {A = ℕ} g.row.N 0) = omega (arith, c.requires.0, length-replicate {A = ℕ} g.row.N 0) in
    (place-fits c.in-Err.ensures room, c.requires.1)

pub returns-in-Ok : goal.returns-in-Ok
returns-in-Ok g c =
    let room : normal_room c.args.form ≤ length (replicate {A = ℕ} g.row.N 0) = omega (arith, c.requires.0, length-replicate {A = ℕ} g.row.N 0) in
    sheet-printed c.in-Ok.ensures room refl c.args.out.now c.requires.1 c.frame_lines.ensures

pub returns-in-Err : goal.returns-in-Err
returns-in-Err g c =
    let room : normal_room c.args.form ≤ length (replicate {A = ℕ} g.row.N 0) = omega (arith, c.requires.0, length-replicate {A = ℕ} g.row.N 0) in
    begins-same (sheet-refused c.in-Err.ensures room (fault_not-0 c.in-Err.refused.fault)) c.refuse.ensures
