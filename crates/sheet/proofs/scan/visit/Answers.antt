-- `sheet::scan::visit` meets its contract: the frame is refused, or it is passed.
use mathlib.Core.Path.{sym}
use native.Mathlib.Omega.{arith}
use Rattle.sheet.proofs.ToldLaws.{fault_not-0}
use Rattle.sheet.proofs.PassLaws.{fault_clean, fault_checks, kind-room, kind-range, pass_read}
use Rattle.sheet.proofs.scan.visit.Goals as goal

pub pass-requires : goal.pass-requires
pass-requires c =
    let g = fault_clean _ _ _ _ c.requires.0 c.requires.1 (sym c.in-Ok.ensures) in (
      omega (arith, c.requires.0.most, c.requires.0.room, c.requires.1),
      kind-room _ _ _ _ c.requires.0 c.requires.1 g _ c.requires.2,
    )

pub invariant_of-ranged : goal.invariant_of-ranged
invariant_of-ranged c =
    let g = fault_clean _ _ _ _ c.requires.0 c.requires.1 (sym c.in-Ok.ensures) in
    record { ranged = kind-range _ _ _ _ c.requires.0 c.requires.1 g _ c.requires.2 }

pub returns-in-Ok : goal.returns-in-Ok
returns-in-Ok c =
    let g = fault_clean _ _ _ _ c.requires.0 c.requires.1 (sym c.in-Ok.ensures) in
    pass_read _ _ _ _ c.requires.0 c.requires.1 g _ c.requires.2 _ _ c.pass.ensures.0 c.pass.ensures.1

pub returns-in-Err : goal.returns-in-Err
returns-in-Err c =
    fault_checks _ _ _ _ c.requires.0 c.requires.1 _ c.in-Err.ensures (fault_not-0 c.in-Err.fault)
