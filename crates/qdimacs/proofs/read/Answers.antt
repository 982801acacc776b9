-- `qdimacs::read` meets its contract: each return has the tests that led there. Assumes nothing.
use Prim.Native.Nat.{◌≤◌}
use native.Mathlib.Omega.{arith}
use mathlib.Core.Path.{refl}
use lib.ListN.{replicate}
use Rattle.std.proofs.lemmas.Result.{err_from_is_err_and}
use Rattle.qdimacs.specs.Reading.{short}
use Rattle.qdimacs.proofs.ReadLaws.{found_fields, found-few, found-asked, read_broken, read_many_variables, read-unbuilt, read_accepted}
use Rattle.qdimacs.proofs.read.Goals as goal

pub returns-then-sheet-lt-SHEET_BYTES : goal.returns-then-sheet-lt-SHEET_BYTES
returns-then-sheet-lt-SHEET_BYTES c =
    short c.if-sheet-lt-SHEET_BYTES.true

pub returns-in_err-header : goal.returns-in_err-header
returns-in_err-header c =
    let p = err_from_is_err_and c.from_residual.result c.from_residual.ensures.1 in
    rw (p.1, p.2) (read_broken c.if-sheet-lt-SHEET_BYTES.false c.in_err-header.ensures)

pub returns-then-header-gt-MOST_VARIABLES : goal.returns-then-header-gt-MOST_VARIABLES
returns-then-header-gt-MOST_VARIABLES c =
    read_many_variables c.if-sheet-lt-SHEET_BYTES.false c.in_ok-header.ensures (omega (arith, c.if-header-gt-MOST_VARIABLES.true))

pub returns-in_err-size : goal.returns-in_err-size
returns-in_err-size c =
    let h = c.in_ok-header.ensures in
    let k : c.in_ok-header.header.variables ≤ 32 = omega (arith, c.if-header-gt-MOST_VARIABLES.false) in
    let p = err_from_is_err_and c.from_residual-in_err-size.result c.from_residual-in_err-size.ensures.1 in
    rw (p.1, p.2)
    (read-unbuilt c.if-sheet-lt-SHEET_BYTES.false h k (replicate 800 0) c.build.new.frames (c.in_err-size.ensures h.question (found_fields h) h.written.proper (found-few h k)))

pub build-requires : goal.build-requires
build-requires c =
    (c.in_ok-header.ensures.within, found-asked c.in_ok-header.ensures (omega (arith, c.if-header-gt-MOST_VARIABLES.false)))

pub returns : goal.returns
returns c =
    let h = c.in_ok-header.ensures in
    let k : c.in_ok-header.header.variables ≤ 32 = omega (arith, c.if-header-gt-MOST_VARIABLES.false) in
    let b = c.in_ok-size.ensures h.question (found_fields h) h.written.proper (found-few h k) in
    rw c.copy_from_slice.ensures.after (read_accepted c.if-sheet-lt-SHEET_BYTES.false h k b refl)
