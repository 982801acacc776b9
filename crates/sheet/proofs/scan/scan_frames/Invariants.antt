-- `sheet::scan::scan_frames`: what holds before a turn of its loop.
use Rattle.std.proofs.Common.{◌≡◌}
use Rattle.sheet.specs.Fields.{sheet_of}
use Rattle.sheet.specs.Reader.{read_by}
use Rattle.sheet.specs.Pass.{Passed}
use Rattle.sheet.proofs.scan.scan_frames.Given as goal

-- the reader reads this sheet, and the frames before it are passed
abbrev pub invariant-loop-frame : goal.invariant-loop-frame
invariant-loop-frame l = record {
  reads : read_by l.frame-iterator ≡ sheet_of l.form l.sheet;
  passed : Passed (sheet_of l.form l.sheet) l.words l.seen l.frame-iterator.at;
}
