-- `net::decode::load_frames`: what holds before a turn of its loop.
use Rattle.std.proofs.Common.{◌≡◌}
use Rattle.sheet.specs.Fields.{sheet_of}
use Rattle.sheet.specs.Reader.{read_by}
use Rattle.net.specs.Load.{Loading}
use Rattle.net.proofs.decode.load_frames.Given as goal

-- the reader reads this sheet, and the frames before it are stored
abbrev pub invariant-loop-frame : goal.invariant-loop-frame
invariant-loop-frame l = record {
  reads : read_by l.frame-iterator ≡ sheet_of l.fn.form l.sheet;
  loading : Loading (sheet_of l.fn.form l.sheet) l.net l.frame-iterator.at;
}
