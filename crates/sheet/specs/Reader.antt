-- How a reader of a sheet moves: frame by frame, and no further than the end. Assumes nothing.
use Rattle.std.specs.Prelude.{ℕ, ◌+◌, ◌≡◌, ◌<◌, ◌≤◌, Option, MatchOption, cond, ltb}
use Rattle.sheet.specs.Fields.{Sheet, sheet_of, frames, kind}
use Rattle.sheet.specs.declared.Frame.{Frame}
use Rattle.sheet.specs.declared.reader.Reader.{Reader}

-- the number after k at which a reader stands; past the last whole frame, k itself
unfoldable pub following : Sheet → ℕ → ℕ
following s k = cond (ltb k (frames s)) (k + 1) k

-- the sheet that a reader reads
abbrev pub read_by : Reader → Sheet
read_by r = sheet_of r.form r.bytes.now

-- the reader after it took a frame
abbrev pub after : Reader → Reader
after r = record { bytes = r.bytes; form = r.form; at = following (read_by r) r.at }

-- the frame that is taken is that of the reader's number
pub record IsFrameAt (s : Sheet) (k : ℕ) (frame : Frame) : Type 0 where
  pub here : k < frames s
  pub number_is : frame.number ≡ k
  pub kind-is : frame.kind ≡ kind s k

-- a reader takes the frame that it is at, if there is one
pub record Takes (from : Reader) (taken : Option Frame) (to : Reader) : Type 0 where
  pub frame : MatchOption taken (frames (read_by from) ≤ from.at) (IsFrameAt (read_by from) from.at)
  pub moves : to ≡ after from
