-- How a reader of a sheet moves: frame by frame, and no further than the end. Assumes nothing.
use Rattle.std.specs.Prelude.{ℕ, ◌+◌, ◌≤◌, ◌<◌, ◌≡◌, Some, None, refl}
use Rattle.std.proofs.Common.{◌∙◌, ap, sym, subst, lt-ltb, le-ltb}
use Rattle.sheet.specs.Fields.{Sheet, frames, kind}
use Rattle.sheet.specs.declared.Frame.{Frame}
use Rattle.sheet.specs.declared.reader.Reader.{Reader}
use Rattle.sheet.specs.Reader.{following, read_by, Takes}

pub following_in : (s : Sheet) (k : ℕ) → k < frames s → following s k ≡ k + 1
unfolding following
following_in s k h = rw (lt-ltb k (frames s) h)

pub following-past : (s : Sheet) (k : ℕ) → frames s ≤ k → following s k ≡ k
unfolding following
following-past s k h = rw (le-ltb k (frames s) h)

-- what a turn of the reader is
pub takes_none : (r : Reader) → frames (read_by r) ≤ r.at → Takes r None r
takes_none r h = record { frame = h; moves = rw (following-past (read_by r) r.at h) refl }

pub takes_frame : (r : Reader) (f : Frame) → r.at < frames (read_by r) → f.number ≡ r.at → f.kind ≡ kind (read_by r) r.at
    → Takes r (Some f) (record { bytes = r.bytes; form = r.form; at = r.at + 1 })
takes_frame r f h n d = record { frame = record { here = h; number_is = n; kind-is = d }; moves = rw (following_in (read_by r) r.at h) refl }

-- a reader r of the sheet s, which is t when it took the frame f
module _ {s : Sheet} (r t : Reader) (f : Frame) (e : read_by r ≡ s) (g : Takes r (Some f) t) where
  pub took_reads : read_by t ≡ s
  took_reads = ap read_by g.moves ∙ e

  pub took_number : f.number ≡ r.at
  took_number = g.frame.number_is

  pub took_here : f.number < frames s
  took_here = subst (λ (x : Sheet). f.number < frames x) e (let h = g.frame.here in rw g.frame.number_is h)

  pub took_kind : f.kind ≡ kind s f.number
  took_kind = subst (λ (x : Sheet). f.kind ≡ kind x f.number) e (rw g.frame.number_is g.frame.kind-is)

  pub took_next : f.number + 1 ≡ t.at
  took_next = sym (ap (λ (x : Reader). x.at) g.moves ∙ following_in (read_by r) r.at g.frame.here ∙ ap (λ (x : ℕ). x + 1) (sym g.frame.number_is))

-- and where no frame is left
pub took_none : {s : Sheet} (r t : Reader) → read_by r ≡ s → Takes r None t → frames s ≤ r.at
took_none r t e g = subst (λ (x : Sheet). frames x ≤ r.at) e g.frame
