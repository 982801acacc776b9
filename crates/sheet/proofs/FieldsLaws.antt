-- A sheet: its form and its bytes; the fields of each frame, by the form's layout, and the kind that they say, which is the same for both forms. Assumes
-- nothing.
use Rattle.std.specs.Prelude.{◌≡◌, ℕ, ◌<◌, ◌≤◌}
use Rattle.std.proofs.Common.{lt-ltb, le-ltb}
use Rattle.sheet.specs.Fields.{Sheet, fields_at, frames, laid, no_fields}

pub fields-at : (s : Sheet) (k : ℕ) → k < frames s → fields_at s k ≡ laid s.form s.bytes k
unfolding fields_at
fields-at s k h = rw (lt-ltb k (frames s) h)

pub fields-past : (s : Sheet) (k : ℕ) → frames s ≤ k → fields_at s k ≡ no_fields
unfolding fields_at
fields-past s k h = rw (le-ltb k (frames s) h)
