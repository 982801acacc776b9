-- What a text reads to, by the tests on its lines: the laws that the code goes by; the form that is told, and how narrow texts read. Assumes nothing.
use Rattle.std.specs.Prelude.{ℕ, suc, ◌*◌, ◌≤◌, List, ◌≡◌, length}
use Rattle.form.specs.Form.{frame_bytes, most_frames}
use Rattle.form.specs.declared.Form.TheVariants.{Narrow}
use Rattle.text.specs.Line.{lines}
use Rattle.text.specs.Reading.{malformed, Reading, read_sheet}

-- ---- what is read is of whole frames, and no more of them than there may be

-- n frames at most, of w bytes each
pub record Framed (w n : ℕ) (l : List ℕ) : Type 0 where
  pub count : ℕ
  pub whole : length l ≡ count * w
  pub most : count ≤ n

-- ---- narrow texts

-- what a text reads to where narrow lines are the only ones, and every other line is malformed
abbrev pub narrow_alone : List ℕ → Reading
narrow_alone text = read_sheet Narrow (λ l. malformed) (lines (frame_bytes Narrow) (suc (most_frames Narrow)) text)
