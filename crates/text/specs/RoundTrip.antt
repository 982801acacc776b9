-- A text of the grammar reads to what it is a text of: digits in either case, lines with either ending, and each fault in its order. Assumes nothing.
use Prim.Native.Nat.{ℕ, ◌*◌, ◌<◌}
use Rattle.std.specs.Prelude.{◌≡◌, length, get_or}
use mathlib.Core.List.{List, ◌∷◌, ◌++◌}
use Rattle.form.specs.Form.{frame_bytes}
use Rattle.form.specs.declared.Form.{Form}
use Rattle.text.specs.Hex.{line_feed, hex_lines}
use Rattle.text.specs.Reading.{script_frame_bytes}

-- ---- what is written, in capitals with 0A, is such a text

-- n whole frames of w bytes
pub record Frames (w n : ℕ) (l : List ℕ) : Type 0 where
  pub whole : length l ≡ n * w
  pub small : (k : ℕ) → get_or l k 0 < 256

-- the lines of n frames of a sheet, the empty line, those of m frames of a script
abbrev pub written_text : Form → ℕ → List ℕ → ℕ → List ℕ → List ℕ
written_text F n sheet m script = hex_lines (frame_bytes F) n sheet ++ line_feed ∷ hex_lines script_frame_bytes m script
