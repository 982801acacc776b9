-- What is printed for a text: the lines of its sheet's normal sheet, or one line for a refusal. Assumes nothing.
use Rattle.std.specs.Prelude.{ℕ, ◌/◌, ◌%◌, ◌≤◌, cond, List, [], ◌∷◌, ◌≡◌, eqb, length, take}
use Rattle.form.specs.Form.{frame_bytes}
use Rattle.form.specs.declared.Form.{Form}
use Rattle.form.specs.declared.Form.TheVariants.{Narrow, Wide}
use Rattle.sheet.specs.Cause.{Refusal}
use Rattle.sheet.specs.Fields.{Sheet, sheet_of, frames}
use Rattle.sheet.specs.Rules.{sheet_refusal}
use Rattle.text.specs.Hex.{hex_line, hex_lines}
use Rattle.text.specs.Reading.{Reading, reading}
use Rattle.normal.specs.Normal.{normal_bytes, normal}

-- A refusal is printed as bin/interlock prints it: its number, its place in one byte and four zero bytes; of a wide text its place in two, the highest
-- first, and seven. crates/response, which prints those, has the same two definitions.
abbrev pub refusal_bytes : Form → ℕ → ℕ → List ℕ
refusal_bytes Narrow number place = number ∷ place ∷ 0 ∷ 0 ∷ 0 ∷ 0 ∷ []
refusal_bytes Wide number place = number ∷ place / 256 ∷ place % 256 ∷ 0 ∷ 0 ∷ 0 ∷ 0 ∷ 0 ∷ 0 ∷ 0 ∷ []

unfoldable pub refusal_line : Form → ℕ → ℕ → List ℕ
refusal_line F number place = hex_line (refusal_bytes F number place)

-- a line for each frame of a sheet's normal sheet: eight digits, or, wide, fourteen
abbrev pub normal_lines : Sheet → List ℕ
normal_lines s = hex_lines (frame_bytes s.form) (frames (normal s)) (normal_bytes s)

-- for a sheet that is told r
abbrev pub lines_by : Refusal → Sheet → List ℕ
lines_by r s = cond (eqb r.number 0) (normal_lines s) (refusal_line s.form r.number r.place)

unfoldable pub printed_sheet : Sheet → List ℕ
printed_sheet s = lines_by (sheet_refusal s) s

-- for what a text reads to: the refusal's line, with place 0, or what its sheet gives
abbrev pub printed_for : Reading → List ℕ
printed_for k = cond (eqb k.refusal 0) (printed_sheet (sheet_of k.form k.sheet)) (refusal_line k.form k.refusal 0)

unfoldable pub printed : List ℕ → List ℕ
printed text = printed_for (reading text)

-- a buffer begins with x, n bytes
pub record Begins (x buffer : List ℕ) (n : ℕ) : Type 0 where
  pub count : n ≡ length x
  pub bytes : take n buffer ≡ x
  pub fits : n ≤ length buffer
  pub counted : n ≡ length (take n buffer)
