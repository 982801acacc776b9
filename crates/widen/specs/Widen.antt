-- A narrow sheet widened (document 02, N14): its bytes, what it is refused for, and the contract of `widen` for all inputs. Assumes nothing.
use Rattle.std.specs.Prelude.{Result, Ok, Err, ℕ, zero, suc, ◌<◌, ◌≡◌, List, [], ◌∷◌, ◌++◌, length, drop, ltb}
use Rattle.form.specs.Form.{frame_start}
use Rattle.form.specs.declared.Form.TheVariants.{Narrow, Wide}
use Rattle.sheet.specs.declared.Fields.{Fields}
use Rattle.sheet.specs.declared.refusal.Refused.{Refused}
use Rattle.sheet.specs.Refusal as Number
use Rattle.sheet.specs.Cause.{Cause, Refusal, first}
use Rattle.sheet.specs.Fields.{narrow, frames, laid}
use Rattle.sheet.specs.Rules.{cause, sheet_causes}

-- the bytes of a wide frame with these fields, each below 256
abbrev pub wide_bytes : Fields → List ℕ
wide_bytes f = f.k ∷ 0 ∷ f.a ∷ 0 ∷ f.b ∷ 0 ∷ f.c ∷ []

-- the first k frames of s widened, each field with its number
unfoldable pub widened_to : List ℕ → ℕ → List ℕ
widened_to s zero = []
widened_to s (suc k) = widened_to s k ++ wide_bytes (laid Narrow s k)

abbrev pub widened : List ℕ → List ℕ
widened s = widened_to s (frames (narrow s))

-- the sheet's own causes, and then a buffer of so many bytes that is under seven bytes a frame
unfoldable pub widen_causes : List ℕ → ℕ → List Cause
widen_causes s bytes = sheet_causes (narrow s) ++ (cause (ltb bytes (frame_start Wide (frames (narrow s)))) Number.wide_no_room 0 ∷ [])

abbrev pub refusal : List ℕ → ℕ → Refusal
refusal s bytes = first (widen_causes s bytes)

-- What `widen` tells and leaves in the buffer, for every sheet s and buffer: at entry and, primed, at exit.
pub record Widens (s out out' : List ℕ) (number place size : ℕ) : Type 0 where
  pub number_is : number ≡ (refusal s (length out)).number
  pub place_is : place ≡ (refusal s (length out)).place
  -- refused: the buffer as it was
  pub untouched : 0 < number → (out' ≡ out) × (size ≡ 0)
  -- accepted: the wide sheet, then what was behind it
  pub written : number ≡ 0 → (size ≡ length (widened s)) × (out' ≡ widened s ++ drop size out)
