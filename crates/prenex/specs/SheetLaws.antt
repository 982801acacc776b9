-- The bytes of a list of kinds are a sheet of these kinds; and what it is that kinds stand in a sheet from some frame on. Assumes nothing.
use Rattle.std.specs.Prelude.{ℕ, ◌+◌, ◌<◌, ◌≡◌, List, length, get_or}
use Rattle.form.specs.declared.Form.TheVariants.{Narrow}
use Rattle.sheet.specs.Fields.{laid}
use Rattle.sheet.specs.declared.Fields.{Fields}
use Rattle.sheet.specs.declared.Kind.{Kind}
use Rattle.sheet.specs.declared.Kind.TheVariants.{Never}
use Rattle.prenex.specs.Kinds.{frame_bytes}

-- the fields that a kind has as a frame
abbrev pub fields_of : Kind → Fields
fields_of d = laid Narrow (frame_bytes d) 0

-- ---- the kinds ks stand in κ from frame n on

pub record Has (κ : ℕ → Kind) (n : ℕ) (ks : List Kind) : Type 0 where
  pub at : (i : ℕ) → i < length ks → κ (n + i) ≡ get_or ks i Never
