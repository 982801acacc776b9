-- Lists of frames, as the writer keeps them, and what fits a frame of a form. Assumes nothing.
use Rattle.std.specs.Prelude.{ℕ, ◌<◌, ◌≡◌, List, length, get_or, take}
use Rattle.form.specs.declared.Form.{Form}
use Rattle.form.specs.declared.Form.TheVariants.{Narrow, Wide}
use Rattle.sheet.specs.declared.Fields.{Fields}
use Rattle.sheet.specs.declared.Kind.{Kind}
use Rattle.sheet.specs.declared.Kind.TheVariants.{Never}
use Rattle.normal.specs.Normal.{fields_of}

-- frame k of a list; past the end, Never
abbrev pub kind_at : List Kind → ℕ → Kind
kind_at l k = get_or l k Never

-- fields are the numbers below
abbrev pub field_end : Form → ℕ
field_end Narrow = 256
field_end Wide = 65536

-- these fields can be written in a frame of the form
pub record Fits (F : Form) (f : Fields) : Type 0 where
  pub k-fits : f.k < 256
  pub a-fits : f.a < field_end F
  pub b-fits : f.b < field_end F
  pub c-fits : f.c < field_end F

abbrev pub AllFit : Form → List Kind → Type 0
AllFit F l = (k : ℕ) → k < length l → Fits F (fields_of (kind_at l k))

-- the frames ks begin with l
pub record Holds (ks l : List Kind) : Type 0 where
  pub begins : take (length l) ks ≡ l
