-- A sheet: its form and its bytes; the fields of each frame, by the form's layout, and the kind that they say, which is the same for both forms. Assumes
-- nothing.
use Rattle.std.specs.Prelude.{cond, List, ℕ, ◌+◌, ◌*◌, length, get_or, eqb, ltb}
use Rattle.form.specs.Form as Sizes
use Rattle.form.specs.declared.Form.{Form}
use Rattle.form.specs.declared.Form.TheVariants.{Narrow, Wide}
use Rattle.sheet.specs.declared.Fields.{Fields}
use Rattle.sheet.specs.declared.Kind.{Kind}
use Rattle.sheet.specs.declared.Kind.TheVariants.{Never, Input, Not, And, Or, Exists, Forall, Gauge}

pub record Sheet : Type 0 where
  pub form : Form
  pub bytes : List ℕ

abbrev pub sheet_of : Form → List ℕ → Sheet
sheet_of F b = record { form = F; bytes = b }

abbrev pub narrow : List ℕ → Sheet
narrow b = sheet_of Narrow b

abbrev pub wide : List ℕ → Sheet
wide b = sheet_of Wide b

-- how many whole frames the bytes hold
abbrev pub frames : Sheet → ℕ
frames s = Sizes.frames s.form (length s.bytes)

-- how many a sheet of the form may have
abbrev pub most_frames : Sheet → ℕ
most_frames s = Sizes.most_frames s.form

-- variables are the numbers below: 0 to 31, or 0 to 63
abbrev pub variables : Sheet → ℕ
variables s = Sizes.variables s.form

-- the layouts of K and A B C: four bytes; or seven, where A B C have two each, the highest first
abbrev pub laid : Form → List ℕ → ℕ → Fields
laid Narrow s k = record { k = get_or s (k * 4) 0; a = get_or s (k * 4 + 1) 0; b = get_or s (k * 4 + 2) 0; c = get_or s (k * 4 + 3) 0 }
laid Wide s k = record {
  k = get_or s (k * 7) 0;
  a = get_or s (k * 7 + 1) 0 * 256 + get_or s (k * 7 + 2) 0;
  b = get_or s (k * 7 + 3) 0 * 256 + get_or s (k * 7 + 4) 0;
  c = get_or s (k * 7 + 5) 0 * 256 + get_or s (k * 7 + 6) 0;
}

abbrev pub no_fields : Fields
no_fields = record { k = 0; a = 0; b = 0; c = 0 }

-- the fields of frame k; past the end all 0
unfoldable pub fields_at : Sheet → ℕ → Fields
fields_at s k = cond (ltb k (frames s)) (laid s.form s.bytes k) no_fields

-- the kind that a frame's fields say; a code above 7, which no accepted sheet has, gives Never
unfoldable pub kind_of : Fields → Kind
kind_of f =
    cond (eqb f.k 1) (Input f.a)
    (cond (eqb f.k 2) (Not f.a)
    (cond (eqb f.k 3) (And f.a f.b)
    (cond (eqb f.k 4) (Or f.a f.b)
    (cond (eqb f.k 5) (Exists f.a f.b f.c)
    (cond (eqb f.k 6) (Forall f.a f.b f.c)
    (cond (eqb f.k 7) (Gauge f.a) Never))))))

-- the kind of frame k; past the end, Never
abbrev pub kind : Sheet → ℕ → Kind
kind s k = kind_of (fields_at s k)
