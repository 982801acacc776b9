-- What is printed, in words. Each theorem stands under its sentence. Assumes nothing.
use Rattle.std.specs.Prelude.{ℕ}
use Rattle.form.specs.declared.Form.{Form}
use Rattle.form.specs.declared.Form.TheVariants.{Narrow, Wide}

-- ---- how much is printed

-- the lines of 1,000 answers of a form
abbrev pub most_printed : Form → ℕ
most_printed Narrow = 13000
most_printed Wide = 21000
