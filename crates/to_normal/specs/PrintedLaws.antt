-- The longest normal sheet. Assumes nothing.
use Rattle.std.specs.Prelude.{ℕ}
use Rattle.form.specs.Form as Sizes
use Rattle.form.specs.Form.{frame_start}
use Rattle.form.specs.declared.Form.{Form}

-- what the program lends for it: the bytes of the longest sheet of the form
abbrev pub normal_room : Form → ℕ
normal_room F = frame_start F (Sizes.most_frames F)
