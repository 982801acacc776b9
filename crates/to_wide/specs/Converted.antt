-- What is printed for a text: its sheet's lines widened, the empty line and its script's lines, or one line for a refusal. Assumes nothing.
use Rattle.std.specs.Prelude.{Result, Ok, Err, ℕ, ◌/◌, ◌≤◌, ◌<◌, Bool, true, false, cond, List, [], ◌≡◌, eqb, length, take}
use Rattle.form.specs.Form.{frame_bytes}
use Rattle.form.specs.declared.Form.{Form}
use Rattle.form.specs.declared.Form.TheVariants.{Narrow, Wide}
use Rattle.sheet.specs.Refusal as Number
use Rattle.sheet.specs.Told.{number_of}
use Rattle.sheet.specs.declared.refusal.Refused.{Refused}
use Rattle.sheet.specs.Cause.{Refusal}
use Rattle.sheet.specs.Fields.{narrow, frames}
use Rattle.sheet.specs.Rules.{sheet_refusal}
use Rattle.text.specs.Hex.{hex_lines}
use Rattle.text.specs.Reading.{script_frame_bytes, Reading, reading}
use Rattle.text.specs.Answer.{answer_line}
use Rattle.widen.specs.Widen.{widened}
use Rattle.to_wide.specs.declared.Lines.{Lines}

-- two parts, with the empty line between them unless they are a refusal's
pub record Output : Type 0 where
  pub refused : Bool
  pub first : List ℕ
  pub second : List ℕ

-- a refusal is printed as bin/interlock prints one of a narrow text
abbrev pub refusal_output : ℕ → ℕ → Output
refusal_output number place = record { refused = true; first = answer_line Narrow number place 0; second = [] }

-- the lines of a narrow sheet widened, fourteen digits each, and those of a script
abbrev pub wide_output : List ℕ → List ℕ → Output
wide_output sheet script = record {
  refused = false;
  first = hex_lines (frame_bytes Wide) (frames (narrow sheet)) (widened sheet);
  second = hex_lines script_frame_bytes (length script / script_frame_bytes) script;
}

-- for a narrow sheet that is told r, and a script
abbrev pub output_by : Refusal → List ℕ → List ℕ → Output
output_by r sheet script = cond (eqb r.number 0) (wide_output sheet script) (refusal_output r.number r.place)

unfoldable pub converted_sheet : List ℕ → List ℕ → Output
converted_sheet sheet script = output_by (sheet_refusal (narrow sheet)) sheet script

-- for what a text of a form reads to: a wide one, read or refused, is of the other form
abbrev pub converted_for : Form → Reading → Output
converted_for Narrow k = cond (eqb k.refusal 0) (converted_sheet k.sheet k.script) (refusal_output k.refusal 0)
converted_for Wide k = refusal_output Number.other_form 0

unfoldable pub converted : List ℕ → Output
converted text = converted_for (reading text).form (reading text)

-- a buffer begins with x, n bytes
pub record Begins (x buffer : List ℕ) (n : ℕ) : Type 0 where
  pub count : n ≡ length x
  pub bytes : take n buffer ≡ x
  pub fits : n ≤ length buffer
  pub counted : n ≡ length (take n buffer)

-- two buffers begin with the parts of an output
pub record Prints (o : Output) (first second : List ℕ) (refused : Bool) (m n : ℕ) : Type 0 where
  pub is-refused : refused ≡ o.refused
  pub in_first : Begins o.first first m
  pub in_second : Begins o.second second n

-- What a conversion gives of the output o: the two buffers begin with its parts, or it is a refusal's, told at a frame of a narrow sheet.
abbrev pub Converts : Output → List ℕ → List ℕ → Result Lines Refused → Type 0
Converts o first second (Ok l) = Prints o first second false l.sheet l.script
Converts o first second (Err r) = (o ≡ refusal_output (number_of r.fault) r.place) × (r.place < 200)
