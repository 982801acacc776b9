-- A run is accepted exactly if the rules for its inputs are kept. Assumes nothing.
use Rattle.std.specs.Prelude.{ℕ, ◌≤◌, List}
use Rattle.form.specs.Form.{answer_start}
use Rattle.sheet.specs.Fields.{Sheet}
use Rattle.sheet.specs.Keeps.{Keeps}
use Rattle.model.specs.Model.{lines}
use Rattle.model.specs.Script.{Whole}
use Rattle.certificate.specs.Run.{most_lines}

-- document 01's rules for a run, one field a sentence, in no order
pub record Proper (sheet : Sheet) (script : List ℕ) (bytes : ℕ) : Type 0 where
  -- the sheet keeps its rules
  pub sheet-kept : Keeps sheet
  -- a script is 0 to 1,000 frames of four bytes
  pub whole : Whole script
  pub few : lines script ≤ most_lines
  -- the answer buffer has room for an answer a line, of six bytes or, on a wide sheet, ten
  pub room : answer_start sheet.form (lines script) ≤ bytes
