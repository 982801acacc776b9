-- What a C host gets from one call: the number that is returned, and the answers at exit, for every input. Assumes nothing.
use Rattle.std.specs.Prelude.{ℕ, ◌+◌, ◌*◌, ◌<◌, ◌≡◌, List, ◌++◌, length, drop}
use Rattle.form.specs.Form.{answer_start}
use Rattle.form.specs.declared.Form.{Form}
use Rattle.form.specs.declared.Form.TheVariants.{Narrow, Wide}
use Rattle.sheet.specs.Fields.{Sheet}
use Rattle.model.specs.Model.{lines, answers}
use Rattle.certificate.specs.Run.{refusal, book}

-- a refusal's number and place in one number, by the form
abbrev pub result_of : Form → ℕ → ℕ → ℕ
result_of Narrow number place = 256 * number + place
result_of Wide number place = 65536 * number + place

-- ans at entry and, primed, at exit; r is what the host gets
pub record Host (sheet : Sheet) (script ans ans' : List ℕ) (r : ℕ) : Type 0 where
  pub told : r ≡ result_of sheet.form (refusal sheet script (length ans)).number (refusal sheet script (length ans)).place
  -- refused: the answers are untouched
  pub untouched : 0 < (refusal sheet script (length ans)).number → ans' ≡ ans
  -- accepted: the reference model's bytes, then what was behind them
  pub written : (refusal sheet script (length ans)).number ≡ 0 → ans' ≡ answers sheet.form (book sheet) script ++ drop (answer_start sheet.form (lines script)) ans

-- what a result is divided by
abbrev pub result_unit : Form → ℕ
result_unit Narrow = 256
result_unit Wide = 65536
