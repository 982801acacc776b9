-- Worked refusals: document 01's panel cases of a sheet, document 02's of gauges, and each cause alone, with another in one frame, and in two frames. One
-- computed test over the table, and one proof. Assumes nothing.
use Rattle.std.specs.Prelude.{ℕ}
use Rattle.sheet.specs.Fields.{Sheet}

-- a sheet, and the number and place that it is refused by, or 0 and 0
pub record Case : Type 0 where
  pub sheet : Sheet
  pub number : ℕ
  pub place : ℕ
