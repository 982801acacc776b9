-- What a run tells of its records: how many the two tables hold, 0 and 0 where it is refused. Assumes nothing.
use Rattle.std.specs.Prelude.{ℕ, Result, Ok, Err}
use Rattle.sheet.specs.declared.refusal.Refused.{Refused}
use Rattle.records.specs.declared.Counts.{Counts}

abbrev pub under_told : Result Counts Refused → ℕ
under_told (Ok counts) = counts.under
under_told (Err refused) = 0

abbrev pub over_told : Result Counts Refused → ℕ
over_told (Ok counts) = counts.over
over_told (Err refused) = 0
