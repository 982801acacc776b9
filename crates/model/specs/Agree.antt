-- Assignments that agree with the entries, entry by entry and by the entries' words. Assumes nothing.
use Rattle.std.specs.Prelude.{ℕ, ◌<◌, ◌≡◌, List, length, eqb}
use Rattle.formula.specs.Assignment.{Assignment}
use Rattle.model.specs.declared.Entry.{Entry}
use Rattle.model.specs.Entries.{entry_at}

-- σ gives every entry's variable its value
abbrev pub Agrees : List Entry → Assignment → Type 0
Agrees es σ = (i : ℕ) → i < length es → σ (entry_at es i).variable ≡ eqb (entry_at es i).value 1
