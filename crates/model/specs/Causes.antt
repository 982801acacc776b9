-- The refusal of a line, kind by kind, as the code tests it. Assumes nothing.
use Rattle.std.specs.Prelude.{ℕ, ◌≡◌, not, cond, ltb}
use Rattle.words.specs.Word.{bit}
use Rattle.sheet.specs.Refusal as Number
use Rattle.model.specs.Model.{Meaning, last_desk}

-- the variables that m has open are those of the word
abbrev pub Opens : Meaning → ℕ → Type 0
Opens m free = (v : ℕ) → m.opens v ≡ bit free v

-- an ENTER of a with value b from desk c, where the variables of the word free are open and those of mask are entered
unfoldable pub enter_cause : ℕ → ℕ → ℕ → ℕ → ℕ → ℕ
enter_cause free mask a b c =
    cond (not (bit free a)) Number.enter_not_free
    (cond (ltb 1 b) Number.enter_value
    (cond (ltb last_desk c) Number.enter_desk
    (cond (bit mask a) Number.entered_twice 0)))
