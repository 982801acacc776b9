-- What a search of a table finds. Assumes nothing.
use Rattle.std.specs.Prelude.{◌≡◌, Option, None, Some, Bool, true, false, List, ℕ, ◌<◌}
use Rattle.form.specs.declared.Form.{Form}
use Rattle.records.specs.Table.{matches}

-- none of the numbers below n passes p
abbrev pub NoneBelow : (ℕ → Bool) → ℕ → Type 0
NoneBelow p n = (i : ℕ) → i < n → p i ≡ false

-- j is the first of the numbers below count that passes p
pub record FirstBelow (p : ℕ → Bool) (count j : ℕ) : Type 0 where
  pub counted : j < count
  pub hit : p j ≡ true
  pub none_before : NoneBelow p j

-- the first of the counted records that matches
abbrev pub Finds : Form → List ℕ → ℕ → ℕ → ℕ → ℕ → Option ℕ → Type 0
Finds F t count frame assigned setting (Some j) = FirstBelow (matches F t frame assigned setting) count j
Finds F t count frame assigned setting None = NoneBelow (matches F t frame assigned setting) count
