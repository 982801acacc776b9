-- The entries that stand: what is always so of them, and their words. Assumes nothing.
use Rattle.std.specs.Prelude.{ℕ, ◌≤◌, ◌<◌, ◌≡◌, true, List, length}
use Rattle.model.specs.declared.Entry.{Entry}
pub use Rattle.model.specs.Model.{entry_at, value_part}
use Rattle.model.specs.Model.{Meaning, entered_mask, entered_values, last_desk}

-- every entry is of an open variable, has the value 0 or 1 and is of a desk from 0 to 7, and no two are of one variable
pub record Entered (m : Meaning) (es : List Entry) : Type 0 where
  pub opened : (i : ℕ) → i < length es → m.opens (entry_at es i).variable ≡ true
  pub valued : (i : ℕ) → i < length es → (entry_at es i).value < 2
  pub desked : (i : ℕ) → i < length es → (entry_at es i).desk ≤ last_desk
  pub distinct : (i j : ℕ) → i < length es → j < length es → (entry_at es i).variable ≡ (entry_at es j).variable → i ≡ j

-- ---- the entries' words

-- mask and values are the words of the entries es
pub record Words (es : List Entry) (mask values : ℕ) : Type 0 where
  pub mask_is : mask ≡ entered_mask es
  pub values_are : values ≡ entered_values es
