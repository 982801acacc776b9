-- READ lines show every entry: two lists of entries are equal, or one READ line tells them apart. Assumes nothing.
use Rattle.std.specs.Prelude.{ℕ, ◌≤◌, ◌<◌, ◌≡◌, List, [], ◌∷◌, length, take}
use Rattle.model.specs.declared.Entry.{Entry}
use Rattle.model.specs.Model.{READ}
use Rattle.model.specs.Entries.{entry_at}

-- ---- two lists are equal or have a first difference

-- before place i they are equal, and at i they have two entries, or one has none
pub record FirstDifference (es ds : List Entry) (i : ℕ) : Type 0 where
  pub before : take i es ≡ take i ds
  pub reach : (i ≤ length es) × (i ≤ length ds)
  pub apart : i < length es → i < length ds → entry_at es i ≡ entry_at ds i → ⊥
  pub ends : length es ≡ i → length ds ≡ i → ⊥

-- ---- one READ line shows it

-- the script of one line that reads place i
abbrev pub read_script : ℕ → List ℕ
read_script i = READ ∷ i ∷ 0 ∷ 0 ∷ []
