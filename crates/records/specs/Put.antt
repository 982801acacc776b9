-- One record put behind the counted ones, where there is room. Assumes nothing.
use Rattle.std.specs.Prelude.{◌≡◌, List, ℕ, ◌+◌, ◌<◌, ◌≤◌, length}
use Rattle.form.specs.declared.Form.{Form}
use Rattle.form.specs.Form.{room}
pub use Rattle.records.specs.Layout.{stored}
use Rattle.records.specs.Layout.{Reads}
use Rattle.records.specs.Table.{Grown}

-- the count is one more and the record stands there; a full table takes no more
pub record Put (F : Form) (t : List ℕ) (count : ℕ) (t' : List ℕ) (count' frame mask values : ℕ) : Type 0 where
  pub grown : Grown F t count t' count'
  pub next : count < room F (length t) → count' ≡ count + 1
  pub put : count < room F (length t) → Reads F t' count frame mask values
  pub full : room F (length t) ≤ count → (count' ≡ count) × (t' ≡ t)
