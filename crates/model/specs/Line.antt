-- A line of the reference model is refused exactly if a cause of the rules' table holds, and then it changes nothing. Assumes nothing.
use Prim.Native.Nat.{ℕ, ◌≤◌, ◌<◌}
use Rattle.std.specs.Prelude.{◌≡◌, true, false, List, length}
use Rattle.model.specs.declared.Entry.{Entry}
use Rattle.model.specs.Model.{Meaning, entered, ENTER, TAKE-BACK, READ, unknown, last_desk}

-- no cause of the rules' table refuses the line
pub record Passes (m : Meaning) (es : List Entry) (k a b c : ℕ) : Type 0 where
  pub known : unknown k a b c ≡ false
  pub opened : k ≡ ENTER → m.opens a ≡ true
  pub valued : k ≡ ENTER → b < 2
  pub desked : k ≡ ENTER → c ≤ last_desk
  pub fresh : k ≡ ENTER → entered es a ≡ false
  pub standing : k ≡ TAKE-BACK → 0 < length es
  pub there : k ≡ READ → a < length es
