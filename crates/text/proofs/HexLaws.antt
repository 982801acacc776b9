-- The value of a digit, range by range. Assumes nothing.
use Rattle.std.specs.Prelude.{ℕ, ◌-◌, ◌≤◌, ◌<◌, true, false, ◌&&◌, ◌≡◌, leb}
use Rattle.std.proofs.Common.{arith, le-leb}
use Rattle.std.proofs.lemmas.Bool.{lt-leb}
use Rattle.words.proofs.Logic.{by_bool}
use Rattle.text.specs.Hex.{digit_value}

-- a byte and a range from a to z
module _ (a b z : ℕ) where
  inside : a ≤ b → b ≤ z → leb a b && leb b z ≡ true
  inside h k = rw (le-leb a b h, le-leb b z k)

  below : b < a → leb a b && leb b z ≡ false
  below h = rw (lt-leb a b h)

  above : z < b → leb a b && leb b z ≡ false
  above h = by_bool (leb a b) (λ t. rw (t, lt-leb b z h)) (λ f. rw f)

module _ (b : ℕ) where
  pub value-decimal : 48 ≤ b → b ≤ 57 → digit_value b ≡ b - 48
  unfolding digit_value
  value-decimal h k = rw (inside 48 b 57 h k)

  pub value-capital : 65 ≤ b → b ≤ 70 → digit_value b ≡ b - 55
  unfolding digit_value
  value-capital h k = rw (above 48 b 57 (omega arith), inside 65 b 70 h k)

  pub value-lower : 97 ≤ b → b ≤ 102 → digit_value b ≡ b - 87
  unfolding digit_value
  value-lower h k = rw (above 48 b 57 (omega arith), above 65 b 70 (omega arith), inside 97 b 102 h k)

  -- the bytes around the three ranges are no digits
  pub value-below : b < 48 → digit_value b ≡ 16
  unfolding digit_value
  value-below h = rw (below 48 b 57 h, below 65 b 70 (omega arith), below 97 b 102 (omega arith))

  pub value-before_capitals : 57 < b → b < 65 → digit_value b ≡ 16
  unfolding digit_value
  value-before_capitals h k = rw (above 48 b 57 h, below 65 b 70 k, below 97 b 102 (omega arith))

  pub value-before-lower : 70 < b → b < 97 → digit_value b ≡ 16
  unfolding digit_value
  value-before-lower h k = rw (above 48 b 57 (omega arith), above 65 b 70 h, below 97 b 102 k)

  pub value-above : 102 < b → digit_value b ≡ 16
  unfolding digit_value
  value-above h = rw (above 48 b 57 (omega arith), above 65 b 70 (omega arith), above 97 b 102 h)
