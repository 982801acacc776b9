-- The reasons of some forced variables, together. Assumes nothing.
use Rattle.std.specs.Prelude.{ℕ, ◌≡◌, true, List, get_or}
use Rattle.words.specs.Word.{bit}
use Rattle.words.specs.Mask.{Sub}

pub record Gathered (whys : List ℕ) (some r : ℕ) : Type 0 where
  pub all : (x : ℕ) → bit some x ≡ true → Sub (get_or whys x 0) r
  pub from : (y : ℕ) → bit r y ≡ true → (x : ℕ) × (bit some x ≡ true) × (bit (get_or whys x 0) y ≡ true)
