-- The definitions of Row.antt field by field, as the code takes them, and stores one after the other. Assumes nothing.
use Rattle.std.specs.Prelude.{ℕ, ◌+◌, List, ◌≡◌, length}
use Rattle.std.proofs.lemmas.List.Edits.{sets}

-- ---- stores one after the other: what all of vs from the start of l₀ on give, those that are left give behind n

pub record Storing (l₀ vs l : List ℕ) (n : ℕ) (left : List ℕ) : Type 0 where
  pub gives : sets l₀ 0 vs ≡ sets l n left
  pub counts : length vs ≡ n + length left
