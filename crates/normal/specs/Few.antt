-- Numbers below m that are told apart by numbers below n: m is at most n. Assumes nothing.
use Rattle.std.specs.Prelude.{ℕ, ◌<◌, ◌≡◌}

-- o gives different numbers below m different numbers below n
pub record Apart (m n : ℕ) (o : ℕ → ℕ) : Type 0 where
  pub below : (j : ℕ) → j < m → o j < n
  pub apart : (i j : ℕ) → i < m → j < m → o i ≡ o j → i ≡ j
