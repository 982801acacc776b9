-- The least number of a range that passes a test. Assumes nothing.
use Rattle.std.specs.Prelude.{ℕ, zero, suc, Bool, cond}

-- the first of the c numbers from b on that passes p, or b + c
unfoldable pub least : (ℕ → Bool) → ℕ → ℕ → ℕ
least p b zero = b
least p b (suc c) = cond (p b) b (least p (suc b) c)
