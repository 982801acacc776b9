-- An answer's bytes written into a buffer. Assumes nothing.
use Rattle.std.specs.Prelude.{ℕ, ◌+◌, take, drop}
use mathlib.Core.List.{List, ◌++◌}
use Rattle.std.proofs.Math.ListN.{length}

-- the list l with bs in place of as many elements from the place at on
abbrev pub written : List ℕ → ℕ → List ℕ → List ℕ
written l at bs = take at l ++ (bs ++ drop (at + length bs) l)
