-- Clauses with a literal and its opposite, found by the words of the literals that are seen. Assumes nothing.
use Rattle.std.specs.Prelude.{ℕ, ◌^◌, Bool, true, not, cond, ◌&&◌, List, [], ◌∷◌, eqb}
use Rattle.std.specs.Int.Bits.{bit_and, bit_or}
use Rattle.prenex.specs.Question.{Clause}
use Rattle.prenex.specs.Code.{all_opposed}

-- a clause of which the literals with p's and q's variables, positive and negative, are seen already
unfoldable pub opposed_with : ℕ → ℕ → Clause → Bool
opposed_with p q [] = not (eqb (bit_and p q) 0)
opposed_with p q (l ∷ c) = cond l.negative (opposed_with p (bit_or q (2 ^ l.variable)) c) (opposed_with (bit_or p (2 ^ l.variable)) q c)

unfoldable pub all_opposed_with : ℕ → ℕ → List Clause → Bool
all_opposed_with p q [] = true
all_opposed_with p q (c ∷ cs) = opposed_with p q c && all_opposed cs
