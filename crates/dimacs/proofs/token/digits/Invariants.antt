-- `token::digits` meets its contract. The invariant: from here on the digits make the number that all of them make. Assumes nothing.
use Prim.Native.Nat.{◌<◌}
use mathlib.Core.Path.{◌≡◌}
use lib.ListN.{drop}
use Rattle.dimacs.specs.Token.{number_limit, decimal_from}
use Rattle.dimacs.proofs.token.digits.Given as goal

abbrev pub invariant-loop-b : goal.invariant-loop-b
invariant-loop-b l = (l.value < number_limit) × (decimal_from 0 l.word ≡ decimal_from l.value (drop l.b-index l.word))
