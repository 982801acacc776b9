-- `token::skip_blanks` meets its contract. The invariant: from here on the same is left behind the blanks. Assumes nothing.
use mathlib.Core.Path.{◌≡◌}
use lib.ListN.{drop}
use Rattle.dimacs.specs.Token.{after_blanks}
use Rattle.dimacs.proofs.token.skip_blanks.Given as goal

abbrev pub invariant-loop-at : goal.invariant-loop-at
invariant-loop-at l = after_blanks (drop l.from l.text) ≡ after_blanks (drop l.at l.text)
