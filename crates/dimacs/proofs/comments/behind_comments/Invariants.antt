-- `comments::behind_comments` meets its contract. The invariant: from here on the same is left behind the comment lines. Assumes nothing.
use mathlib.Core.Bool.{false}
use mathlib.Core.Path.{◌≡◌}
use lib.ListN.{drop}
use Rattle.dimacs.specs.Token.{behind_comments}
use Rattle.dimacs.proofs.comments.behind_comments.Given as goal

abbrev pub invariant-loop-at : goal.invariant-loop-at
invariant-loop-at l = behind_comments false l.text ≡ behind_comments l.inside (drop l.at l.text)
