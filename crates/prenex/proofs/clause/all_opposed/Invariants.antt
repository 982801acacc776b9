-- `prenex::clause::all_opposed` meets its contract. The invariant: the answer is that of the codes which are left, with the literals seen. Assumes nothing.
use mathlib.Core.Path.{◌≡◌}
use lib.ListN.{drop}
use Rattle.prenex.specs.Code.{clauses_of, all_opposed}
use Rattle.prenex.specs.OpposedLaws.{all_opposed_with}
use Rattle.prenex.proofs.clause.all_opposed.Given as goal

abbrev pub invariant-loop-code : goal.invariant-loop-code
invariant-loop-code l = all_opposed (clauses_of l.codes) ≡ all_opposed_with l.positive l.negative (clauses_of (drop l.code-index l.codes))
