-- `prenex::clause::write_conjunction` meets its contract. The invariant: the stores that are left give what all stores give. Assumes nothing.
use Rattle.prenex.specs.ClauseLaws.{Joining}
use Rattle.prenex.proofs.clause.write_conjunction.Given as goal

abbrev pub invariant-loop-member : goal.invariant-loop-member
invariant-loop-member l = Joining l.members l.n l.initial.out l.out l.to l.at l.first l.member-index
