-- `prenex::clause::write_clauses` meets its contract. The invariant: the stores that are left give what all stores give. Assumes nothing.
use Rattle.words.specs.Word.{bit}
use Rattle.prenex.specs.Kinds.{frame_by}
use Rattle.prenex.specs.ClauseLaws.{Going}
use Rattle.prenex.proofs.clause.write_clauses.Given as goal

abbrev pub invariant-loop-code : goal.invariant-loop-code
invariant-loop-code l = Going l.codes (frame_by (bit l.all) (bit l.negated)) l.literals l.initial.out l.initial.ends l.out l.ends l.n l.k l.at l.first l.code-index
