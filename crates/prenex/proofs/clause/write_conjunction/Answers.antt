-- `prenex::clause::write_conjunction` meets its contract. The invariant: the stores that are left give what all stores give. Assumes nothing.
use mathlib.Core.Path.{refl, ◌∙◌}
use Rattle.prenex.proofs.ClauseLaws.{joining_first, joining_next, joining_done}
use Rattle.prenex.proofs.clause.write_conjunction.Goals as goal
use Rattle.prenex.proofs.clause.write_conjunction.Goals.{then-first, else-first}

pub loop-member-preserved : goal.loop-member-preserved
loop-member-preserved c =
    elim c.if-first.branch [
      | then-first w ↦ rw (w.out-is, w.to-is, w.at-is, w.first-is) (joining_first c.loop-member.invariant c.loop-member-test.true w.if-first.true refl)
      | else-first w ↦ rw (w.out-is, w.to-is, w.at-is, w.first-is ∙ w.if-first.false) (joining_next c.loop-member.invariant c.loop-member-test.true w.if-first.false refl w.put.ensures)
    ]

pub returns : goal.returns
returns c =
    joining_done c.loop-member.invariant c.loop-member-test.false
