-- `dimacs::decode::clauses` meets its contract. The invariant: the stores that are left give what all stores give. Assumes nothing.
use native.Mathlib.Omega.{arith}
use mathlib.Core.Path.{sym, ◌∙◌}
use Rattle.dimacs.proofs.TokenLaws.{tokens-taken, tokens_none}
use Rattle.dimacs.proofs.RowSteps.{codes_none, codes_other_row, codes_same, codes_next, storing_same, storing_next, storing-end}
use Rattle.dimacs.proofs.decode.clauses.Goals as goal
use Rattle.dimacs.proofs.decode.clauses.Goals.{then-row-eq-CLAUSE+in-Some, then-row-eq-CLAUSE+in_default, else-row-eq-CLAUSE}

pub loop-at-preserved : goal.loop-at-preserved
loop-at-preserved c =
    let s = tokens-taken c.next-taken.ensures in
    let r = c.row_after-row.ensures in
    let k = c.loop-at.invariant.2 in
    elim c.if-row-eq-CLAUSE.branch [
      | then-row-eq-CLAUSE+in-Some w ↦ (
        c.next-taken.ensures.within,
        omega (arith, c.loop-at.invariant.1),
        storing_next k (codes_next s r w.if-row-eq-CLAUSE.true (sym w.in-Some.ensures)) (w.codes-is ∙ w.store.ensures) w.n-is,
      )
      | then-row-eq-CLAUSE+in_default w ↦ (
        c.next-taken.ensures.within,
        omega (arith, c.loop-at.invariant.1),
        storing_same k (codes_same s r w.if-row-eq-CLAUSE.true (sym w.code_of.ensures ∙ w.in_default.is)) w.codes-is w.n-is,
      )
      | else-row-eq-CLAUSE w ↦ (c.next-taken.ensures.within, omega (arith, c.loop-at.invariant.1), storing_same k (codes_other_row s r w.if-row-eq-CLAUSE.false) w.codes-is w.n-is)
    ]

pub returns : goal.returns
returns c =
    storing-end c.loop-at.invariant.2 (rw (tokens_none c.args.text.now c.loop-at.at c.loop-at-test.false) (codes_none c.loop-at.row))
