-- `dimacs::atoms::mentions` meets its contract. The invariant: the answer is that of the fields which are still to be read. Assumes nothing.
use mathlib.Core.Path.{sym, ◌∙◌}
use Rattle.dimacs.proofs.TokenLaws.{tokens-taken, tokens_none}
use Rattle.dimacs.proofs.RowSteps.{mentions-none, mentions-other_row, mentions-other-variable, mentions-here}
use Rattle.dimacs.proofs.atoms.mentions.Goals as goal
use Rattle.dimacs.proofs.atoms.mentions.Goals.{then-row-kind+else-variable_of-v, else-row-kind}

pub returns-then-variable_of-v : goal.returns-then-variable_of-v
returns-then-variable_of-v c =
    sym (c.loop-at.invariant.1 ∙ mentions-here (tokens-taken c.next-taken.ensures) c.if-row-kind.true c.variable_of.ensures c.if-variable_of-v.true)

pub loop-at-preserved : goal.loop-at-preserved
loop-at-preserved c =
    let s = tokens-taken c.next-taken.ensures in (
      c.next-taken.ensures.within,
      c.loop-at.invariant.1
          ∙ (elim c.if-row-kind.branch [
            | then-row-kind+else-variable_of-v w ↦ mentions-other-variable s c.row_after-row.ensures c.args.v w.if-row-kind.true w.variable_of.ensures w.if-variable_of-v.false
            | else-row-kind w ↦ mentions-other_row s c.row_after-row.ensures c.args.v w.if-row-kind.false
          ]),
    )

pub returns : goal.returns
returns c =
    sym (c.loop-at.invariant.1 ∙ rw (tokens_none c.args.text.now c.loop-at.at c.loop-at-test.false) (mentions-none c.args.kind c.args.v c.loop-at.row))
