-- `dimacs::atoms::proper_atoms` meets its contract. The invariant: the answer is that of the fields which are still to be read. Assumes nothing.
use mathlib.Core.Bool.{not}
use mathlib.Core.Path.{sym, ap, ◌∙◌}
use Rattle.dimacs.proofs.TokenLaws.{tokens-taken, tokens_none}
use Rattle.dimacs.proofs.RowSteps.{proper-none, proper-other_row, proper-zero, proper-next, proper-fails}
use Rattle.dimacs.proofs.atoms.proper_atoms.Goals as goal

pub returns-then-not-proper_atom : goal.returns-then-not-proper_atom
returns-then-not-proper_atom c =
    let s = tokens-taken c.next-taken.ensures in
    sym (c.loop-at.invariant.1 ∙ proper-fails s c.row_after-row.ensures c.if-before-eq-BLOCK.true c.number_of-v.ensures c.if-v-ne0.true c.proper_atom.ensures (ap not c.if-not-proper_atom.true))

pub loop-at-preserved-else-not-proper_atom : goal.loop-at-preserved-else-not-proper_atom
loop-at-preserved-else-not-proper_atom c =
    let s = tokens-taken c.next-taken.ensures in
    (c.next-taken.ensures.within, c.loop-at.invariant.1 ∙ proper-next s c.row_after-row.ensures c.if-before-eq-BLOCK.true c.number_of-v.ensures c.if-v-ne0.true c.proper_atom.ensures (ap not c.if-not-proper_atom.false))

pub loop-at-preserved-else-v-ne0 : goal.loop-at-preserved-else-v-ne0
loop-at-preserved-else-v-ne0 c =
    let s = tokens-taken c.next-taken.ensures in
    (c.next-taken.ensures.within, c.loop-at.invariant.1 ∙ proper-zero s c.row_after-row.ensures c.if-before-eq-BLOCK.true c.number_of-v.ensures c.if-v-ne0.false)

pub loop-at-preserved : goal.loop-at-preserved
loop-at-preserved c =
    let s = tokens-taken c.next-taken.ensures in
    (c.next-taken.ensures.within, c.loop-at.invariant.1 ∙ proper-other_row s c.row_after-row.ensures c.if-before-eq-BLOCK.false)

pub returns : goal.returns
returns c =
    sym (c.loop-at.invariant.1 ∙ rw (tokens_none c.args.text.now c.loop-at.at c.loop-at-test.false) (proper-none c.loop-at.row))
