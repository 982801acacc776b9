-- `dimacs::decode::blocks` meets its contract. The invariant: the stores that are left give what all stores give. Assumes nothing.
use native.Mathlib.Omega.{arith}
use mathlib.Core.Path.{sym, ◌∙◌}
use Rattle.dimacs.proofs.TokenLaws.{tokens-taken, tokens_none}
use Rattle.dimacs.proofs.RowSteps.{words_none, words_other_row, words_atom, words_next, storing_same, storing_next, storing-end}
use Rattle.dimacs.proofs.decode.blocks.Goals as goal
use Rattle.dimacs.proofs.decode.blocks.Goals.{then-row-eq-BLOCK+then-is_line, then-row-eq-BLOCK+else-is_line, else-row-eq-BLOCK}

pub loop-at-preserved : goal.loop-at-preserved
loop-at-preserved c =
    let s = tokens-taken c.next-taken.ensures in
    let r = c.row_after-row.ensures in
    let k = c.loop-at.invariant.2 in
    elim c.if-row-eq-BLOCK.branch [
      | then-row-eq-BLOCK+then-is_line w ↦ (
        c.next-taken.ensures.within,
        omega (arith, c.loop-at.invariant.1),
        storing_next k (words_next s r c.loop-at.word w.if-row-eq-BLOCK.true (sym w.is_line.ensures ∙ w.if-is_line.true) w.word-is) (w.words-is ∙ w.store.ensures) w.n-is,
      )
      | then-row-eq-BLOCK+else-is_line w ↦ (
        c.next-taken.ensures.within,
        omega (arith, c.loop-at.invariant.1),
        storing_same k (words_atom s r c.loop-at.word w.if-row-eq-BLOCK.true (sym w.is_line.ensures ∙ w.if-is_line.false) w.number_of.ensures w.with_atom-word.ensures w.word-is) w.words-is w.n-is,
      )
      | else-row-eq-BLOCK w ↦ (
        c.next-taken.ensures.within,
        omega (arith, c.loop-at.invariant.1),
        storing_same k (words_other_row s r c.loop-at.word w.if-row-eq-BLOCK.false w.word-is) w.words-is w.n-is,
      )
    ]

pub returns : goal.returns
returns c =
    storing-end c.loop-at.invariant.2 (rw (tokens_none c.args.text.now c.loop-at.at c.loop-at-test.false) (words_none c.loop-at.row c.loop-at.word))
