-- `token::word_end` meets its contract. The invariant: the word from here on ends where the whole word does. Assumes nothing.
use native.Mathlib.Omega.{arith}
use mathlib.Core.Path.{◌≡◌, sym, ◌∙◌}
use lib.ListN.{length}
use Rattle.dimacs.proofs.FieldLaws.{word_none, word_stop, word-go}
use Rattle.dimacs.proofs.token.word_end.Goals as goal

pub returns-then-separates : goal.returns-then-separates
returns-then-separates c =
    let w = word_stop c.args.text.now c.loop-at.at c.loop-at-test.true (sym c.separates.ensures ∙ c.if-separates.true) in
    (c.loop-at.invariant c.loop-at.at (omega arith) (omega arith) w, omega arith, omega arith)

pub loop-at-preserved : goal.loop-at-preserved
loop-at-preserved c =
    word-go c.args.text.now c.loop-at.at c.loop-at-test.true c.args.from c.loop-at.invariant (sym c.separates.ensures ∙ c.if-separates.false)

pub returns : goal.returns
returns c =
    let z : c.loop-at.at ≡ length c.args.text.now = omega arith in
    let w = word_none c.args.text.now c.loop-at.at c.loop-at-test.false in
    (rw z at (c.loop-at.invariant c.loop-at.at (omega arith) (omega arith) w), omega arith, omega arith)
