-- `token::skip_blanks` meets its contract. The invariant: from here on the same is left behind the blanks. Assumes nothing.
use native.Mathlib.Omega.{arith}
use mathlib.Core.Path.{◌≡◌, sym, ◌∙◌}
use lib.ListN.{length}
use Rattle.dimacs.proofs.FieldLaws.{blanks_none, blanks_stop, blanks_go}
use Rattle.dimacs.proofs.token.skip_blanks.Goals as goal

pub returns-then-not-blank : goal.returns-then-not-blank
returns-then-not-blank c =
    (sym (c.loop-at.invariant ∙ blanks_stop c.args.text.now c.loop-at.at c.loop-at-test.true (sym c.blank.ensures ∙ c.if-not-blank.true)), omega arith, omega arith)

pub loop-at-preserved : goal.loop-at-preserved
loop-at-preserved c =
    c.loop-at.invariant ∙ blanks_go c.args.text.now c.loop-at.at c.loop-at-test.true (sym c.blank.ensures ∙ c.if-not-blank.false)

pub returns : goal.returns
returns c =
    let z : c.loop-at.at ≡ length c.args.text.now = omega arith in
    (rw z at (sym (c.loop-at.invariant ∙ blanks_none c.args.text.now c.loop-at.at c.loop-at-test.false)), omega arith, omega arith)
