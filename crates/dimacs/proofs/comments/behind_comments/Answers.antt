-- `comments::behind_comments` meets its contract. The invariant: from here on the same is left behind the comment lines. Assumes nothing.
use native.Mathlib.Omega.{arith}
use mathlib.Core.Path.{◌≡◌, sym, ◌∙◌}
use lib.ListN.{length}
use Rattle.dimacs.proofs.FieldLaws.{comments_none, comments_inside, comments_start, comments_stop}
use Rattle.dimacs.proofs.comments.behind_comments.Goals as goal
use Rattle.dimacs.proofs.comments.behind_comments.Goals.{then-inside, else-inside+else-b-ne99}

pub returns-then-b-ne99 : goal.returns-then-b-ne99
returns-then-b-ne99 c =
    (sym (c.loop-at.invariant ∙ rw c.if-inside.false (comments_stop c.args.text.now c.loop-at.at c.loop-at-test.true c.if-b-ne99.true)), omega arith)

pub loop-at-preserved : goal.loop-at-preserved
loop-at-preserved c =
    elim c.if-inside.branch [
      | then-inside w ↦ c.loop-at.invariant ∙ rw (w.if-inside.true, w.inside-is) (comments_inside c.args.text.now c.loop-at.at c.loop-at-test.true)
      | else-inside+else-b-ne99 w ↦ c.loop-at.invariant ∙ rw (w.if-inside.false, w.inside-is) (comments_start c.args.text.now c.loop-at.at c.loop-at-test.true w.if-b-ne99.false)
    ]

pub returns : goal.returns
returns c =
    let z : c.loop-at.at ≡ length c.args.text.now = omega arith in
    (rw z at (sym (c.loop-at.invariant ∙ comments_none c.loop-at.inside c.args.text.now c.loop-at.at c.loop-at-test.false)), omega arith)
