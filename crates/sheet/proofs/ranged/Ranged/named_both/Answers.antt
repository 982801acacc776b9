-- `sheet::ranged::Ranged::named_both` meets its contract: each way by words.
use borrow.Author.Tests.{ne_eqb}
use Rattle.sheet.specs.Rules.{named_both}
use Rattle.sheet.proofs.CheckLaws.{meet-input, named_second}
use Rattle.sheet.proofs.ranged.Ranged.named_both.Goals as goal

pub returns-then-inputs-seen-ne0 : goal.returns-then-inputs-seen-ne0
unfolding named_both
returns-then-inputs-seen-ne0 c =
    let s = c.args.self in
    simp (meet-input s.form s.kind c.args.seen.gauges _ s.ranged c.inputs.ensures, ne_eqb _ _ c.if-inputs-seen-ne0.true)

pub returns-else-inputs-seen-ne0 : goal.returns-else-inputs-seen-ne0
returns-else-inputs-seen-ne0 c =
    let s = c.args.self in
    named_second s.form s.kind c.args.seen s.ranged _ _ c.inputs.ensures c.gauges.ensures c.if-inputs-seen-ne0.false
