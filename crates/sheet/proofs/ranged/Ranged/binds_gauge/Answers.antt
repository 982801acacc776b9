-- `sheet::ranged::Ranged::binds_gauge` meets its contract: each way by words.
use borrow.Author.Tests.{ne_eqb}
use Rattle.sheet.specs.Rules.{binds_gauge}
use Rattle.sheet.proofs.CheckLaws.{meet-bound, binds_second}
use Rattle.sheet.proofs.ranged.Ranged.binds_gauge.Goals as goal

pub returns-then-bound-seen-ne0 : goal.returns-then-bound-seen-ne0
unfolding binds_gauge
returns-then-bound-seen-ne0 c =
    let s = c.args.self in
    simp (meet-bound s.form s.kind c.args.seen.gauges _ s.ranged c.bound.ensures, ne_eqb _ _ c.if-bound-seen-ne0.true)

pub returns-else-bound-seen-ne0 : goal.returns-else-bound-seen-ne0
returns-else-bound-seen-ne0 c =
    let s = c.args.self in
    binds_second s.form s.kind c.args.seen s.ranged _ _ c.bound.ensures c.gauges.ensures c.if-bound-seen-ne0.false
