-- `sheet::ranged::Ranged::binds_again` meets its contract: by words.
use Rattle.std.proofs.Common.{sym}
use Rattle.sheet.proofs.CheckLaws.{meet-bound}
use Rattle.sheet.proofs.ranged.Ranged.binds_again.Goals as goal

pub returns : goal.returns
returns c =
    let s = c.args.self in
    sym (meet-bound s.form s.kind c.args.seen.bound _ s.ranged c.bound.ensures)
