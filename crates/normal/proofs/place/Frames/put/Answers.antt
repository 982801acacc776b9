-- `normal::place::Frames::put` meets its contract.
use Rattle.std.proofs.Common.{◌≡◌, length, arith, rules}
use Rattle.normal.proofs.CodeLaws.{puts_old, puts_new}
use Rattle.normal.proofs.place.Frames.put.Goals as goal

pub returns-in-Some : goal.returns-in-Some
returns-in-Some g c =
    let n : length c.args.self.now.kinds ≡ g.row.N = search rules in
    puts_old c.args.self.now.kinds c.args.self.now.count c.first_place-first.result (omega (arith, c.requires.2, c.first_place-first.ensures)) (omega (arith, c.requires.0, n)) c.requires.1 c.first_place-first.ensures
    c.in-Some.ensures.0 c.in-Some.ensures.1 c.in-Some.ensures.2

pub returns : goal.returns
returns g c =
    let n : length c.args.self.now.kinds ≡ g.row.N = search rules in
    puts_new c.args.self.now.kinds c.args.self.now.count c.first_place-first.result (omega (arith, c.requires.2, c.first_place-first.ensures)) (omega (arith, c.requires.0, n)) c.requires.1 c.first_place-first.ensures c.in_default.ensures
