-- `normal::visit::Walk::turn` meets its contract.
use Rattle.std.proofs.Common.{◌≡◌, length, ◌∙◌, refl, arith, rules}
use Rattle.normal.proofs.VisitLaws.{stack-fits, turn_inside, turn-fit, next-room, turn_push, turn-room, turn-behind, turn-first, turn-put}
use Rattle.normal.proofs.visit.Walk.turn.Goals as goal

pub top-requires : goal.top-requires
top-requires g c =
    let n : length c.args.self.now.waiting.frames ≡ g.row.N = search rules in
    (search rules, (c.requires.1, omega (arith, stack-fits c.requires.0 c.requires.1, n)))

pub renamed-requires : goal.renamed-requires
renamed-requires g c = turn-fit c.requires.0 c.requires.1 (c.from-own.ensures ∙ c.top.ensures) c.decode-frame.ensures.1

pub push-requires : goal.push-requires
push-requires g c =
    let n : length c.args.self.now.waiting.frames ≡ g.row.N = search rules in
    (search rules, omega (arith, next-room c.requires.0 c.requires.1 (c.from-own.ensures ∙ c.top.ensures) c.decode-frame.ensures.1 c.in-Err.ensures, n))

pub put-number-requires : goal.put-number-requires
put-number-requires g c =
    let n : length c.args.self.now.frames.kinds ≡ g.row.N = search rules in
    let top = c.from-own.ensures ∙ c.top.ensures in
    let said = c.decode-frame.ensures.1 in (
      search rules,
      (
        omega (arith, turn-room c.requires.0 c.requires.1 top said c.in-Ok.ensures, n),
        turn-behind c.requires.0 c.requires.1 top said c.in-Ok.ensures,
        turn-first c.requires.0 c.requires.1 top said c.in-Ok.ensures,
      ),
    )

pub bounds-self-own : goal.bounds-self-own
bounds-self-own g c =
    let n : length c.args.self.now.numbers ≡ g.row.N = search rules in
    omega (arith, turn_inside c.requires.0 c.requires.1 (c.from-own.ensures ∙ c.top.ensures) c.decode-frame.ensures.1, n)

pub returns-in-Err : goal.returns-in-Err
returns-in-Err g c =
    turn_push c.requires.0 c.requires.1 (c.from-own.ensures ∙ c.top.ensures) c.decode-frame.ensures.1 c.in-Err.ensures c.push.ensures.0 c.push.ensures.1

pub returns-in-Ok : goal.returns-in-Ok
returns-in-Ok g c =
    let same : length c.put-number.new.self.kinds ≡ length c.args.self.now.frames.kinds = search rules in
    turn-put c.requires.0 c.requires.1 (c.from-own.ensures ∙ c.top.ensures) c.decode-frame.ensures.1 c.in-Ok.ensures c.put-number.ensures same refl c.pop.ensures.0 c.pop.ensures.1
