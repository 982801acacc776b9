-- `normal::visit::Walk::run` meets its contract.
use Rattle.std.proofs.Common.{◌≡◌, ℕ, ◌-◌, length, set, ap, ◌∙◌, arith, rules}
use Rattle.sheet.specs.Fields.{sheet_of}
use Rattle.sheet.specs.Rules.{last}
use Rattle.normal.proofs.VisitLaws.{begins, visited}
use Rattle.normal.proofs.visit.Walk.run.Goals as goal

pub loop-self-init : goal.loop-self-init
loop-self-init g c =
    let k : length c.args.self.now.frames.kinds ≡ g.row.N = search rules in
    let n : length c.args.self.now.numbers ≡ g.row.N = search rules in
    let w : length c.args.self.now.waiting.frames ≡ g.row.N = search rules in
    let v : c.frames-last.result - 1 ≡ last (sheet_of c.args.form c.args.sheet.now) = omega (arith, c.frames-last.ensures) in
    begins c.args.self.now.waiting.frames v
    (c.push.ensures.0 ∙ ap (λ (d : ℕ). set c.args.self.now.waiting.frames d (c.frames-last.result - 1)) c.requires.5)
    c.requires.4 (omega (arith, c.push.ensures.1, c.requires.5)) c.requires.0
    (omega (arith, c.requires.1, k)) (omega (arith, c.requires.1, n)) (omega (arith, c.requires.1, w)) c.requires.3

pub returns : goal.returns
returns g c = visited c.loop-self.invariant (omega arith)
