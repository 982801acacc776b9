-- `prenex::literal::rank` meets its contract. The invariant: those counted and those that are left are all. Assumes nothing.
use Prim.Native.Nat.{suc, ◌+◌, ◌-◌}
use native.Mathlib.Omega.{arith}
use mathlib.Core.Path.{◌≡◌, sym, ◌∙◌}
use Rattle.words.specs.Word.{bit}
use Rattle.prenex.proofs.LiteralLaws.{count_none, count_has, count_lacks}
use Rattle.prenex.proofs.literal.rank.Goals as goal
use Rattle.prenex.proofs.literal.rank.Goals.{then-has, else-has}

pub loop-y-preserved : goal.loop-y-preserved
loop-y-preserved c =
    let e : c.args.x - c.loop-y.y ≡ suc (c.args.x - (c.loop-y.y + 1)) = omega arith in
    let h = rw e at c.loop-y.invariant.1 in
    elim c.if-has.branch [
      | then-has w ↦ (omega arith, omega (arith, h, count_has (bit c.args.word) c.loop-y.y (c.args.x - (c.loop-y.y + 1)) (sym c.has.ensures ∙ w.if-has.true)))
      | else-has w ↦ (omega arith, omega (arith, h, count_lacks (bit c.args.word) c.loop-y.y (c.args.x - (c.loop-y.y + 1)) (sym c.has.ensures ∙ w.if-has.false)))
    ]

pub returns : goal.returns
returns c =
    let z : c.args.x - c.loop-y.y ≡ 0 = omega arith in
    let h = rw (z, count_none (bit c.args.word) c.loop-y.y) at c.loop-y.invariant.1 in
    (omega (arith, h), omega arith)
