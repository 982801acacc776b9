-- `prenex::literal::find_occurring` meets its contract. The invariant: what is found, with what the codes that are left have, is what all have. Assumes nothing.
use Prim.Native.Nat.{◌+◌}
use mathlib.Core.Path.{refl}
use Rattle.prenex.proofs.LiteralLaws.{found-start, found-end, found-same, found_clause, found-literal}
use Rattle.prenex.proofs.literal.find_occurring.Goals as goal
use Rattle.prenex.proofs.literal.find_occurring.Goals.{then-code-ne0, else-code-ne0}

pub loop-code-init : goal.loop-code-init
loop-code-init c =
    found-start c.args.codes.now

pub loop-code-preserved : goal.loop-code-preserved
loop-code-preserved c =
    let i = c.loop-code.code-index in
    elim c.if-code-ne0.branch [
      | then-code-ne0 w ↦ found-same c.args.codes.now (i + 1) (found-literal c.args.codes.now i c.loop-code.found c.loop-code.invariant _ c.loop-code-test.true refl w.if-code-ne0.true _ w.with_literal-found.ensures) w.found-is
      | else-code-ne0 w ↦ found-same c.args.codes.now (i + 1) (found_clause c.args.codes.now i c.loop-code.found c.loop-code.invariant _ c.loop-code-test.true refl w.if-code-ne0.false) w.found-is
    ]

pub returns : goal.returns
returns c =
    found-end c.args.codes.now c.loop-code.code-index c.loop-code.found c.loop-code.invariant c.loop-code-test.false
