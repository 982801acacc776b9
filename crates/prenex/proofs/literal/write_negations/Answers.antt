-- `prenex::literal::write_negations` meets its contract. The invariant: the stores that are left give what all stores give. Assumes nothing.
use native.Mathlib.Omega.{arith}
use mathlib.Core.Path.{sym, ◌∙◌}
use Rattle.words.specs.Word.{bit}
use Rattle.prenex.proofs.LiteralLaws.{stored_has, stored_lacks, stored-end}
use Rattle.prenex.proofs.literal.write_negations.Goals as goal
use Rattle.prenex.proofs.literal.write_negations.Invariants.{negation}
use Rattle.prenex.proofs.literal.write_negations.Goals.{then-has, else-has}

pub loop-x-preserved : goal.loop-x-preserved
loop-x-preserved c =
    elim c.if-has.branch [
      | then-has w ↦ stored_has (bit c.args.negated) (negation c.args.all) c.args.inputs c.args.out.now c.loop-x.x c.loop-x.n c.loop-x.out c.loop-x.invariant c.loop-x-test.true _ _
          (sym c.has.ensures ∙ w.if-has.true) w.n-is (w.out-is ∙ rw w.rank.ensures.0 at w.put.ensures)
      | else-has w ↦ stored_lacks (bit c.args.negated) (negation c.args.all) c.args.inputs c.args.out.now c.loop-x.x c.loop-x.n c.loop-x.out c.loop-x.invariant c.loop-x-test.true _ _
          (sym c.has.ensures ∙ w.if-has.false) w.n-is w.out-is
    ]

pub returns : goal.returns
returns c =
    let e = stored-end (bit c.args.negated) (negation c.args.all) c.args.inputs c.args.out.now c.loop-x.x c.loop-x.n c.loop-x.out c.loop-x.invariant c.loop-x-test.false in
    (e.0, omega arith, e.1)
