-- `prenex::clause::all_opposed` meets its contract. The invariant: the answer is that of the codes which are left, with the literals seen. Assumes nothing.
use Prim.Native.Nat.{ℕ, ◌^◌}
use native.Mathlib.Omega.{arith}
use mathlib.Core.Path.{sym, ap, ◌∙◌}
use Rattle.prenex.specs.Code.{clauses_of}
use Rattle.prenex.proofs.LiteralLaws.{variable-below}
use Rattle.prenex.proofs.OpposedLaws.{all_with, codes_over, not-opposed, is-opposed, sees_negative, sees_positive}
use Rattle.prenex.proofs.clause.all_opposed.Goals as goal
use Rattle.prenex.proofs.clause.all_opposed.Goals.{then-code-eq0+else-positive-negative-eq0, else-code-eq0+then-negative, else-code-eq0+else-negative}

pub loop-code-init : goal.loop-code-init
loop-code-init c =
    sym (all_with (clauses_of c.args.codes.now))

pub returns-then-positive-negative-eq0 : goal.returns-then-positive-negative-eq0
returns-then-positive-negative-eq0 c =
    sym (c.loop-code.invariant ∙ not-opposed c.args.codes.now c.loop-code.code-index c.loop-code.positive c.loop-code.negative c.loop-code-test.true c.if-code-eq0.true c.if-positive-negative-eq0.true)

pub one-one-requires : goal.one-one-requires
one-one-requires c =
    variable-below _ _ (c.requires.below c.loop-code.code-index) c.variable.ensures

pub loop-code-preserved : goal.loop-code-preserved
loop-code-preserved c =
    elim c.if-code-eq0.branch [
      | then-code-eq0+else-positive-negative-eq0 w ↦
          rw (w.positive-is, w.negative-is) (c.loop-code.invariant ∙ is-opposed c.args.codes.now c.loop-code.code-index c.loop-code.positive c.loop-code.negative c.loop-code-test.true w.if-code-eq0.true w.if-positive-negative-eq0.false)
      | else-code-eq0+then-negative w ↦
          rw (w.positive-is, w.negative-is)
          (c.loop-code.invariant ∙ sees_negative c.args.codes.now c.loop-code.code-index c.loop-code.positive c.loop-code.negative (omega (arith, c.requires.ended c.loop-code.code-index (omega (arith, w.if-code-eq0.false)))) w.if-code-eq0.false
          (w.one-one.ensures ∙ ap (λ (x : ℕ). 2 ^ x) w.variable.ensures) (sym w.negative.ensures ∙ w.if-negative.true))
      | else-code-eq0+else-negative w ↦
          rw (w.positive-is, w.negative-is)
          (c.loop-code.invariant ∙ sees_positive c.args.codes.now c.loop-code.code-index c.loop-code.positive c.loop-code.negative (omega (arith, c.requires.ended c.loop-code.code-index (omega (arith, w.if-code-eq0.false)))) w.if-code-eq0.false
          (w.one-one.ensures ∙ ap (λ (x : ℕ). 2 ^ x) w.variable.ensures) (sym w.negative.ensures ∙ w.if-negative.false))
    ]

pub returns : goal.returns
returns c =
    sym (c.loop-code.invariant ∙ codes_over c.args.codes.now c.loop-code.code-index c.loop-code.positive c.loop-code.negative c.loop-code-test.false)
