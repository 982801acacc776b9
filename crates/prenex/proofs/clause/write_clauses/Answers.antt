-- `prenex::clause::write_clauses` meets its contract. The invariant: the stores that are left give what all stores give. Assumes nothing.
use native.Mathlib.Omega.{arith}
use Rattle.prenex.proofs.ClauseLaws.{going_none, going_end, going_literal, going_done, frames-short}
use Rattle.prenex.proofs.clause.write_clauses.Goals as goal
use Rattle.prenex.proofs.clause.write_clauses.Goals.{then-code-eq0+then-not-first, then-code-eq0+else-not-first, else-code-eq0}

pub loop-code-preserved : goal.loop-code-preserved
loop-code-preserved c =
    elim c.if-code-eq0.branch [
      | then-code-eq0+then-not-first w ↦ rw (w.out-is, w.ends-is, w.n-is, w.k-is, w.at-is, w.first-is)
          (going_end c.loop-code.invariant c.loop-code-test.true w.if-code-eq0.true w.if-not-first.true w.store.ensures)
      | then-code-eq0+else-not-first w ↦ rw (w.out-is, w.ends-is, w.n-is, w.k-is, w.at-is, w.first-is)
          (going_none c.loop-code.invariant c.loop-code-test.true w.if-code-eq0.true w.if-not-first.false)
      | else-code-eq0 w ↦ rw (w.out-is, w.ends-is, w.n-is, w.k-is, w.at-is, w.first-is)
          (going_literal c.loop-code.invariant (omega (arith, c.requires.0.ended c.loop-code.code-index (omega (arith, w.if-code-eq0.false)))) w.if-code-eq0.false w.literal_frame.ensures.0 w.literal_frame.ensures.1 w.join_literal-linked.ensures)
    ]

pub returns : goal.returns
returns c =
    going_done c.loop-code.invariant c.loop-code-test.false (frames-short _ _ c.args.codes.now c.requires.0.below)
