-- `prenex::block::write_runs` meets its contract. The invariant: the stores that are left give what all stores give. Assumes nothing.
use native.Mathlib.Omega.{arith}
use mathlib.Core.Path.{◌≡◌, sym, ◌∙◌}
use Rattle.words.specs.Word.{bit}
use Rattle.prenex.proofs.BlockLaws.{runs-start, runs_has, runs_lacks, runs-end}
use Rattle.prenex.proofs.block.write_runs.Goals as goal
use Rattle.prenex.proofs.block.write_runs.Goals.{then-has, else-has}

pub loop-x-init : goal.loop-x-init
loop-x-init c =
    runs-start c.args.exists (bit c.args.word) c.args.n c.args.out.now

pub loop-x-preserved : goal.loop-x-preserved
loop-x-preserved c =
    elim c.if-has.branch [
      | then-has w ↦ runs_has c.args.exists (bit c.args.word) c.args.n c.args.out.now c.loop-x.x c.loop-x.c c.loop-x.to c.loop-x.out c.loop-x.invariant c.loop-x-test.true _ _ _
          (sym c.has.ensures ∙ w.if-has.true) w.c-is w.to-is w.out-is
      | else-has w ↦ let r = w.write_run-to.ensures in
          runs_lacks c.args.exists (bit c.args.word) c.args.n c.args.out.now c.loop-x.x c.loop-x.c c.loop-x.to c.loop-x.out c.loop-x.invariant c.loop-x-test.true _ _ _
          (sym c.has.ensures ∙ w.if-has.false) w.c-is (w.to-is ∙ r.0) (rw w.to-is r.1) (w.out-is ∙ r.2)
    ]

pub returns : goal.returns
returns c =
    let z : c.loop-x.x ≡ 32 = omega arith in
    let r = c.write_run.ensures in
    let i = rw z at c.loop-x.invariant in
    let e = runs-end c.args.exists (bit c.args.word) c.args.n c.args.out.now 32 c.loop-x.c c.loop-x.to c.loop-x.out i (omega arith) _ _ r.0 r.2 in
    (e.0, omega arith, e.1)
