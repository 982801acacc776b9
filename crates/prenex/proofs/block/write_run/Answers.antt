-- `prenex::block::write_run` meets its contract. Assumes nothing.
use native.Mathlib.Omega.{arith}
use Rattle.prenex.proofs.BlockLaws.{quantifier_fits, run_none, run-one}
use Rattle.prenex.proofs.block.write_run.Goals as goal

pub returns-then-c-eq0 : goal.returns-then-c-eq0
returns-then-c-eq0 c =
    run_none c.args.exists c.args.x c.args.c c.args.n c.args.out.now c.if-c-eq0.true

pub put-requires : goal.put-requires
put-requires c = λ h.
    rw c.quantifier.ensures (quantifier_fits c.args.exists _ _ _ (omega arith) (omega arith) (omega arith))

pub returns : goal.returns
returns c =
    run-one c.args.exists c.args.x c.args.c c.args.n c.args.out.now _ c.if-c-eq0.false
    (rw (c.quantifier.ensures, c.from.ensures, c.from-2.ensures) at c.put.ensures)
