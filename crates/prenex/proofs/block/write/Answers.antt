-- `prenex::block::write` meets its contract. The invariant: what stands are the quantifiers of the blocks that had their turn, the last ones. Assumes nothing.
use Prim.Native.Nat.{◌-◌}
use native.Mathlib.Omega.{arith}
use native.Mathlib.Numerals.{unary_clauses}
use lib.ListN.{length}
use Rattle.std.proofs.lemmas.List.{length_push, length-reverse}
use Rattle.std.proofs.lemmas.Iterator.Adapters.{YieldsList-from_rev_slice}
use Rattle.std.proofs.lemmas.Iterator.Consumers.{YieldsList-turn, YieldsList-end}
use Rattle.prenex.proofs.BlockLaws.{word_behind, blocks_start, blocks_more, blocks_end}
use Rattle.prenex.proofs.block.write.Goals as goal

pub loop-word-init : goal.loop-word-init
loop-word-init c =
    simp unary_clauses (blocks_start c.args.words.now c.args.n c.args.out.now)

pub loop-word-preserved : goal.loop-word-preserved
loop-word-preserved c =
    let ws = c.args.words.now in
    let t = YieldsList-turn (YieldsList-from_rev_slice ws (cc)) c.loop-word.yielded _ c.loop-word.yielded_by _ _ c.in-Some.word c.in-Some.is c.next.ensures.steps in
    let r = length-reverse ws in
    let p = length_push c.loop-word.yielded c.in-Some.word in
    blocks_more ws c.args.n c.args.out.now c.loop-word.exists (length ws - length c.loop-word.yielded) c.loop-word.to c.loop-word.out c.loop-word.invariant _ _ _ _ (omega arith)
    (word_behind ws (length c.loop-word.yielded) _ _ t.1 (omega arith)) c.write_runs-to.ensures.0 c.write_runs-to.ensures.1 c.write_runs-to.ensures.2

pub returns : goal.returns
returns c =
    let ws = c.args.words.now in
    let t = YieldsList-end (YieldsList-from_rev_slice ws (cc)) c.loop-word.yielded _ c.loop-word.yielded_by _ _ c.in-None.is c.next.ensures.steps in
    let r = length-reverse ws in
    blocks_end ws c.args.n c.args.out.now c.loop-word.exists (length ws - length c.loop-word.yielded) c.loop-word.to c.loop-word.out c.loop-word.invariant (omega arith)
