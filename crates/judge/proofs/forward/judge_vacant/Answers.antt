-- `judge::forward::judge_vacant` meets its contract. Assumes nothing.
use native.Mathlib.Omega.{arith}
use Rattle.judge.specs.JudgeLaws.{judging_put}
use Rattle.judge.proofs.forward.judge_vacant.Goals as goal

pub put-requires : goal.put-requires
put-requires c =
    (omega (arith, c.requires.1, c.requires.2.long), omega (arith, c.requires.1, c.requires.0.few), (c.judge_node-known.ensures (omega (arith, c.if-known-eq0.false))).low)

pub returns : goal.returns
returns c =
    judging_put (omega (arith, c.requires.1, c.requires.2.long)) (omega (arith, c.requires.1, c.requires.0.few)) c.requires.2 c.requires.3
    (omega (arith, c.if-known-eq0.false)) c.judge_node-known.ensures c.put.ensures
