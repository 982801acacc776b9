-- `lanes::settle::seat` meets its contract: each variable gets the next position. Assumes nothing.
use native.Mathlib.Omega.{arith}
use Rattle.words.proofs.Mask.{top_bit, top_less, bits_sub, sub_trans, without_sub}
use Rattle.lanes.proofs.FillLaws.{seated_set}
use Rattle.lanes.proofs.settle.seat.Goals as goal

pub loop-rest-smaller : goal.loop-rest-smaller
loop-rest-smaller c =
    top_less c.highest-x.ensures.0 c.one.ensures c.without-rest.ensures

pub loop-rest-preserved : goal.loop-rest-preserved
loop-rest-preserved c = (
  omega (arith, c.loop-rest.invariant.0),
  rw c.without-rest.ensures (sub_trans (without_sub _ _) c.loop-rest.invariant.1),
  rw c.from.ensures (seated_set c.loop-rest.invariant.2 c.highest-x.ensures.1 (omega (arith, c.if-top-eq0.false)) c.loop-rest.invariant.0 (bits_sub c.loop-rest.invariant.1 _ (top_bit c.highest-x.ensures.0))),
)
