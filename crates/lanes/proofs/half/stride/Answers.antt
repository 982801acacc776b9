-- `lanes::half::stride` meets its contract. Assumes nothing.
use native.Mathlib.Omega.{arith}
use Rattle.words.proofs.Mask.{one_shl}
use Rattle.lanes.proofs.PatternLaws.{stride_lt}
use Rattle.lanes.proofs.half.stride.Goals as goal

pub returns : goal.returns
returns c =
    let e = one_shl 8 c.args.p (omega (arith, c.requires)) in (e, rw e (stride_lt c.args.p c.requires))
