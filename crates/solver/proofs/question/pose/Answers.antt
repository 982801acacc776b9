-- `solver::question::pose` meets its contract: the question's quantifiers are put one over the other. Assumes nothing.
use mathlib.Core.Path.{refl}
use native.Mathlib.Omega.{arith}
use Rattle.solver.specs.QuestionLaws.{first_stacked, second_stacked, second_low, pose_placed}
use Rattle.solver.proofs.question.pose.Goals as goal

pub layer-outer-requires : goal.layer-outer-requires
layer-outer-requires c =
    let S = first_stacked c.requires.1 c.layer-inner.ensures in (S.grounded, omega (arith, S.frames-same, S.some), omega (arith, c.layer-inner.ensures.low))

pub choose-requires : goal.choose-requires
choose-requires c =
    let S = second_stacked c.requires.1 c.layer-inner.ensures c.layer-outer.ensures in (S.grounded, omega (arith, S.frames-same, S.some), second_low c.requires.1 c.layer-inner.ensures c.layer-outer.ensures)

pub overflow_add-result : goal.overflow_add-result
overflow_add-result c =
    let P = pose_placed c.requires.1 c.layer-inner.ensures c.layer-outer.ensures c.choose.ensures c.frames.ensures refl in omega (arith, P.here, P.stacked.within, P.stacked.grounded.room, P.stacked.grounded.few, P.stacked.frames-same)

pub returns : goal.returns
returns c =
    λ s N. pose_placed N c.layer-inner.ensures c.layer-outer.ensures c.choose.ensures c.frames.ensures refl
