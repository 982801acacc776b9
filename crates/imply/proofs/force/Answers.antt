-- `imply::force` meets its contract: the wants are right, and so are the variables forced so far. Assumes nothing.
use native.Mathlib.Omega.{arith}
use mathlib.Core.Path.{refl, ◌∙◌}
use Rattle.imply.specs.RequiredLaws.{required_root, wanted_wiped, forcing_none}
use Rattle.imply.proofs.force.Goals as goal

pub loop-k-init : goal.loop-k-init
loop-k-init c = (
  c.offer.ensures.1 _ _ _ _ _ (wanted_wiped c.wipe.ensures c.requires.2) (required_root c.requires.0.target_low),
  forcing_none c.requires.1 refl refl,
  refl,
)

pub loop-k-preserved : goal.loop-k-preserved
loop-k-preserved c =
    let next = c.force_at-f.ensures.1 _ _ (omega arith) c.loop-k.invariant.0 c.loop-k.invariant.1 in
    (next.0, next.1, c.force_at-f.ensures.0 ∙ c.loop-k.invariant.2)
