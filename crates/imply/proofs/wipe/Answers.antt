-- `imply::wipe` meets its contract. Assumes nothing.
use Rattle.imply.specs.RequiredLaws.{wiped_front}
use Rattle.imply.proofs.wipe.Goals as goal

pub returns : goal.returns
returns c =
    wiped_front c.requires (c.fill.ensures.after (λ y e. e))
