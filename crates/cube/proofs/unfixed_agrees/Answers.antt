-- `cube::unfixed_agrees` meets its contract: the constant's two words are 0 (`agree-none`). Assumes nothing.
use Rattle.std.proofs.Common.{◌∙◌}
use Rattle.words.proofs.Mask.{agree-none}
use Rattle.cube.proofs.unfixed_agrees.Goals as goal

pub returns : goal.returns
returns c =
    c.agrees.ensures ∙ agree-none _
