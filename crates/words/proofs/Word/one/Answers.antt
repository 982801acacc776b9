-- `words::Word::one` meets its contract: `1 << v` is 2 to the power v (`one_shl`). Assumes nothing.
use Rattle.std.proofs.Common.{◌∙◌}
use Rattle.words.proofs.Mask.{one_shl}
use Rattle.words.proofs.Word.one.Goals as goal

pub returns : goal.returns
returns g c =
    g.met.Self.Word.shl_law _ _ _ c.shl.ensures
    ∙ rw (c.LOWEST.ensures, g.met.Self.Word.lowest_law, c.from.ensures) (one_shl g.Self.Word.PLACES _ c.requires)
