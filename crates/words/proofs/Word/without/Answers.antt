-- `words::Word::without` meets its contract: the two operations are the definition's. Assumes nothing.
use Rattle.words.specs.Mask.{without}
use Rattle.words.proofs.Word.without.Goals as goal

pub returns : goal.returns
unfolding without
returns g c =
    cc (g.met.Self.Word.bitand_law _ _ _ c.bitand.ensures, g.met.Self.Word.bitxor_law _ _ _ c.bitxor.ensures)
