-- `words::Word::inside` meets its contract: the test is the definition's. Assumes nothing.
use Rattle.words.specs.Mask.{inside}
use Rattle.words.proofs.Word.inside.Goals as goal

pub returns : goal.returns
unfolding inside
returns g c =
    cc (g.met.Self.Word.eq_law c.bitand.result c.args.self, g.met.Self.Word.bitand_law _ _ _ c.bitand.ensures)
