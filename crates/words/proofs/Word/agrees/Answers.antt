-- `words::Word::agrees` meets its contract: the test is the definition's. Assumes nothing.
use Rattle.words.specs.Mask.{agree}
use Rattle.words.proofs.Word.agrees.Goals as goal

pub returns : goal.returns
unfolding agree
returns g c =
    cc (g.met.Self.Word.eq_law c.bitand.result c.args.values, g.met.Self.Word.bitand_law _ _ _ c.bitand.ensures)
