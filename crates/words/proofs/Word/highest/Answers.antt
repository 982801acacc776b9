-- `words::Word::highest` meets its contract: the highest place is as far from the last as there are leading zeros (`top_of`). Assumes nothing.
use Rattle.std.proofs.Common.{arith}
use Rattle.words.proofs.Mask.{top_of}
use Rattle.words.proofs.Word.highest.Goals as goal

pub returns : goal.returns
returns g c =
    let t = top_of g.Self.Word.PLACES _ c.requires c.leading_zeros-zeros.ensures.fits in
    rw (c.from.ensures, c.PLACES.ensures, c.leading_zeros-zeros.ensures.zeros) (t.0, omega (arith, t.1))
