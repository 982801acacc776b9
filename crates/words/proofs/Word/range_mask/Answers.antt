-- `words::Word::range_mask` meets its contract: the shifts make the run (`range_shifts`), and no shift is asked for an empty one. Assumes nothing.
use Rattle.std.proofs.Common.{◌∙◌}
use Rattle.words.proofs.Mask.{range_none, range_shifts}
use Rattle.words.proofs.Word.range_mask.Goals as goal

pub returns-then-c-eq0 : goal.returns-then-c-eq0
returns-then-c-eq0 g c =
    rw (c.NONE.ensures, g.met.Self.Word.none_law, c.if-c-eq0.true, range_none)

pub returns : goal.returns
returns g c =
    g.met.Self.Word.shl_law _ _ _ c.shl.ensures
    ∙ rw (g.met.Self.Word.shr_law _ _ _ c.shr.ensures, c.ALL.ensures, g.met.Self.Word.all_law, c.from.ensures, c.from-2.ensures, c.PLACES.ensures)
    (range_shifts g.Self.Word.PLACES _ _ c.requires)
