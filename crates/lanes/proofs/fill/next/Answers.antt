-- `lanes::fill::next` meets its contract: a value that is known, or the row that follows from those before. Assumes nothing.
use native.Mathlib.Omega.{arith}
use mathlib.Core.Path.{sym, ◌∙◌}
use Rattle.net.specs.Layout.{val}
use Rattle.lanes.proofs.FillLaws.{added, row_known}
use Rattle.lanes.proofs.fill.next.Goals as goal

pub returns-then-known-ne0 : goal.returns-then-known-ne0
unfolding val
returns-then-known-ne0 c =
    added c.keep.ensures c.requires.2
    (row_known c.args.k c.requires.3 c.known_at-known.ensures.0 c.known_at-known.ensures.1 (omega (arith, c.if-known-ne0.true)) c.constant-row.ensures)

pub row_of-row-requires : goal.row_of-row-requires
row_of-row-requires c =
    (c.requires.0, c.requires.1, c.requires.2, c.requires.4 (sym c.known_at-known.ensures.0 ∙ c.if-known-ne0.false))

pub returns : goal.returns
returns c =
    added c.keep-2.ensures c.requires.2 c.row_of-row.ensures
