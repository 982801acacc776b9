-- `lanes::settle::step` meets its contract. Assumes nothing.
use Rattle.words.proofs.Mask.{top_less}
use Rattle.lanes.proofs.SettleLaws.{onward_idle, onward-same, onward-low, onward-high}
use Rattle.lanes.proofs.settle.step.Goals as goal

pub returns-then-p-ge6 : goal.returns-then-p-ge6
returns-then-p-ge6 c =
    (top_less c.highest-x.ensures.0 c.one-only.ensures c.without-left.ensures, onward_idle c.highest-x.ensures.0 c.one-only.ensures c.without-left.ensures)

pub returns-then-lo-hi : goal.returns-then-lo-hi
returns-then-lo-hi c =
    (top_less c.highest-x.ensures.0 c.one-only.ensures c.without-left.ensures, onward-same c.highest-x.ensures.0 c.one-only.ensures c.without-left.ensures c.place_of-p.ensures c.if-p-ge6.false c.half-lo.ensures c.half-hi.ensures c.if-lo-hi.true)

pub returns-then-lo-eq0 : goal.returns-then-lo-eq0
returns-then-lo-eq0 c =
    (top_less c.highest-x.ensures.0 c.one-only.ensures c.without-left.ensures, onward-high c.highest-x.ensures.0 c.one-only.ensures c.without-left.ensures c.place_of-p.ensures c.if-p-ge6.false c.half-lo.ensures c.half-hi.ensures c.if-lo-hi.false c.if-lo-eq0.true)

pub returns : goal.returns
returns c =
    (top_less c.highest-x.ensures.0 c.one-only.ensures c.without-left.ensures, onward-low c.highest-x.ensures.0 c.one-only.ensures c.without-left.ensures c.place_of-p.ensures c.if-p-ge6.false c.half-lo.ensures c.half-hi.ensures c.if-lo-hi.false)
