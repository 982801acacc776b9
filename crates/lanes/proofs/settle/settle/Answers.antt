-- `lanes::settle::settle` meets its contract. Assumes nothing.
use mathlib.Core.Path.{refl}
use Rattle.lanes.proofs.SettleLaws.{narrowed_row, narrowed_none, narrowed_all}
use Rattle.lanes.proofs.settle.settle.Goals as goal

pub returns-then-start-eq0 : goal.returns-then-start-eq0
returns-then-start-eq0 c =
    λ f free R. narrowed_none (narrowed_row R c.requires.3 c.if-row-lanes-gt0.false c.requires.0 c.requires.1 c.aim-start.ensures.2 c.requires.2 refl refl) c.if-start-eq0.true

pub returns-then-end : goal.returns-then-end
returns-then-end c =
    λ f free R. narrowed_all (c.narrow-end.ensures.keeps (narrowed_row R c.requires.3 c.if-row-lanes-gt0.false c.requires.0 c.requires.1 c.aim-start.ensures.2 c.requires.2 c.aim-start.ensures.0 c.aim-start.ensures.1)) c.if-end.true free
