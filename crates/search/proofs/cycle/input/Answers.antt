-- `search::cycle::input` meets its contract. Assumes nothing.
use Rattle.std.proofs.Common.{sym, ◌∙◌, arith}
use Rattle.net.specs.Layout.{val}
use Rattle.search.proofs.cycle.input.Goals as goal

pub returns-then-has : goal.returns-then-has
unfolding val
returns-then-has c =
    (sym c.if-has.true ∙ c.has.ensures, c.one-only.ensures, omega arith, omega arith)

pub returns : goal.returns
unfolding val
returns c =
    (sym c.if-has.false ∙ c.has.ensures, c.one-only.ensures, omega arith, omega arith)
