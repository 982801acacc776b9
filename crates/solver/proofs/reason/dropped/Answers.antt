-- `solver::reason::dropped` meets its contract: one turn of the definition's fold. Assumes nothing.
use mathlib.Core.Path.{refl, sym, ◌∙◌}
use Rattle.records.proofs.Both.{tables_same}
use Rattle.net.specs.Layout.{number-some, number-low, number-not}
use Rattle.solver.specs.Ask.{ready_grown}
use Rattle.solver.specs.Why.{turned_absent, turned_idle, less_asking, turned_dropped, turned-kept}
use Rattle.solver.proofs.reason.dropped.Goals as goal

pub returns-then-not-has : goal.returns-then-not-has
returns-then-not-has c = record {
  net_unchanged = refl;
  turned = λ s R. (turned_absent (sym c.has.ensures ∙ c.if-not-has.true), tables_same R.tables);
}

pub returns-then-not-has-2 : goal.returns-then-not-has-2
returns-then-not-has-2 c = record {
  net_unchanged = refl;
  turned = λ s R. (turned_idle R c.requires.aimed.1 (number-some _) (number-low _) c.requires.variable_low c.free-less.ensures (sym c.has-2.ensures ∙ c.if-not-has-2.true), tables_same R.tables);
}

pub solve-s-requires : goal.solve-s-requires
solve-s-requires c =
    (c.requires.aimed.0.0, less_asking c.requires.aimed.0.1 c.requires.aimed.1 (number-some _) (number-low _) c.requires.variable_low c.free-less.ensures c.reach.ensures c.without.ensures (number-not c.args.aim.v))

pub returns-then-s : goal.returns-then-s
returns-then-s c = record {
  net_unchanged = c.solve-s.ensures.net_unchanged;
  turned = λ s R. (turned-kept R c.requires.aimed.1 (number-some _) (number-low _) c.requires.variable_low c.free-less.ensures c.reach.ensures c.without.ensures (number-not c.args.aim.v) (rw c.if-s.true at c.solve-s.ensures.settled), ready_grown R c.solve-s.ensures.growing);
}

pub returns : goal.returns
returns c = record {
  net_unchanged = c.solve-s.ensures.net_unchanged;
  turned = λ s R. (turned_dropped R c.requires.aimed.1 (number-some _) (number-low _) c.requires.variable_low c.free-less.ensures c.reach.ensures c.without.ensures (number-not c.args.aim.v) (rw c.if-s.false at c.solve-s.ensures.settled), ready_grown R c.solve-s.ensures.growing);
}
