-- `solver::verdict::chosen` meets its contract: the search of the last frame over the free variables that are not entered. Assumes nothing.
use Rattle.solver.specs.Aim.{plain_asking}
use Rattle.solver.specs.Ask.{ready_grown, answered_yes, answered_no}
use Rattle.net.specs.Sheet.{net-form}
use Rattle.search.specs.SearchLaws.{tables_fit}
use Rattle.proxies.proofs.KeptLaws.{low_fits}
use mathlib.Core.Path.{◌∙◌}
use Rattle.solver.proofs.verdict.chosen.Goals as goal

pub solve-s-requires : goal.solve-s-requires
solve-s-requires c =
    (c.requires.0, plain_asking c.requires.1 c.free-free.ensures c.without.ensures c.of.ensures)

pub ensure-n-requires : goal.ensure-n-requires
ensure-n-requires c = (
  (tables_fit (c.form-form.ensures ∙ net-form c.requires.1.net_of) (ready_grown c.requires.1 c.solve-s.ensures.growing).tables).0,
  low_fits c.form-form.result _ c.low.ensures,
  low_fits c.form-form.result _ c.low-then-s-2.ensures,
)

pub returns-then-s : goal.returns-then-s
returns-then-s c =
    record {
      net_unchanged = c.solve-s.ensures.net_unchanged;
      same = λ s R. answered_yes R c.form-form.ensures c.free-free.ensures c.without.ensures c.of.ensures c.frames-last.ensures c.solve-s.ensures.growing (rw c.if-s.true at c.solve-s.ensures.settled) c.low.ensures c.low-then-s.ensures c.low-then-s-2.ensures c.ensure-n.ensures;
    }

pub ensure-n-requires-2 : goal.ensure-n-requires-2
ensure-n-requires-2 c = (
  (tables_fit (c.form-form.ensures ∙ net-form c.requires.1.net_of) (ready_grown c.requires.1 c.solve-s.ensures.growing).tables).1,
  low_fits c.form-form.result _ c.low-2.ensures,
  low_fits c.form-form.result _ c.low-4.ensures,
)

pub returns : goal.returns
returns c =
    record {
      net_unchanged = c.solve-s.ensures.net_unchanged;
      same = λ s R. answered_no R c.form-form.ensures c.free-free.ensures c.without.ensures c.of.ensures c.frames-last.ensures c.solve-s.ensures.growing (rw c.if-s.false at c.solve-s.ensures.settled) c.low-2.ensures c.low-3.ensures c.low-4.ensures c.ensure-n-2.ensures;
    }
