-- `solver::reason::plain` meets its contract: document 01's start for each verdict, and the fold. Assumes nothing.
use mathlib.Core.Path.{◌∙◌}
use Rattle.records.proofs.Both.{tables_then}
use Rattle.solver.specs.Ask.{ready_grown}
use Rattle.solver.specs.Aim.{aimed_none}
use Rattle.solver.specs.Aim.{plain_asking}
use Rattle.solver.specs.WhyLaws.{ready_entered, ready_yes, held-yes, why-yes, held-no, why-no}
use Rattle.solver.proofs.reason.plain.Goals as goal

pub solve-s-requires : goal.solve-s-requires
solve-s-requires c =
    (c.requires.0, plain_asking c.requires.1 c.free-free.ensures c.without.ensures c.of-entered.ensures)

pub reduced-left-requires : goal.reduced-left-requires
reduced-left-requires c =
    let h = rw c.if-s.true at c.solve-s.ensures.settled in
    let G = ready_grown c.requires.1 c.solve-s.ensures.growing in record {
      aimed = aimed_none _ _;
      ready = (c.requires.0, rw c.solve-s.ensures.net_unchanged (ready_yes c.requires.1 c.free-free.ensures c.without.ensures c.of-entered.ensures h c.of.ensures G), held-yes c.requires.1 c.free-free.ensures c.without.ensures c.of-entered.ensures h c.of.ensures);
    }

pub returns-then-s : goal.returns-then-s
returns-then-s c =
    let h = rw c.if-s.true at c.solve-s.ensures.settled in record {
      net_unchanged = c.reduced-left.ensures.net_unchanged ∙ c.solve-s.ensures.net_unchanged;
      same = λ s R.
          let G = ready_grown R c.solve-s.ensures.growing in
          let q = c.reduced-left.ensures.mask_value s (rw c.solve-s.ensures.net_unchanged (ready_yes R c.free-free.ensures c.without.ensures c.of-entered.ensures h c.of.ensures G)) (held-yes R c.free-free.ensures c.without.ensures c.of-entered.ensures h c.of.ensures) in
          (why-yes R c.free-free.ensures c.without.ensures c.of-entered.ensures h c.of.ensures q.0, tables_then G q.1);
    }

pub reduced-left-requires-2 : goal.reduced-left-requires-2
reduced-left-requires-2 c =
    let h = rw c.if-s.false at c.solve-s.ensures.settled in
    let G = ready_grown c.requires.1 c.solve-s.ensures.growing in record {
      aimed = aimed_none _ _;
      ready = (c.requires.0, rw c.solve-s.ensures.net_unchanged (ready_entered c.requires.1 c.of-entered.ensures G), held-no c.requires.1 c.free-free.ensures c.without.ensures c.of-entered.ensures h);
    }

pub returns : goal.returns
returns c =
    let h = rw c.if-s.false at c.solve-s.ensures.settled in record {
      net_unchanged = c.reduced-left-2.ensures.net_unchanged ∙ c.solve-s.ensures.net_unchanged;
      same = λ s R.
          let G = ready_grown R c.solve-s.ensures.growing in
          let q = c.reduced-left-2.ensures.mask_value s (rw c.solve-s.ensures.net_unchanged (ready_entered R c.of-entered.ensures G)) (held-no R c.free-free.ensures c.without.ensures c.of-entered.ensures h) in
          (why-no R c.free-free.ensures c.without.ensures c.of-entered.ensures h q.0, tables_then G q.1);
    }
