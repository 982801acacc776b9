-- `solver::reason::gauged` meets its contract: the fold from the entries, for either verdict. Assumes nothing.
use mathlib.Core.Path.{◌∙◌}
use Rattle.records.proofs.Both.{tables_then}
use Rattle.solver.specs.WhyLaws.{ready_entered, gauged_aimed, held-fails, held-assured, reason-no, reason-yes}
use Rattle.solver.proofs.reason.gauged.Goals as goal

pub reduced-left-requires : goal.reduced-left-requires
reduced-left-requires c =
    let a = c.unread-all.ensures c.requires.0.0 c.requires.0.1.net_of in
    let b = c.ours-some.ensures c.requires.0.0 c.requires.0.1.net_of in
    let K = c.failing-s.ensures.settled c.requires.0.0 c.requires.0.1 in record {
      aimed = rw c.failing-s.ensures.net_unchanged (gauged_aimed c.requires.0.1 a b c.of-entered.ensures);
      ready = (c.requires.0.0, rw c.failing-s.ensures.net_unchanged (ready_entered c.requires.0.1 c.of-entered.ensures K.1), held-fails c.requires.0.1 a b c.of-entered.ensures (rw c.if-s.true at K.0) c.without.ensures);
    }

pub returns-then-s : goal.returns-then-s
returns-then-s c = record {
  net_unchanged = c.reduced-left.ensures.net_unchanged ∙ c.failing-s.ensures.net_unchanged;
  same = λ s R.
      let a = c.unread-all.ensures s R.net_of in
      let b = c.ours-some.ensures s R.net_of in
      let K = c.failing-s.ensures.settled s R in
      let H = held-fails R a b c.of-entered.ensures (rw c.if-s.true at K.0) c.without.ensures in
      let q = c.reduced-left.ensures.mask_value s (rw c.failing-s.ensures.net_unchanged (ready_entered R c.of-entered.ensures K.1)) H in
      (reason-no R a b c.of-entered.ensures c.requires.1 H q.0, tables_then K.1 q.1);
}

pub reduced-left-requires-2 : goal.reduced-left-requires-2
reduced-left-requires-2 c =
    let a = c.unread-all.ensures c.requires.0.0 c.requires.0.1.net_of in
    let b = c.ours-some.ensures c.requires.0.0 c.requires.0.1.net_of in
    let K = c.failing-s.ensures.settled c.requires.0.0 c.requires.0.1 in record {
      aimed = rw c.failing-s.ensures.net_unchanged (gauged_aimed c.requires.0.1 a b c.of-entered.ensures);
      ready = (c.requires.0.0, rw c.failing-s.ensures.net_unchanged (ready_entered c.requires.0.1 c.of-entered.ensures K.1), held-assured c.requires.0.1 a b c.of-entered.ensures (rw c.if-s.false at K.0));
    }

pub returns : goal.returns
returns c = record {
  net_unchanged = c.reduced-left-2.ensures.net_unchanged ∙ c.failing-s.ensures.net_unchanged;
  same = λ s R.
      let a = c.unread-all.ensures s R.net_of in
      let b = c.ours-some.ensures s R.net_of in
      let K = c.failing-s.ensures.settled s R in
      let H = held-assured R a b c.of-entered.ensures (rw c.if-s.false at K.0) in
      let q = c.reduced-left-2.ensures.mask_value s (rw c.failing-s.ensures.net_unchanged (ready_entered R c.of-entered.ensures K.1)) H in
      (reason-yes R a b c.of-entered.ensures c.requires.1 H q.0, tables_then K.1 q.1);
}
