-- `solver::verdict::ask` meets its contract: no setting of the unread gauges fails, or one does. Assumes nothing.
use mathlib.Core.Path.{sym, ◌∙◌}
use Rattle.net.specs.Sheet.{net-form}
use Rattle.solver.specs.Ask.{ready_some}
use Rattle.solver.specs.GaugedAsk.{answered_plain, answered_failed, ready_chosen, answered_chosen}
use Rattle.solver.proofs.verdict.ask.Goals as goal

pub returns-then-waiting-eq0 : goal.returns-then-waiting-eq0
returns-then-waiting-eq0 c =
    record {
      net_unchanged = c.chosen.ensures.net_unchanged;
      same = λ s R. answered_plain R (sym (c.unread-waiting.ensures s R.net_of) ∙ c.if-waiting-eq0.true) (c.chosen.ensures.same s R);
    }

pub failed-requires : goal.failed-requires
failed-requires c =
    let G = (c.failing-s.ensures.settled c.requires.0 c.requires.1).1 in (rw c.failing-s.ensures.net_unchanged c.requires.1.net_of.grounded, rw c.failing-s.ensures.net_unchanged (ready_some c.requires.1), rw (c.failing-s.ensures.net_unchanged, net-form c.requires.1.net_of) G.tables.over.fits)

pub returns-then-s : goal.returns-then-s
returns-then-s c =
    record {
      net_unchanged = c.failing-s.ensures.net_unchanged;
      same = λ s R. let F = (c.failing-s.ensures.settled s R) in rw c.failed.ensures.1 (answered_failed R (rw c.if-s.true at F.0) (c.unread-waiting.ensures s R.net_of) F.1 (rw c.failing-s.ensures.net_unchanged at c.failed.ensures.0));
    }

pub chosen-requires-2 : goal.chosen-requires-2
chosen-requires-2 c =
    let F = c.failing-s.ensures.settled c.requires.0 c.requires.1 in (c.requires.0, rw c.failing-s.ensures.net_unchanged (ready_chosen c.requires.1 (rw c.if-s.false at F.0) (c.unread-waiting.ensures c.requires.0 c.requires.1.net_of) F.1))

pub returns : goal.returns
returns c =
    record {
      net_unchanged = c.chosen-2.ensures.net_unchanged ∙ c.failing-s.ensures.net_unchanged;
      same = λ s R. let F = (c.failing-s.ensures.settled s R) in let L = rw c.if-s.false at F.0 in answered_chosen R L (c.unread-waiting.ensures s R.net_of) F.1 ((rw c.failing-s.ensures.net_unchanged at (c.chosen-2.ensures.same s)) (ready_chosen R L (c.unread-waiting.ensures s R.net_of) F.1));
    }
