-- `solver::question::solve_in` meets its contract: the search of the quantifiers that the question put behind the frames. Assumes nothing.
use Rattle.net.specs.OwnLaws.{stacked_back}
use Rattle.solver.specs.QuestionLaws.{asked_ground, asked-blank, asked_checked, asked-lent, asked_binds, asked-body, asked_solved, asked_grown}
use Rattle.solver.proofs.question.solve_in.Goals as goal

pub judge-requires : goal.judge-requires
judge-requires c =
    let P = (c.pose-own.ensures c.requires.asking.0 c.requires.asking.1.masks) in (asked_ground c.requires.asking.1 P, asked-body c.requires.asking.1 P c.node_at-node.ensures.is, asked-blank c.requires.asking.1 P c.requires.scratch)

pub choose-out-requires : goal.choose-out-requires
choose-out-requires c =
    let P = (c.pose-own.ensures c.requires.asking.0 c.requires.asking.1.masks) in record {
      is = (_, _, c.node_at-node.ensures.is, asked_binds c.requires.asking.1 P c.node_at-node.ensures.is, c.decided.ensures);
      checked = asked_checked c.requires.asking.1 P c.judge.ensures.judged;
      lent = asked-lent c.requires.asking.1 P c.requires.scratch;
    }

pub returns : goal.returns
returns c =
    let P = (c.pose-own.ensures c.requires.asking.0 c.requires.asking.1.masks) in record {
      settled = asked_solved c.requires.asking.1 P c.node_at-node.ensures.is c.choose-out.result.found c.choose-out.result.word c.choose-out.result.reason (rw c.decided.ensures at c.choose-out.ensures.solved.0);
      growing = asked_grown c.requires.asking.1 P c.choose-out.ensures.growing;
      net_unchanged = stacked_back P.stacked c.forget.ensures;
    }
