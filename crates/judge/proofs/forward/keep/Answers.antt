-- `judge::forward::keep` meets its contract. Assumes nothing.
use Rattle.judge.specs.JudgeLaws.{judging_put}
use Rattle.judge.proofs.forward.keep.Goals as goal

pub returns-then-vacant : goal.returns-then-vacant
returns-then-vacant c net m w j f =
    judging_put c.requires.0 c.requires.1 j (c.vacant.ensures c.if-vacant.true) c.requires.2 f c.put.ensures
