-- `solver::question::layer` meets its contract: a quantifier is put, or none. Assumes nothing.
use Rattle.solver.specs.QuestionLaws.{layer_none, layer_put}
use Rattle.solver.proofs.question.layer.Goals as goal

pub returns-then-mask-eq0 : goal.returns-then-mask-eq0
returns-then-mask-eq0 c =
    layer_none c.if-mask-eq0.true

pub returns : goal.returns
returns c =
    layer_put c.requires.2 c.choose.ensures
