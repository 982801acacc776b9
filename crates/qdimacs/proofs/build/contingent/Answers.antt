-- `qdimacs::build::contingent` meets its contract: clauses with opposites are always true, and the solver's answer tells the rest. Assumes nothing.
use native.Mathlib.Omega.{arith}
use mathlib.Core.Path.{refl, sym, ◌∙◌}
use Rattle.sheet.specs.Fields.{narrow}
use Rattle.qdimacs.proofs.MatrixAsked.{judged-true, matrix_checked, matrix-ungauged, ready_none, judged-asked}
use Rattle.qdimacs.proofs.build.contingent.Goals as goal

pub returns-then-all_opposed : goal.returns-then-all_opposed
returns-then-all_opposed c =
    judged-true (sym c.all_opposed.ensures ∙ c.if-all_opposed.true) refl

pub load-requires : goal.load-requires
load-requires c =
    (rw c.from.ensures (matrix_checked c.requires c.find_occurring-found.ensures.0), omega (arith, matrix-ungauged c.requires), record { is = refl })

pub ask-answer-requires : goal.ask-answer-requires
ask-answer-requires c =
    let k = matrix_checked c.requires c.find_occurring-found.ensures.0 in
    (narrow c.args.frames.now, ready_none _ _ k c.load.ensures)

pub returns : goal.returns
returns c =
    let k = matrix_checked c.requires c.find_occurring-found.ensures.0 in
    let r = ready_none _ _ k c.load.ensures in
    judged-asked c.requires (sym c.all_opposed.ensures ∙ c.if-all_opposed.false) (c.ask-answer.ensures.same (narrow c.args.frames.now) r).0
