-- `qdimacs::check::check` meets its contract: each return has the tests that led there. Assumes nothing.
use mathlib.Core.Path.{refl, sym, ap, ◌∙◌}
use Rattle.dimacs.specs.Shape.{whole}
use Rattle.dimacs.specs.declared.shape.State.{State}
use Rattle.qdimacs.proofs.CheckLaws.{shape_ill, atoms-ill, text_well}
use Rattle.qdimacs.proofs.check.check.Goals as goal
use Rattle.qdimacs.proofs.check.check.Goals.{then-not-whole-via-then-not-whole, then-not-whole-via-else-not-whole+then-not-proper_atoms}

pub returns-then-not-whole : goal.returns-then-not-whole
returns-then-not-whole c =
    let t = c.args.text.now in
    let e = c.behind_comments-at.ensures.0 in (
      refl,
      elim c.then-not-whole.branch [
        | then-not-whole-via-then-not-whole w ↦ shape_ill t c.behind_comments-at.result e (ap whole (sym c.run-state.ensures) ∙ sym c.whole.ensures ∙ w.if-not-whole.true)
        | then-not-whole-via-else-not-whole+then-not-proper_atoms w ↦ atoms-ill t c.behind_comments-at.result e (sym w.proper_atoms.ensures ∙ w.if-not-proper_atoms.true)
      ],
    )

pub returns : goal.returns
returns c =
    text_well c.args.text.now c.behind_comments-at.result c.behind_comments-at.ensures.0 c.behind_comments-at.ensures.1
    (ap whole (sym c.run-state.ensures) ∙ sym c.whole.ensures ∙ c.if-not-whole.false)
    (sym c.proper_atoms.ensures ∙ c.if-not-proper_atoms.false)
    (ap (λ (s : State). s.variables) c.run-state.ensures)
