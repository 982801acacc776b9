-- `solver::question::solve` meets its contract: each form has its own scratch. Assumes nothing.
use Rattle.form.specs.declared.Form.TheVariants.{Narrow}
use mathlib.Core.Path.{refl, sym, ◌∙◌}
use native.Mathlib.Omega.{arith}
use Rattle.solver.specs.QuestionLaws.{asked_words}
use Rattle.solver.proofs.question.solve.Goals as goal

pub solve_sized-requires : goal.solve_sized-requires
solve_sized-requires c =
    record {
      asking = c.requires;
      room = (omega (arith, asked_words c.requires.1 Narrow (sym c.form-form.ensures ∙ c.in-Narrow.is)), refl, omega arith);
    }
