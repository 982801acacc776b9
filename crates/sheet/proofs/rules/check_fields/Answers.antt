-- `sheet::rules::check_fields` meets its contract.
use mathlib.Core.Path.{sym, ◌∙◌}
use native.Mathlib.Omega.{arith}
use borrow.Author.Tests.{le-ltb}
use Rattle.sheet.specs.Cause.{first}
use Rattle.sheet.specs.Rules.{field_causes}
use Rattle.sheet.proofs.CheckLaws.{first-variables}
use Rattle.sheet.proofs.rules.check_fields.Goals as goal

-- the causes of the variables come last
pub returns : goal.returns
unfolding first field_causes
returns c =
    simp (le-ltb 7 c.args.f.k (omega (arith, c.if-f-gt-LAST_KIND.false)), sym c.kind_of-kind.ensures, sym c.used.ensures, sym c.spare_set-spare.ensures ∙ c.if-spare.false, sym c.some_late-late.ensures ∙ c.if-late.false)
    (c.check_variables.ensures ∙ sym (first-variables _ _ _ _))
