-- `sheet::ranged::Ranged::bound` meets its contract: a range that is not bad ends within a word.
use Rattle.std.proofs.Common.{arith, ap, sym, ◌∙◌, ⊎_elim}
use Rattle.sheet.specs.Rules.{bad_variables}
use Rattle.form.proofs.FormLaws.{few-variables}
use Rattle.sheet.proofs.RuleLaws.{range-fits}
use Rattle.sheet.proofs.ranged.Ranged.bound.Goals as goal

pub range_word-requires : goal.range_word-requires
unfolding bad_variables
range_word-requires c =
    let s = c.args.self in ⊎_elim
    (λ p. omega (arith, few-variables s.form, (range-fits s.form _ _ (ap (bad_variables s.form) (sym p.1) ∙ s.ranged)).2))
    (λ p. omega (arith, few-variables s.form, (range-fits s.form _ _ (ap (bad_variables s.form) (sym p.1) ∙ s.ranged)).2))
    c.in-Exists.is
