-- `phase::choice::choose_phases` meets its contract: a net in the narrow form has at most 473 words.
use Rattle.std.specs.Prelude.{ℕ, ◌≡◌, ◌≤◌, List, length, ltb}
use Rattle.std.proofs.Common.{arith, sym, ◌∙◌}
use Rattle.words.specs.Logic.{tests}
use Rattle.words.proofs.Logic.{by_bool}
use Rattle.form.specs.declared.Form.TheVariants.{Narrow}
use Rattle.net.specs.Layout.{net_form}
use Rattle.phase.proofs.choice.choose_phases.Goals as goal

short : (net : List ℕ) → net_form net ≡ Narrow → length net ≤ 473
unfolding net_form
short net e = by_bool (ltb 473 (length net))
    (λ t. let q = rw t at e in absurd (cc))
    (λ f. omega tests)

pub choose_in-requires : goal.choose_in-requires
choose_in-requires c =
    (c.requires, omega arith, omega arith, short _ (sym c.form.ensures ∙ c.in-Narrow.is), omega arith)
