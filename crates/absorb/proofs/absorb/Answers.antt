-- `absorb::absorb` meets its contract.
use Rattle.std.proofs.Common.{arith, sym, ◌∙◌}
use Rattle.form.specs.declared.Form.TheVariants.{Narrow, Wide}
use Rattle.absorb.specs.SheetLaws.{form_long}
use Rattle.absorb.proofs.absorb.Goals as goal

pub absorb_in-requires : goal.absorb_in-requires
absorb_in-requires c =
    let long = form_long c.requires.1 Narrow (sym c.form.ensures ∙ c.in-Narrow.is) in
    (c.requires, omega (arith, c.requires.1.grounded.room), omega arith)

pub absorb_in-requires-in-Wide : goal.absorb_in-requires-in-Wide
absorb_in-requires-in-Wide c =
    let long = form_long c.requires.1 Wide (sym c.form.ensures ∙ c.in-Wide.is) in
    (c.requires, omega (arith, c.requires.1.grounded.room), omega arith)
