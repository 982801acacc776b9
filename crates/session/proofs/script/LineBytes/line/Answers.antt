-- `session::script::LineBytes::line` meets its contract.
use mathlib.Core.Path.{sym, refl, ◌∙◌}
use Rattle.session.proofs.LineLaws.{spare_unknown, spared_bytes}
use Rattle.session.proofs.script.LineBytes.line.Goals as goal

pub returns-then-spare_set : goal.returns-then-spare_set
returns-then-spare_set c =
    let spare = rw (c.used.ensures, c.from.ensures, c.from-2.ensures, c.from-3.ensures) at (sym c.spare_set.ensures) in
    (refl, spare_unknown c.args.self c.in_ok-line.line c.in_ok-line.ensures (spare ∙ c.if-spare_set.true))

pub returns : goal.returns
returns c =
    let spare = rw (c.used.ensures, c.from.ensures, c.from-2.ensures, c.from-3.ensures) at (sym c.spare_set.ensures) in
    spared_bytes c.args.self c.in_ok-line.line c.in_ok-line.ensures (spare ∙ c.if-spare_set.false)
