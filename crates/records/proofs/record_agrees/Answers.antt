-- `records::record_agrees` meets its contract: values inside the mask are the cube's own (`made_same`), others agree with nothing. Assumes nothing.
use Rattle.std.proofs.Common.{sym, ◌∙◌}
use Rattle.words.proofs.Mask.{inside-sub, agree-outside}
use Rattle.cube.proofs.CubeLaws.{made_same}
use Rattle.records.proofs.record_agrees.Goals as goal

pub returns-then-inside : goal.returns-then-inside
returns-then-inside c =
    let within = inside-sub _ _ (sym c.inside.ensures ∙ c.if-inside.true) in
    rw (c.of.ensures.mask, made_same c.of.ensures within) at c.agrees.ensures

pub returns-else-inside : goal.returns-else-inside
returns-else-inside c =
    c.if-inside.false ∙ sym (agree-outside _ _ _ (sym c.inside.ensures ∙ c.if-inside.false))
