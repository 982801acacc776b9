use Rattle.std.proofs.Common.{◌∙◌, sym, rules, take}
use borrow.Author.Tests.{tests}
use Rattle.std.proofs.lemmas.Iterator.{YieldsList-from_slice}
use Rattle.std.proofs.lemmas.Iterator.Search.{all_from_yields_List}
use Rattle.std.proofs.lemmas.Bool.{lt-leb}
use Rattle.text.specs.Hex.{is_digit}
use Rattle.text.proofs.LineLaws.{digits-all, digits_short}
use Rattle.text.proofs.line.digits.Goals as goal

pub returns-then-count-rest : goal.returns-then-count-rest
returns-then-count-rest c =
    let e = all_from_yields_List is_digit _ _ c.all.result c.all.ensures.ran (YieldsList-from_slice (take c.args.count c.args.rest.now) cc) (λ x b q k. search (rules, tests)) in
    e ∙ digits-all c.args.count c.args.rest.now c.if-count-rest.true

pub returns-else-count-rest : goal.returns-else-count-rest
returns-else-count-rest c =
    lt-leb _ _ c.if-count-rest.false ∙ sym (digits_short _ _ c.if-count-rest.false)
