-- `imply::pass_quantifier` meets its contract. Assumes nothing.
use mathlib.Core.Path.{sym, ◌∙◌}
use Rattle.net.specs.Layout.{binds-below}
use Rattle.imply.specs.RequiredLaws.{named-fits, required_body}
use Rattle.imply.proofs.pass_quantifier.Goals as goal

pub offer-requires : goal.offer-requires
offer-requires c =
    named-fits c.requires.grounded (binds-below c.requires.grounded.0 c.requires.is.0 c.requires.is.1) c.requires.is.3

pub returns-then-cube-node-eq0 : goal.returns-then-cube-node-eq0
returns-then-cube-node-eq0 c =
    record {
      same = c.offer.ensures.0;
      keeps = λ a t W R. c.offer.ensures.1 _ a t _ _ W
          (required_body c.requires.grounded.0 c.requires.is.0 R c.requires.is.2 c.requires.is.1 (λ e. c.if-want-decided.false (e ∙ sym c.decided.ensures)) (record { none = c.if-cube-node-eq0.true }));
    }
