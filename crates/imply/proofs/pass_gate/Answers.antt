-- `imply::pass_gate` meets its contract: one law for each side that is wanted. Assumes nothing.
use native.Mathlib.Omega.{arith}
use mathlib.Core.Path.{◌∙◌}
use Rattle.net.specs.Layout.{joins-left, joins-right}
use Rattle.judge.specs.JudgeLaws.{judged-at}
use Rattle.imply.specs.RequiredLaws.{named-fits, required_left, required_right, required_other_left, required_other_right}
use Rattle.imply.proofs.pass_gate.Goals as goal

pub offer-requires : goal.offer-requires
offer-requires c =
    named-fits c.requires.grounded (joins-left c.requires.grounded.0 c.requires.is.0 c.requires.is.1 c.requires.is.2) c.requires.is.4

pub offer-requires-then-want-d : goal.offer-requires-then-want-d
offer-requires-then-want-d c =
    named-fits (c.requires.grounded.0, c.requires.grounded.1, c.requires.grounded.2, omega (arith, c.requires.grounded.3, c.offer.ensures.0))
    (joins-right c.requires.grounded.0 c.requires.is.0 c.requires.is.1 c.requires.is.2) c.requires.is.4

pub returns-then-want-d : goal.returns-then-want-d
returns-then-want-d c =
    record {
      same = c.offer-then-want-d.ensures.0 ∙ c.offer.ensures.0;
      keeps = λ a t W R. c.offer-then-want-d.ensures.1 _ a t _ _
          (c.offer.ensures.1 _ a t _ _ W (required_left c.requires.grounded.0 c.requires.is.0 R c.requires.is.3 c.requires.is.1 c.requires.is.2 c.gate_decided-d.ensures c.if-want-d.true))
          (required_right c.requires.grounded.0 c.requires.is.0 R c.requires.is.3 c.requires.is.1 c.requires.is.2 c.gate_decided-d.ensures c.if-want-d.true);
    }

pub known_at-x-requires : goal.known_at-x-requires
known_at-x-requires c =
    omega (arith, c.requires.grounded.1, c.requires.grounded.2.long, joins-left c.requires.grounded.0 c.requires.is.0 c.requires.is.1 c.requires.is.2)

pub offer-requires-then-x-d : goal.offer-requires-then-x-d
offer-requires-then-x-d c =
    named-fits c.requires.grounded (joins-right c.requires.grounded.0 c.requires.is.0 c.requires.is.1 c.requires.is.2) c.requires.is.4

pub returns-then-x-d : goal.returns-then-x-d
returns-then-x-d c =
    record {
      same = c.offer-then-x-d.ensures.0;
      keeps = λ a t W R. c.offer-then-x-d.ensures.1 _ a t _ _ W
          (required_other_right c.requires.grounded.0 c.requires.is.0 R c.requires.is.3 c.requires.is.1 c.requires.is.2 c.gate_decided-d.ensures
          c.if-want-d.false (omega (arith, c.if-x-ne0.true)) c.if-x-d.true (judged-at c.requires.grounded.2 c.known_at-x.ensures.0 c.known_at-x.ensures.1));
    }

pub known_at-y-requires : goal.known_at-y-requires
known_at-y-requires c =
    omega (arith, c.requires.grounded.1, c.requires.grounded.2.long, joins-right c.requires.grounded.0 c.requires.is.0 c.requires.is.1 c.requires.is.2)

pub offer-requires-then-y-d : goal.offer-requires-then-y-d
offer-requires-then-y-d c =
    named-fits c.requires.grounded (joins-left c.requires.grounded.0 c.requires.is.0 c.requires.is.1 c.requires.is.2) c.requires.is.4

pub returns-then-y-d : goal.returns-then-y-d
returns-then-y-d c =
    record {
      same = c.offer-then-y-d.ensures.0;
      keeps = λ a t W R. c.offer-then-y-d.ensures.1 _ a t _ _ W
          (required_other_left c.requires.grounded.0 c.requires.is.0 R c.requires.is.3 c.requires.is.1 c.requires.is.2 c.gate_decided-d.ensures
          c.if-want-d.false (omega (arith, c.if-y-ne0.true)) c.if-y-d.true (judged-at c.requires.grounded.2 c.known_at-y.ensures.0 c.known_at-y.ensures.1));
    }
