-- `imply::pass` meets its contract: by the kind of node. Assumes nothing.
use native.Mathlib.Omega.{arith}
use mathlib.Core.Path.{ap}
use Rattle.net.specs.Layout.{flips_below}
use Rattle.net.specs.Op.{code_of, code_gate, code_binds}
use Rattle.imply.specs.RequiredLaws.{named-fits, required_flip}
use Rattle.imply.proofs.pass.Goals as goal

pub offer-requires : goal.offer-requires
offer-requires c =
    named-fits c.requires.grounded (flips_below c.requires.grounded.0 c.requires.is.0 (ap code_of c.in-Not.is)) (omega (arith, c.requires.is.1))

pub returns-in-Not : goal.returns-in-Not
returns-in-Not c =
    record {
      same = c.offer.ensures.0;
      keeps = λ a t W R. c.offer.ensures.1 _ a t _ _ W (required_flip c.requires.grounded.0 c.requires.is.0 R c.requires.is.1 (ap code_of c.in-Not.is));
    }

pub pass_gate-requires : goal.pass_gate-requires
pass_gate-requires c =
    let g = code_gate c.in-And.is in
    record {
      is = (c.requires.is.0, g.0, g.1, c.requires.is.1, c.requires.is.2);
      grounded = c.requires.grounded;
    }

pub pass_quantifier-requires : goal.pass_quantifier-requires
pass_quantifier-requires c =
    record {
      is = (c.requires.is.0, code_binds c.in-Exists.is, c.requires.is.1, c.requires.is.2);
      grounded = c.requires.grounded;
    }
