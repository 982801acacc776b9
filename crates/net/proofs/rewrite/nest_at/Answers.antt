-- `net::rewrite::nest_at` meets its contract.
use Rattle.std.proofs.Common.{arith, rules, sym, ◌∙◌, ap}
use denote.Enum.Bare.{same_true}
use Rattle.net.specs.contracts.node.Op.{the_type}
use Rattle.net.specs.Op.{code_of}
use Rattle.net.specs.Layout.{binds-below}
use Rattle.net.specs.NestLaws.{nested_net}
use Rattle.net.proofs.rewrite.nest_at.Goals as goal

pub node_at-inner-requires : goal.node_at-inner-requires
node_at-inner-requires c =
    let below = binds-below c.requires.0.1.grounded c.node_at-outer.ensures.is (c.is_quantifier.ensures.0 c.if-not-is_quantifier.false) in
    omega (arith, c.requires.0.1.grounded.room)

pub returns-then-eq : goal.returns-then-eq
returns-then-eq c =
    λ s N. nested_net N c.requires.1
    (sym c.changed.ensures ∙ c.if-changed.false)
    c.node_at-outer.ensures.is (c.is_quantifier.ensures.0 c.if-not-is_quantifier.false)
    c.node_at-inner.ensures.is (ap code_of (same_true the_type (search rules) _ _ (sym c.if-eq.ensures)))
    (c.word.ensures _) (record { is = c.put.ensures })
