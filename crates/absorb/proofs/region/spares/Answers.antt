-- `absorb::region::spares` meets its contract.
use Rattle.std.proofs.Common.{sym, ◌∙◌, eqb-true}
use Rattle.net.specs.Op.{code_of, code_binds}
use Rattle.absorb.specs.MarksLaws.{spares_binds}
use Rattle.absorb.proofs.region.spares.Goals as goal

pub returns-then-not-has : goal.returns-then-not-has
returns-then-not-has c =
    λ e F w. spares_binds (code_of c.args.node.op) c.args.node.left c.args.node.right c.args.node.mask c.args.y c.args.f F w (code_binds c.in-Exists.is) (sym c.has.ensures ∙ c.if-not-has.true) (eqb-true _ _ e)
