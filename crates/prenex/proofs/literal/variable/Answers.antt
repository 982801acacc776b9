-- `prenex::literal::variable` meets its contract. Assumes nothing.
use mathlib.Core.Path.{sym}
use Rattle.prenex.proofs.LiteralLaws.{variable-is}
use Rattle.prenex.proofs.literal.variable.Goals as goal

pub returns : goal.returns
returns c =
    sym (variable-is c.args.code)
