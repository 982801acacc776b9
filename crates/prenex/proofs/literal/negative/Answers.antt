-- `prenex::literal::negative` meets its contract. Assumes nothing.
use mathlib.Core.Path.{sym}
use Rattle.prenex.proofs.LiteralLaws.{negative-is}
use Rattle.prenex.proofs.literal.negative.Goals as goal

pub returns : goal.returns
returns c =
    sym (negative-is c.args.code)
