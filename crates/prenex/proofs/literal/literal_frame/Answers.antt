-- `prenex::literal::literal_frame` meets its contract. Assumes nothing.
use native.Mathlib.Omega.{arith}
use mathlib.Core.Path.{sym, ◌∙◌}
use Rattle.words.specs.Word.{bit}
use Rattle.prenex.specs.Code.{literal_of}
use Rattle.prenex.proofs.LiteralLaws.{variable-below}
use Rattle.prenex.proofs.ClauseLaws.{frame_negative, frame-positive}
use Rattle.prenex.proofs.literal.literal_frame.Goals as goal

pub rank-requires-then-negative : goal.rank-requires-then-negative
rank-requires-then-negative c =
    omega (arith, variable-below c.args.code _ c.requires.1 c.variable-x.ensures)

pub returns-then-negative : goal.returns-then-negative
returns-then-negative c =
    let e = sym c.negative.ensures ∙ c.if-negative.true in (
      omega (arith, c.rank.ensures, rw c.variable-x.ensures at c.rank-then-negative.ensures.0, frame_negative (bit c.args.all) (bit c.args.negated) (literal_of c.args.code) e),
      omega (arith, c.rank.ensures, c.rank-then-negative.ensures, variable-below c.args.code _ c.requires.1 c.variable-x.ensures),
    )

pub rank-requires-2 : goal.rank-requires-2
rank-requires-2 c =
    omega (arith, variable-below c.args.code _ c.requires.1 c.variable-x.ensures)

pub returns : goal.returns
returns c =
    let e = sym c.negative.ensures ∙ c.if-negative.false in (
      c.rank-2.ensures.0 ∙ rw c.variable-x.ensures (sym (frame-positive (bit c.args.all) (bit c.args.negated) (literal_of c.args.code) e)),
      omega (arith, c.rank-2.ensures, variable-below c.args.code _ c.requires.1 c.variable-x.ensures),
    )
