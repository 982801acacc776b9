-- `token::next` meets its contract: nothing behind the blanks, a line's end, or a word. Assumes nothing.
use Prim.Native.Nat.{◌<◌}
use native.Mathlib.Omega.{arith}
use lib.ListN.{length}
use Rattle.dimacs.proofs.FieldLaws.{taken_none, taken-line, word_some, taken_word}
use Rattle.std.proofs.lemmas.Slice.{between_is}
use lib.Seq.{length-slice}
use Rattle.dimacs.proofs.token.next.Goals as goal

pub returns-then-from-text : goal.returns-then-from-text
returns-then-from-text c =
    taken_none c.args.text.now c.args.at c.skip_blanks-from.result c.skip_blanks-from.ensures.0 c.requires c.if-from-text.true

pub returns-then-text-from-eq10 : goal.returns-then-text-from-eq10
returns-then-text-from-eq10 c =
    let w : c.skip_blanks-from.result < length c.args.text.now = omega (arith, c.skip_blanks-from.ensures.2, c.if-from-text.false) in
    taken-line c.args.text.now c.args.at c.skip_blanks-from.result c.skip_blanks-from.ensures.0 c.skip_blanks-from.ensures.1 w c.if-text-from-eq10.true

pub token_of-requires : goal.token_of-requires
token_of-requires c =
    let w : c.skip_blanks-from.result < length c.args.text.now = omega (arith, c.skip_blanks-from.ensures.2, c.if-from-text.false) in
    let s = word_some c.args.text.now c.args.at c.skip_blanks-from.result c.skip_blanks-from.ensures.0 c.skip_blanks-from.ensures.1 w c.if-text-from-eq10.false c.word_end-to.result c.word_end-to.ensures.2 c.word_end-to.ensures.0 in
    rw (between_is c.args.text.now c.skip_blanks-from.result c.word_end-to.result)
    (omega (arith, length-slice c.skip_blanks-from.result c.word_end-to.result c.args.text.now c.word_end-to.ensures.2))

pub returns : goal.returns
returns c =
    let w : c.skip_blanks-from.result < length c.args.text.now = omega (arith, c.skip_blanks-from.ensures.2, c.if-from-text.false) in
    taken_word c.args.text.now c.args.at c.skip_blanks-from.result c.skip_blanks-from.ensures.0 c.skip_blanks-from.ensures.1 w c.if-text-from-eq10.false c.word_end-to.result c.word_end-to.ensures.2 c.word_end-to.ensures.0
    (rw between_is at c.token_of.ensures)
