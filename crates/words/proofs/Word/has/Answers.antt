-- `words::Word::has` meets its contract: of what is shifted down, the lowest place is the word's place v. Assumes nothing.
use Rattle.std.proofs.lemmas.Nat.{and_mask}
use Rattle.words.specs.Word.{bit}
use Rattle.words.proofs.Word.has.Goals as goal

pub returns : goal.returns
unfolding bit
returns g c =
    cc (
      g.met.Self.Word.lowest_law,
      g.met.Self.Word.shr_law _ _ _ c.shr.ensures,
      g.met.Self.Word.bitand_law _ _ _ c.bitand.ensures,
      g.met.Self.Word.eq_law c.bitand.result c.LOWEST-2.result,
      and_mask (g.Self.Word.number c.shr.result) 1,
    )
