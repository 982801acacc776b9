-- `words::Word::place` meets its contract: `put` below the last place, and the word itself past it. Assumes nothing.
use Rattle.std.proofs.Common.{le-ltb, lt-ltb}
use Rattle.words.specs.Mask.{placed}
use Rattle.words.proofs.Word.place.Goals as goal

pub returns-then-v-PLACES : goal.returns-then-v-PLACES
unfolding placed
returns-then-v-PLACES g c =
    rw (lt-ltb _ _ (rw c.PLACES.ensures at c.if-v-PLACES.true), c.put.ensures)

pub returns-else-v-PLACES : goal.returns-else-v-PLACES
unfolding placed
returns-else-v-PLACES g c =
    rw (le-ltb _ _ (rw c.PLACES.ensures at c.if-v-PLACES.false))
