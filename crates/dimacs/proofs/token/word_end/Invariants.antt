-- `token::word_end` meets its contract. The invariant: the word from here on ends where the whole word does. Assumes nothing.
use Rattle.dimacs.specs.FieldLaws.{SameEnd}
use Rattle.dimacs.proofs.token.word_end.Given as goal

abbrev pub invariant-loop-at : goal.invariant-loop-at
invariant-loop-at l = SameEnd l.text l.from l.at
