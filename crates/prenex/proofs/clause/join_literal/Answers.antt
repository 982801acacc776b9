-- `prenex::clause::join_literal` meets its contract. Assumes nothing.
use Rattle.prenex.proofs.clause.join_literal.Goals as goal

pub returns : goal.returns
returns c =
    record { at-is = rw c.if-first.false; frames-is = rw c.if-first.false; bytes = rw c.if-first.false c.put.ensures }
