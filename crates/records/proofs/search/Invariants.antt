-- `records::search` meets its contract. The loop's invariant: none of the records passed matches. Assumes nothing.
use Rattle.records.specs.Table.{matches}
use Rattle.records.specs.Search.{NoneBelow}
use Rattle.records.proofs.search.Given as goal

abbrev pub invariant-loop-j : goal.invariant-loop-j
invariant-loop-j l = NoneBelow (matches l.form l.table l.frame l.assigned l.setting) l.j
