-- `prenex::literal::rank` meets its contract. The invariant: those counted and those that are left are all. Assumes nothing.
use Prim.Native.Nat.{◌+◌, ◌-◌, ◌≤◌}
use mathlib.Core.Path.{◌≡◌}
use Rattle.words.specs.Word.{bit}
use Rattle.prenex.specs.Kinds.{count}
use Rattle.prenex.proofs.literal.rank.Given as goal

abbrev pub invariant-loop-y : goal.invariant-loop-y
invariant-loop-y l = (l.n ≤ l.y) × (count (bit l.word) 0 l.x ≡ l.n + count (bit l.word) l.y (l.x - l.y))
