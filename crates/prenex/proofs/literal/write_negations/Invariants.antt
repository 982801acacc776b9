-- `prenex::literal::write_negations` meets its contract. The invariant: the stores that are left give what all stores give. Assumes nothing.
use Prim.Native.Nat.{ℕ}
use Rattle.words.specs.Word.{bit}
use Rattle.sheet.specs.declared.Kind.{Kind}
use Rattle.sheet.specs.declared.Kind.TheVariants.{Not}
use Rattle.prenex.specs.Kinds.{count}
use Rattle.prenex.proofs.LiteralLaws.{Stored}
use Rattle.prenex.proofs.literal.write_negations.Given as goal

-- the negation of x, where the inputs are those of a word
abbrev pub negation : ℕ → ℕ → Kind
negation all x = Not (count (bit all) 0 x)

abbrev pub invariant-loop-x : goal.invariant-loop-x
invariant-loop-x l = Stored (bit l.negated) (negation l.all) l.inputs l.initial.out l.x l.n l.out
