-- The kinds of nodes by number, as `node_of` and the words of a net have them. Assumes nothing.
use Rattle.std.specs.Prelude.{ℕ, ◌<◌, ◌≤◌, ◌≡◌, ◌⊎◌}
use Rattle.std.proofs.Common.{arith, inl, inr}
use Rattle.net.specs.declared.node.Op.{Op}
use Rattle.net.specs.declared.node.Op.TheVariants.{False, True, Input, Not, And, Or, Exists, Forall}

abbrev pub code_of : Op → ℕ
code_of False = 0
code_of True = 1
code_of Input = 2
code_of Not = 3
code_of And = 4
code_of Or = 5
code_of Exists = 6
code_of Forall = 7

pub code_low : (o : Op) → code_of o < 8
code_low False = omega arith
code_low True = omega arith
code_low Input = omega arith
code_low Not = omega arith
code_low And = omega arith
code_low Or = omega arith
code_low Exists = omega arith
code_low Forall = omega arith

-- ---- from the arms of a match to the tests of numbers

pub code_fixed : {o : Op} → (o ≡ False) ⊎ (o ≡ True) → code_of o < 2
code_fixed (inl e) = rw e (omega arith)
code_fixed (inr e) = rw e (omega arith)

pub code_gate : {o : Op} → (o ≡ And) ⊎ (o ≡ Or) → (4 ≤ code_of o) × (code_of o < 6)
code_gate (inl e) = rw e (omega arith, omega arith)
code_gate (inr e) = rw e (omega arith, omega arith)

pub code_binds : {o : Op} → (o ≡ Exists) ⊎ (o ≡ Forall) → 6 ≤ code_of o
code_binds (inl e) = rw e (omega arith)
code_binds (inr e) = rw e (omega arith)

pub code_names : {o : Op} → (o ≡ Not) ⊎ (o ≡ Exists) ⊎ (o ≡ Forall) → 3 ≤ code_of o
code_names (inl e) = rw e (omega arith)
code_names (inr e) = let b = code_binds e in omega arith

pub code_leaf : {o : Op} → (o ≡ False) ⊎ (o ≡ True) ⊎ (o ≡ Input) → code_of o < 3
code_leaf (inl e) = rw e (omega arith)
code_leaf (inr (inl e)) = rw e (omega arith)
code_leaf (inr (inr e)) = rw e (omega arith)
