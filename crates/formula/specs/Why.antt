-- What WHY means: the reason that is left when no variable of it is idle. Assumes nothing.
use Prim.Native.Nat.{ℕ, zero, suc, ◌^◌}
use Rattle.std.specs.Prelude.{Bool, cond}
use Rattle.std.proofs.Math.Bool.{false}
use Rattle.std.specs.Bool.{beq}
use Rattle.words.specs.Word.{bit}
use Rattle.words.specs.Mask.{without}
use Rattle.formula.specs.Assignment.{Assignment, sweep}
use Rattle.formula.specs.Formula.{Formula, truth}
use Rattle.formula.specs.Ask.{Verdict, free_mask, ask}

-- w on the variables of m, σ elsewhere
unfoldable pub overlay : ℕ → ℕ → Assignment → Assignment
overlay m w σ k = cond (bit m k) (bit w k) (σ k)

-- every assignment that agrees with w on m gives f the truth v; n is above f's free variables
unfoldable pub always : ℕ → Formula → ℕ → ℕ → Bool → Bool
always n f m w v = sweep false 0 n (λ σ. beq (truth f (overlay m w σ)) v) (bit w)

-- m less each variable, from k - 1 down to 0, without which what is then left still forces v
unfoldable pub reduce : ℕ → Formula → ℕ → Bool → ℕ → ℕ → ℕ
reduce n f w v zero m = m
reduce n f w v (suc k) m = reduce n f w v k (cond (always n f (without m (2 ^ k)) w v) (without m (2 ^ k)) m)

-- on yes all free variables with ASK's word, on no the entered ones with their values
unfoldable pub start_mask : ℕ → Formula → Bool → ℕ → ℕ
start_mask n f holds mask = cond holds (free_mask n f) mask

unfoldable pub start_word : Verdict → ℕ → ℕ
start_word a values = cond a.holds a.word values

unfoldable pub why : ℕ → Formula → ℕ → ℕ → Verdict
why n f mask values =
    let a = ask n f mask values in
    record { holds = a.holds; word = reduce n f (start_word a values) a.holds n (start_mask n f a.holds mask) }
