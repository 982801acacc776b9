-- Causes of a refusal in their order, and the first of them that holds. Assumes nothing.
use Rattle.std.specs.Prelude.{ℕ, ◌<◌, ◌≡◌, Bool, true, false, cond, ◌||◌, List, [], ◌∷◌, ◌++◌}

-- whether it holds, its number in document 01's table, and the place that it is told at
pub record Cause : Type 0 where
  pub holds : Bool
  pub number : ℕ
  pub place : ℕ

-- what is told: number 0 at place 0 is no refusal
pub record Refusal : Type 0 where
  pub number : ℕ
  pub place : ℕ

abbrev pub accepted : Refusal
accepted = record { number = 0; place = 0 }

abbrev pub told : Cause → Refusal
told c = record { number = c.number; place = c.place }

-- the first cause that holds
unfoldable pub first : List Cause → Refusal
first [] = accepted
first (c ∷ cs) = cond c.holds (told c) (first cs)

unfoldable pub some_holds : List Cause → Bool
some_holds [] = false
some_holds (c ∷ cs) = c.holds || some_holds cs

-- no cause bears the number 0
abbrev pub Numbered : List Cause → Type 0
Numbered [] = Unit {0}
Numbered (c ∷ cs) = (0 < c.number) × Numbered cs

-- r is told of a cause that holds, and none before it holds
pub record Foremost (cs : List Cause) (r : Refusal) : Type 0 where
  pub before : List Cause
  pub cause : Cause
  pub after : List Cause
  pub splits : cs ≡ before ++ (cause ∷ after)
  pub none : some_holds before ≡ false
  pub holds : cause.holds ≡ true
  pub is : r ≡ told cause
