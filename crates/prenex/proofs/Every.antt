-- Laws of `Every` and `SomeBelow`. Assumes nothing.
use Rattle.std.specs.Prelude.{ℕ, ◌≤◌, List, ◌∷◌, length}
use Rattle.std.proofs.Common.{arith}
use Rattle.prenex.specs.Question.{Every, every-none, every_one, SomeBelow}

pub every_map : {A : Type 0} {P Q : A → Type 0} {l : List A} → ((a : A) → P a → Q a) → Every P l → Every Q l
every_map f every-none = every-none
every_map f (every_one {a} h t) = every_one (f a h) (every_map f t)

pub every_first : {A : Type 0} {P : A → Type 0} {a : A} {l : List A} → Every P (a ∷ l) → P a
every_first (every_one h t) = h

-- a higher bound
pub below_wider : {A : Type 0} {f : A → ℕ} {n m : ℕ} {l : List A} → n ≤ m → SomeBelow f n l → SomeBelow f m l
below_wider le s = record { some = s.some; below = every_map (λ a h. omega (arith, le, h)) s.below }

pub every-wider : {A : Type 0} {f : A → ℕ} {n m : ℕ} {ls : List (List A)} → n ≤ m → Every (SomeBelow f n) ls → Every (SomeBelow f m) ls
every-wider le = every_map (λ l. below_wider le)

-- none is empty
pub every_some : {A : Type 0} {f : A → ℕ} {n : ℕ} {ls : List (List A)} → Every (SomeBelow f n) ls → Every (λ (l : List A). 1 ≤ length l) ls
every_some = every_map (λ l s. s.some)
