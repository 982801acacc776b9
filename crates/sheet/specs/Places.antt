-- How large a refusal can be: its number is at most 23, and its place is that of a frame. Assumes nothing.
use Prim.Native.Nat.{ℕ, ◌≤◌, ◌<◌}
use Rattle.std.specs.Prelude.{List, [], ◌∷◌}
use Rattle.sheet.specs.Cause.{Cause, Refusal}
use Rattle.sheet.specs.Refusal as Number

-- every cause of the list has a number of at most 23 and a place below p
abbrev pub Within : ℕ → List Cause → Type 0
Within p [] = Unit {0}
Within p (c ∷ cs) = (c.number ≤ Number.gauge_bound) × ((c.place < p) × Within p cs)

pub record Small (p : ℕ) (r : Refusal) : Type 0 where
  pub number : r.number ≤ 23
  pub place : r.place < p
