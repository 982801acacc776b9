-- From a formula's row to what a search of it finds: the loose variables are set one after the other, from the highest. Assumes nothing.
use Rattle.std.specs.Prelude.{ℕ, ◌≡◌, Bool, true, List}
use Rattle.words.specs.Word.{bit}
use Rattle.words.specs.Mask.{Apart}
use Rattle.formula.specs.Formula.{Formula}
use Rattle.imply.specs.Posed.{Met}
use Rattle.lanes.specs.Lanes.{Positions, place, Flipped, Hit}

-- A search of f for v over `loose` and w, on its way: `rest` is still to be set, the others are set in the word. What is found from here on is found
-- from the start.
pub record Narrowed (f : Formula) (v : Bool) (loose w : ℕ) (ps : List ℕ) (rest word r q h : ℕ) : Type 0 where
  pub at : Positions
  pub hit : Hit f v at word r q h
  pub kept : (x : ℕ) → bit rest x ≡ true → at x ≡ place ps x
  pub apart : Apart r rest
  pub apart-not : Apart q rest
  pub clear : Apart word rest
  pub onto : (free z p : ℕ) → Met f v free rest word z p → Met f v free loose w z p

-- a search that has come from one state to another
pub record Onward (ps : List ℕ) (rest word r q h rest' word' r' q' h' : ℕ) : Type 0 where
  pub keeps : {f : Formula} {v : Bool} {loose w : ℕ} → Narrowed f v loose w ps rest word r q h → Narrowed f v loose w ps rest' word' r' q' h'

-- h has the lanes of t where the truth is the target's; of the reasons z and o, r is why it is there and q why not
pub record Aimed (target z o t r q h : ℕ) : Type 0 where
  pub one : target ≡ 2 → (r ≡ o) × (q ≡ z) × (h ≡ t)
  pub zero : target ≡ 1 → (r ≡ z) × (q ≡ o) × Flipped t h
