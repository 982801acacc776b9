-- A formula's truth at 64 settings at once: bit l of a word is the truth in lane l. Assumes nothing.
use Rattle.std.specs.Prelude.{ℕ, ◌≤◌, ◌<◌, ◌≡◌, Bool, true, false, not, cond, List, eqb, ltb, get_or}
use Rattle.words.specs.Word.{bit}
use Rattle.formula.specs.Assignment.{Assignment, On, join}
use Rattle.formula.specs.Formula.{Formula, truth, free}

-- the position of each variable in a lane's number; 6 and more: the variable is no lane
abbrev pub Positions : Type 0
Positions = ℕ → ℕ

-- as the code has them, for 64 variables
unfoldable pub place : List ℕ → Positions
place ps x = cond (ltb x 64) (get_or ps x 0) 6

-- no two variables share a position, and no variable past the 64 has one
pub record Distinct (π : Positions) : Type 0 where
  pub same : (x y : ℕ) → π x < 6 → π x ≡ π y → x ≡ y
  pub past : (x : ℕ) → 64 ≤ x → 6 ≤ π x

-- σ has the values of lane l
pub record At (π : Positions) (l : ℕ) (σ : Assignment) : Type 0 where
  pub here : (x : ℕ) → π x < 6 → σ x ≡ bit l (π x)

-- the setting of lane l: w, with the lane's values
unfoldable pub lane_assignment : Positions → ℕ → ℕ → Assignment
lane_assignment π w l x = cond (ltb (π x) 6) (bit l (π x)) (bit w x)

-- in every lane where t has v, f has v, for every setting that has w's values at the variables of r
pub record Says (f : Formula) (v : Bool) (π : Positions) (w r t : ℕ) : Type 0 where
  pub inside : (k : ℕ) → bit r k ≡ true → free f k ≡ true
  pub holds : (σ : Assignment) → On (bit r) σ (bit w) → (l : ℕ) → l < 64 → At π l σ → bit t l ≡ v → truth f σ ≡ v

-- every lane
abbrev pub ones : ℕ
ones = 18446744073709551615

-- u is t with every lane flipped
pub record Flipped (t u : ℕ) : Type 0 where
  pub bits : (l : ℕ) → l < 64 → bit u l ≡ not (bit t l)

-- z is the join of t and u, lane by lane
pub record Joint (d : Bool) (t u z : ℕ) : Type 0 where
  pub bits : (l : ℕ) → bit z l ≡ join d (bit t l) (bit u l)

-- a lane is hit where f has the truth v: r is why where it has, q is why where it has not; no variable of the two is a lane any more
pub record Hit (f : Formula) (v : Bool) (π : Positions) (w r q h : ℕ) : Type 0 where
  pub distinct : Distinct π
  pub clear : (x : ℕ) → π x < 6 → bit r x ≡ false
  pub clear-not : (x : ℕ) → π x < 6 → bit q x ≡ false
  pub inside : (k : ℕ) → bit r k ≡ true → free f k ≡ true
  pub inside-not : (k : ℕ) → bit q k ≡ true → free f k ≡ true
  pub hits : (σ : Assignment) → On (bit r) σ (bit w) → (l : ℕ) → l < 64 → At π l σ → bit h l ≡ true → truth f σ ≡ v
  pub misses : (σ : Assignment) → On (bit q) σ (bit w) → (l : ℕ) → l < 64 → At π l σ → bit h l ≡ false → truth f σ ≡ not v

-- the positions without x's
unfoldable pub drop : Positions → ℕ → Positions
drop π x k = cond (eqb k x) 6 (π k)
