-- Placing a formula among frames: what is there stays, the frame placed has the formula, and a formula that is placed already changes nothing. Assumes
-- nothing.
use Rattle.std.specs.Prelude.{ℕ, ◌+◌, ◌≤◌, ◌<◌, ◌≡◌, Bool, List, ◌++◌, length}
use Rattle.formula.specs.Formula.{Formula, never, input, neg, gate, quant}
use Rattle.sheet.specs.Frames.{formula_of}
use Rattle.sheet.specs.declared.Kind.{Kind}
use Rattle.sheet.specs.declared.Kind.TheVariants.{Never, Not}
use Rattle.normal.specs.Normal.{Placed, reading, gate_of, quant_of}
use Rattle.normal.specs.Lists.{kind_at}

-- the formula of frame k of a list
abbrev pub formula_at : List Kind → ℕ → Formula
formula_at l k = formula_of (kind_at l) k

-- ---- what a frame says

-- d is a kind for frame k: it names earlier frames, its variables are below w, and γ tells which of them are gauges
pub data Says (γ : ℕ → Bool) (w k : ℕ) : Kind → Type 0 where
  nothing : Says γ w k Never
  reads : (x : ℕ) → x < w → Says γ w k (reading (γ x) x)
  denies : (a : ℕ) → a < k → Says γ w k (Not a)
  joins : (d : Bool) (a b : ℕ) → a < k → b < k → Says γ w k (gate_of d a b)
  binds : (d : Bool) (b c a : ℕ) → a < k → 1 ≤ c → b + c ≤ w → Says γ w k (quant_of d b c a)

-- ---- frames in order

-- what frame k of the frames κ says, and the formula that it has by that
pub data Formed (γ : ℕ → Bool) (w : ℕ) (κ : ℕ → Kind) (k : ℕ) : Type 0 where
  nothing : κ k ≡ Never → formula_of κ k ≡ never → Formed γ w κ k
  reads : (x : ℕ) → x < w → κ k ≡ reading (γ x) x → formula_of κ k ≡ input x → Formed γ w κ k
  denies : (a : ℕ) → a < k → κ k ≡ Not a → formula_of κ k ≡ neg (formula_of κ a) → Formed γ w κ k
  joins : (d : Bool) (a b : ℕ) → a < k → b < k → κ k ≡ gate_of d a b → formula_of κ k ≡ gate d (formula_of κ a) (formula_of κ b) → Formed γ w κ k
  binds : (d : Bool) (b c a : ℕ) → a < k → 1 ≤ c → b + c ≤ w → κ k ≡ quant_of d b c a → formula_of κ k ≡ quant d b c (formula_of κ a) → Formed γ w κ k

-- the frames below n say something of earlier ones
abbrev pub Frames : (ℕ → Bool) → ℕ → (ℕ → Kind) → ℕ → Type 0
Frames γ w κ n = (k : ℕ) → k < n → Says γ w k (κ k)

-- ---- lists of frames

-- frames as they are written: each says something of earlier ones, and no two are the same
pub record Written (γ : ℕ → Bool) (w : ℕ) (l : List Kind) : Type 0 where
  pub says : (k : ℕ) → k < length l → Says γ w k (kind_at l k)
  pub distinct : (i j : ℕ) → i < length l → j < length l → kind_at l i ≡ kind_at l j → i ≡ j

-- ---- placing

-- p is what placing f among the frames l gives
pub record Places (γ : ℕ → Bool) (w : ℕ) (f : Formula) (l : List Kind) (p : Placed) : Type 0 where
  pub more : List Kind
  pub extends : p.frames ≡ l ++ more
  pub written : Written γ w p.frames
  pub inside : p.number < length p.frames
  pub means : formula_at p.frames p.number ≡ f

-- ---- formulas

-- P of a formula and of all its parts
abbrev pub Every : (Formula → Type 0) → Formula → Type 0
Every P never = P never
Every P (input x) = P (input x)
Every P (neg f) = P (neg f) × Every P f
Every P (gate d f g) = P (gate d f g) × Every P f × Every P g
Every P (quant d b c f) = P (quant d b c f) × Every P f

-- its variables are below w, and a quantifier has some
abbrev pub Below : ℕ → Formula → Type 0
Below w never = Unit {0}
Below w (input x) = x < w
Below w (neg f) = Unit {0}
Below w (gate d f g) = Unit {0}
Below w (quant d b c f) = (1 ≤ c) × (b + c ≤ w)
