-- absorb: a node g that flips with a bound variable y, where y is read through g only, may become y itself. What has to hold for it. Assumes nothing.
use Rattle.std.specs.Prelude.{ℕ, ◌<◌, ◌≡◌, Bool, true, false, not, eqb}
use Rattle.words.specs.Word.{bit}
use Rattle.formula.specs.Assignment.{Assignment, assign}
use Rattle.net.specs.Net.{Node, Fixed, Reads, Flips, Joins, Binds, Net, value, frees, Ordered}

-- the nodes that it names are marked
abbrev pub Names : (ℕ → Bool) → Node → Type 0
Names r (Fixed v) = Unit {0}
Names r (Reads x) = Unit {0}
Names r (Flips a) = r a ≡ true
Names r (Joins d a b) = (r a ≡ true) × (r b ≡ true)
Names r (Binds d m a) = r a ≡ true

-- the node does not read y, nor bind y or a variable of F
abbrev pub Spares : ℕ → (ℕ → Bool) → Node → Type 0
Spares y F (Fixed v) = Unit {0}
Spares y F (Reads x) = eqb x y ≡ false
Spares y F (Flips a) = Unit {0}
Spares y F (Joins d a b) = Unit {0}
Spares y F (Binds d m a) = (bit m y ≡ false) × ((k : ℕ) → F k ≡ true → bit m k ≡ false)

-- v changes with y, whatever the others are
abbrev pub Turns : ℕ → (Assignment → Bool) → Type 0
Turns y v = (σ : Assignment) → v (assign σ y true) ≡ not (v (assign σ y false))

-- below q's body, but not through g, no node reads y, and none binds y or a free variable of g
pub record Inside (N : Net) (body g y : ℕ) : Type 0 where
  pub inner : ℕ → Bool
  pub enters : inner body ≡ true
  pub names : (k : ℕ) → inner k ≡ true → eqb k g ≡ false → Names inner (N k)
  pub spares : (k : ℕ) → inner k ≡ true → eqb k g ≡ false → Spares y (frees N g) (N k)

-- g is reached from the root through q only
pub record Outside (N : Net) (root q g : ℕ) : Type 0 where
  pub outer : ℕ → Bool
  pub enters : outer root ≡ true
  pub names : (k : ℕ) → outer k ≡ true → eqb k q ≡ false → Names outer (N k)
  pub hidden : outer g ≡ false

pub record Absorb (N : Net) (root g y : ℕ) : Type 0 where
  pub ordered : Ordered N
  -- the quantifier that binds y, above g
  pub binder : ℕ
  pub decider : Bool
  pub mask : ℕ
  pub body : ℕ
  pub binds : N binder ≡ Binds decider mask body
  pub holds : bit mask y ≡ true
  pub below : g < binder
  pub turns : Turns y (value N g)
  pub inside : Inside N body g y
  pub outside : Outside N root binder g
