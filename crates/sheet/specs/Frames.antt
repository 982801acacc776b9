-- What a sheet means: the formula that a frame stands for. Assumes nothing.
use Rattle.std.specs.Prelude.{ℕ, zero, suc, ◌+◌, ◌≤◌, ◌<◌}
use Rattle.formula.specs.Formula.{Formula, never, input, neg, and, or, exists, forall}
use Rattle.sheet.specs.Fields.{Sheet, kind}
use Rattle.sheet.specs.declared.Kind.{Kind}
use Rattle.sheet.specs.declared.Kind.TheVariants.{Never, Input, Not, And, Or, Exists, Forall, Gauge}

-- the formula of a kind, from those of the frames that it names; a gauge is an input like any other, and which variables are gauges is said of the sheet
unfoldable pub build : (ℕ → Formula) → Kind → Formula
build g Never = never
build g (Input x) = input x
build g (Not a) = neg (g a)
build g (And a b) = and (g a) (g b)
build g (Or a b) = or (g a) (g b)
build g (Exists a b c) = exists b c (g a)
build g (Forall a b c) = forall b c (g a)
build g (Gauge x) = input x

-- the same to a depth of n frames
unfoldable pub tree : ℕ → (ℕ → Kind) → ℕ → Formula
tree zero κ k = never
tree (suc n) κ k = build (tree n κ) (κ k)

-- the formula of frame k, where each frame names only earlier ones
unfoldable pub formula_of : (ℕ → Kind) → ℕ → Formula
formula_of κ k = tree (suc k) κ k

abbrev pub formula : Sheet → ℕ → Formula
formula s k = formula_of (kind s) k

-- the frames that a kind names stand before k, and its variables are below n
abbrev pub Fit : ℕ → ℕ → Kind → Type 0
Fit n k Never = Unit {0}
Fit n k (Input x) = x < n
Fit n k (Not a) = a < k
Fit n k (And a b) = (a < k) × (b < k)
Fit n k (Or a b) = (a < k) × (b < k)
Fit n k (Exists a b c) = (a < k) × (b + c ≤ n)
Fit n k (Forall a b c) = (a < k) × (b + c ≤ n)
Fit n k (Gauge x) = x < n

-- every frame names only earlier frames, and only variables below n
pub record Ordered (n : ℕ) (κ : ℕ → Kind) : Type 0 where
  pub fit : (k : ℕ) → Fit n k (κ k)

-- the frames below m name only earlier frames, and only variables below n
abbrev pub OrderedBelow : ℕ → ℕ → (ℕ → Kind) → Type 0
OrderedBelow m n κ = (k : ℕ) → k < m → Fit n k (κ k)
