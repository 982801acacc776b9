-- Frames that name earlier ones: those of the numbers with a property, and chains of gates with what they mean. Assumes nothing.
use Rattle.std.specs.Prelude.{ℕ, suc, ◌<◌, ◌≡◌, Bool, false, not, ◌||◌}
use mathlib.Core.List.{List, [], ◌∷◌}
use Rattle.formula.specs.Assignment.{Assignment, join}
use Rattle.formula.specs.Formula.{Formula, gate, truth, free}
use Rattle.sheet.specs.Frames.{build}
use Rattle.sheet.specs.declared.Kind.{Kind}
use Rattle.sheet.specs.declared.Kind.TheVariants.{Input, Not, And, Or}
use Rattle.prenex.specs.Question.{Every}
use Rattle.prenex.specs.Kinds.{variables}

-- ---- frames that name earlier ones, and none of them a quantifier or never

pub data Plain (k : ℕ) : Kind → Type 0 where
  plain-input : {x : ℕ} → x < variables → Plain k (Input x)
  plain-not : {a : ℕ} → a < k → Plain k (Not a)
  plain-and : {a b : ℕ} → a < k → b < k → Plain k (And a b)
  plain-or : {a b : ℕ} → a < k → b < k → Plain k (Or a b)

-- kinds that are so from frame n on
pub data Plains : ℕ → List Kind → Type 0 where
  plains_none : {n : ℕ} → Plains n []
  plains_more : {n : ℕ} {d : Kind} {ks : List Kind} → Plain n d → Plains (suc n) ks → Plains n (d ∷ ks)

-- ---- chains and what they name

abbrev pub Below : ℕ → List ℕ → Type 0
Below n bs = Every (λ (b : ℕ). b < n) bs

-- ---- what frames mean, joined

-- d true: some of them; d false: all of them
unfoldable pub joined : Bool → (ℕ → Formula) → List ℕ → Assignment → Bool
joined d F [] σ = not d
joined d F (b ∷ bs) σ = join d (truth (F b) σ) (joined d F bs σ)

unfoldable pub free_in : (ℕ → Formula) → List ℕ → ℕ → Bool
free_in F [] x = false
free_in F (b ∷ bs) x = free (F b) x || free_in F bs x

-- K makes the gates that d decides
abbrev pub Gates : Bool → (ℕ → ℕ → Kind) → Type 0
Gates d K = (F : ℕ → Formula) (a b : ℕ) → build F (K a b) ≡ gate d (F a) (F b)
