-- The prefix: a block quantifies over the same assignments as the tower of its runs, and the frames of the blocks mean the prefix. Assumes nothing.
use Rattle.std.specs.Prelude.{ℕ, ◌-◌, ◌≤◌, ◌<◌, ◌≡◌, Bool, true, false, List, [], ◌∷◌}
use Rattle.formula.specs.Assignment.{Assignment, sweep}
use Rattle.formula.specs.Formula.{truth, free}
use Rattle.sheet.specs.Frames.{formula_of, OrderedBelow}
use Rattle.sheet.specs.Rules.{binds}
use Rattle.sheet.specs.declared.Kind.{Kind}
use Rattle.sheet.specs.declared.Kind.TheVariants.{Never, Input, Not, And, Or, Exists, Forall, Gauge}
use Rattle.prenex.specs.Question.{Block}
use Rattle.prenex.specs.Question.{Every}
use Rattle.prenex.specs.Kinds.{variables, Run}
use Rattle.prenex.specs.ChainLaws.{Below}

-- ---- quantifying over a set of variables

-- q is p under some (d true) or every (d false) assignment of the variables of m: q is d exactly where one that differs only in m makes p so
pub record Over (d : Bool) (m : ℕ → Bool) (p q : Assignment → Bool) : Type 0 where
  pub finds : (σ : Assignment) → q σ ≡ d → (τ : Assignment) × ((k : ℕ) → m k ≡ false → τ k ≡ σ k) × (p τ ≡ d)
  pub meets : (σ τ : Assignment) → ((k : ℕ) → m k ≡ false → τ k ≡ σ k) → p τ ≡ d → q σ ≡ d

-- the last run is the outermost
unfoldable pub over_runs : Bool → List Run → (Assignment → Bool) → Assignment → Bool
over_runs d [] p = p
over_runs d (r ∷ rs) p = over_runs d rs (sweep d r.first r.size p)

-- ---- the frames before n: they are in order, and the last of them has the truth p and the free variables g

pub record Stands (κ : ℕ → Kind) (n : ℕ) (p : Assignment → Bool) (g : ℕ → Bool) : Type 0 where
  pub least : 1 ≤ n
  pub ordered : OrderedBelow n variables κ
  pub truth-is : (σ : Assignment) → truth (formula_of κ (n - 1)) σ ≡ p σ
  pub free-is : (x : ℕ) → free (formula_of κ (n - 1)) x ≡ g x

-- the atoms of each block are below 32
abbrev pub BlocksBelow : List Block → Type 0
BlocksBelow bs = Every (λ (b : Block). Below variables b.atoms) bs

-- ---- what the frames from n to e bind: each at least one variable, all of them variables of m, and none twice

-- a frame of a question: a quantifier binds a variable, and nothing is a gauge
abbrev pub Ranged : Kind → Type 0
Ranged Never = Unit {0}
Ranged (Input x) = Unit {0}
Ranged (Not a) = Unit {0}
Ranged (And a b) = Unit {0}
Ranged (Or a b) = Unit {0}
Ranged (Exists a b c) = 1 ≤ c
Ranged (Forall a b c) = 1 ≤ c
Ranged (Gauge x) = ⊥

pub record Binds (κ : ℕ → Kind) (n e : ℕ) (m : ℕ → Bool) : Type 0 where
  pub ranged : (k : ℕ) → n ≤ k → k < e → Ranged (κ k)
  pub bound : (k v : ℕ) → n ≤ k → k < e → binds (κ k) v ≡ true → m v ≡ true
  pub once : (j k v : ℕ) → n ≤ j → j < e → n ≤ k → k < e → binds (κ j) v ≡ true → binds (κ k) v ≡ true → j ≡ k
