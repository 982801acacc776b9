-- What a sheet means: the formula that a frame stands for. Assumes nothing.
use Rattle.std.specs.Prelude.{ℕ, zero, suc, ◌≤◌, ◌<◌, ◌≡◌, refl}
use Rattle.std.proofs.Common.{arith, ap, ap₂}
use Rattle.formula.specs.Formula.{Formula, neg, and, or, exists, forall}
use Rattle.sheet.specs.Fields.{Sheet, frames, kind_of, kind}
use Rattle.sheet.proofs.FieldsLaws.{fields-past}
use Rattle.sheet.specs.declared.Kind.{Kind}
use Rattle.sheet.specs.declared.Kind.TheVariants.{Never, Input, Not, And, Or, Exists, Forall, Gauge}
use Rattle.sheet.specs.Frames.{Fit, Ordered, OrderedBelow, build, formula_of, tree}

pub fit-later : (n k m : ℕ) (d : Kind) → k ≤ m → Fit n k d → Fit n m d
fit-later n k m Never h w = tt
fit-later n k m (Input x) h w = w
fit-later n k m (Not a) h w = omega arith
fit-later n k m (And a b) h w = (omega (arith, w.0), omega (arith, w.1))
fit-later n k m (Or a b) h w = (omega (arith, w.0), omega (arith, w.1))
fit-later n k m (Exists a b c) h w = (omega (arith, w.0), w.1)
fit-later n k m (Forall a b c) h w = (omega (arith, w.0), w.1)
fit-later n k m (Gauge x) h w = w

pub fit-more : (n m k l : ℕ) (d : Kind) → n ≤ m → k ≤ l → Fit n k d → Fit m l d
fit-more n m k l Never g h w = tt
fit-more n m k l (Input x) g h w = omega arith
fit-more n m k l (Not a) g h w = omega arith
fit-more n m k l (And a b) g h w = (omega (arith, w.0), omega (arith, w.1))
fit-more n m k l (Or a b) g h w = (omega (arith, w.0), omega (arith, w.1))
fit-more n m k l (Exists a b c) g h w = (omega (arith, w.0), omega (arith, w.1))
fit-more n m k l (Forall a b c) g h w = (omega (arith, w.0), omega (arith, w.1))
fit-more n m k l (Gauge x) g h w = omega arith

pub build-same : (n : ℕ) (g h : ℕ → Formula) (k : ℕ) (d : Kind) → Fit n k d → ((a : ℕ) → a < k → g a ≡ h a) → build g d ≡ build h d
unfolding build
build-same n g h k Never w e = refl
build-same n g h k (Input x) w e = refl
build-same n g h k (Not a) w e = ap neg (e a w)
build-same n g h k (And a b) w e = ap₂ and (e a w.0) (e b w.1)
build-same n g h k (Or a b) w e = ap₂ or (e a w.0) (e b w.1)
build-same n g h k (Exists a b c) w e = ap (exists b c) (e a w.0)
build-same n g h k (Forall a b c) w e = ap (forall b c) (e a w.0)
build-same n g h k (Gauge x) w e = refl

depth_free : (w l : ℕ) (κ : ℕ → Kind) → OrderedBelow l w κ → (n m k : ℕ) → k < l → k < n → k < m → tree n κ k ≡ tree m κ k
unfolding tree
depth_free w l κ o zero m k h i j = absurd (omega arith)
depth_free w l κ o (suc n) zero k h i j = absurd (omega arith)
depth_free w l κ o (suc n) (suc m) k h i j =
    build-same w (tree n κ) (tree m κ) k (κ k) (o k h) (λ a e. depth_free w l κ o n m a (omega arith) (omega arith) (omega arith))

-- the formula of a frame is built of those of the frames that it names
pub formula-below : (w l : ℕ) (κ : ℕ → Kind) → OrderedBelow l w κ → (k : ℕ) → k < l → formula_of κ k ≡ build (formula_of κ) (κ k)
unfolding formula_of tree
formula-below w l κ o k h =
    build-same w (tree k κ) (formula_of κ) k (κ k) (o k h) (λ a i. depth_free w l κ o k (suc a) a (omega arith) i (omega arith))

pub formula-is : (w : ℕ) (κ : ℕ → Kind) → Ordered w κ → (k : ℕ) → formula_of κ k ≡ build (formula_of κ) (κ k)
formula-is w κ o k = formula-below w (suc k) κ (λ j h. o.fit j) k (omega arith)

pub kind-past : (s : Sheet) (k : ℕ) → frames s ≤ k → kind s k ≡ Never
unfolding kind_of
kind-past s k h = ap kind_of (fields-past s k h)
