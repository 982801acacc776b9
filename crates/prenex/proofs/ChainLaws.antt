-- Frames that name earlier ones: those of the numbers with a property, and chains of gates with what they mean. Assumes nothing.
use Rattle.std.specs.Prelude.{ℕ, zero, suc, ◌+◌, ◌≤◌, ◌<◌, ◌≡◌, refl, Bool, true, false, not, ◌||◌, eqb, length}
use Rattle.std.proofs.Common.{add-zero, add-suc, suc-add, arith, ◌∙◌}
use Rattle.std.proofs.Math.Path.{sym, ap}
use Rattle.std.proofs.Math.Bool.{or-false, or_assoc}
use mathlib.Core.List.{List, [], ◌∷◌, ◌++◌, map}
use Rattle.words.specs.Logic.{tests}
use Rattle.words.proofs.Logic.{by_bool}
use Rattle.formula.specs.Assignment.{Assignment, join}
use Rattle.formula.specs.Formula.{Formula, truth, free}
use Rattle.sheet.specs.Frames.{build, formula_of, Fit, OrderedBelow}
use Rattle.sheet.proofs.Frames.{formula-below}
use Rattle.sheet.specs.Rules.{binds}
use Rattle.sheet.specs.declared.Kind.{Kind}
use Rattle.sheet.specs.declared.Kind.TheVariants.{And, Or}
use Rattle.prenex.specs.Question.{every-none, every_one}
use Rattle.prenex.specs.Kinds.{variables, having, count, chain, chain_end}
use Rattle.prenex.specs.SheetLaws.{Has}
use Rattle.prenex.proofs.SheetLaws.{has_head, has_tail}
use Rattle.prenex.specs.ChainLaws.{Below, Gates, Plain, Plains, free_in, joined, plain-and, plain-input, plain-not, plain-or, plains_more, plains_none}

pub plain-fit : {k : ℕ} {d : Kind} → Plain k d → Fit variables k d
plain-fit (plain-input h) = h
plain-fit (plain-not h) = h
plain-fit (plain-and h i) = (h, i)
plain-fit (plain-or h i) = (h, i)

pub plain-binds : {k : ℕ} {d : Kind} → Plain k d → (v : ℕ) → binds d v ≡ false
unfolding binds
plain-binds (plain-input h) v = refl
plain-binds (plain-not h) v = refl
plain-binds (plain-and h i) v = refl
plain-binds (plain-or h i) v = refl

pub plains_append : {n m : ℕ} {xs ys : List Kind} → Plains n xs → m ≡ n + length xs → Plains m ys → Plains n (xs ++ ys)
plains_append {n} {m} plains_none e w = rw (sym (e ∙ add-zero n)) w
plains_append {m} (plains_more {n} {ks = ks} d ds) e w = plains_more d (plains_append ds (omega arith) w)

pub plains_at : {κ : ℕ → Kind} {n : ℕ} {ks : List Kind} → Plains n ks → Has κ n ks → (k : ℕ) → n ≤ k → k < n + length ks → Plain k (κ k)
plains_at {n} plains_none h k l u = absurd (omega arith)
plains_at {κ} (plains_more {n} d ds) h k l u =
    by_bool (eqb k n)
    (λ e. let w : k ≡ n = omega tests in rw (w, has_head h) d)
    (λ e. plains_at ds (has_tail h) k (omega tests) (omega arith))

-- ---- the frames of the numbers with a property

-- the frame of x comes behind those of the numbers before x
pub has_having : {κ : ℕ → Kind} (f : ℕ → Kind) (p : ℕ → Bool) (n a m j x : ℕ) → Has κ n (map f (having p a m)) → j < m → x ≡ a + j → p x ≡ true
    → κ (n + count p a j) ≡ f x
unfolding having count
has_having f p n a zero j x h l e i = absurd (omega arith)
has_having {κ} f p n a (suc m) zero x h l e i =
    let w : x ≡ a = e ∙ add-zero a in
    rw (add-zero n, w) (has_head (rw (rw w at i) at h))
has_having {κ} f p n a (suc m) (suc j) x h l e i =
    by_bool (p a)
    (λ t. rw (t, add-suc n (count p (suc a) j), ← (suc-add n (count p (suc a) j)))
    (has_having f p (suc n) (suc a) m j x (has_tail (rw t at h)) (omega arith) (omega arith) i))
    (λ t. rw t (has_having f p n (suc a) m j x (rw t at h) (omega arith) (omega arith) i))

pub plains_having : (f : ℕ → Kind) (p : ℕ → Bool) (n a m : ℕ) → ((x k : ℕ) → x < a + m → p x ≡ true → n ≤ k → Plain k (f x)) → Plains n (map f (having p a m))
unfolding having
plains_having f p n a zero h = plains_none
plains_having f p n a (suc m) h =
    by_bool (p a)
    (λ t. rw t (plains_more (h a n (omega arith) t (omega arith)) (plains_having f p (suc n) (suc a) m (λ x k u v w. h x k (omega arith) v (omega arith)))))
    (λ t. rw t (plains_having f p n (suc a) m (λ x k u v w. h x k (omega arith) v w)))

pub chain_length : (K : ℕ → ℕ → Kind) (a : ℕ) (bs : List ℕ) (n : ℕ) → length (chain K a bs n) ≡ length bs
unfolding chain
chain_length K a [] n = refl
chain_length K a (b ∷ bs) n = ap suc (chain_length K n bs (suc n))

pub chain-end-below : (a : ℕ) (bs : List ℕ) (n : ℕ) → a < n → chain_end a bs n < n + length bs
unfolding chain_end
chain-end-below a [] n h = omega arith
chain-end-below a (b ∷ bs) n h = omega (arith, chain-end-below n bs (suc n) (omega arith))

-- a chain with a member ends with the last frame that is written
pub chain-end-last : (a b : ℕ) (bs : List ℕ) (n : ℕ) → chain_end a (b ∷ bs) n ≡ n + length bs
unfolding chain_end
chain-end-last a b [] n = omega arith
chain-end-last a b (c ∷ bs) n = chain-end-last n c bs (suc n) ∙ omega arith

-- the same, with what the numbers are below before what changes on the way
chain_plains : (K : ℕ → ℕ → Kind) → ((k a b : ℕ) → a < k → b < k → Plain k (K a b))
    → (c a : ℕ) (bs : List ℕ) (n : ℕ) → Below c bs → c ≤ n → a < n → Plains n (chain K a bs n)
unfolding chain
chain_plains K g c a bs n every-none h i = plains_none
chain_plains K g c a bs n (every_one {a = b} {l = l} w ws) h i = plains_more (g n a b i (omega arith)) (chain_plains K g c n l (suc n) ws (omega arith) (omega arith))

pub plains_chain : (K : ℕ → ℕ → Kind) → ((k a b : ℕ) → a < k → b < k → Plain k (K a b))
    → (a : ℕ) (bs : List ℕ) (c n : ℕ) → Below c bs → c ≤ n → a < n → Plains n (chain K a bs n)
plains_chain K g a bs c n = chain_plains K g c a bs n

join_unit : (d a : Bool) → join d a (not d) ≡ a
unfolding join
join_unit true true = refl
join_unit true false = refl
join_unit false true = refl
join_unit false false = refl

join-assoc : (d a b c : Bool) → join d (join d a b) c ≡ join d a (join d b c)
unfolding join
join-assoc true true b c = refl
join-assoc true false b c = refl
join-assoc false true b c = refl
join-assoc false false b c = refl

pub or_gates : Gates true Or
unfolding build
or_gates F a b = refl

pub and_gates : Gates false And
unfolding build
and_gates F a b = refl

module _ (κ : ℕ → Kind) (m : ℕ) (o : OrderedBelow m variables κ) where
  abbrev F : ℕ → Formula
  F = formula_of κ

  pub frame_is : {d : Kind} (k : ℕ) → k < m → κ k ≡ d → F k ≡ build F d
  frame_is k h e = formula-below variables m κ o k h ∙ ap (build F) e

  -- the frame that a chain ends with means all members, joined
  pub chain-truth : (d : Bool) (K : ℕ → ℕ → Kind) → Gates d K → (a : ℕ) (bs : List ℕ) (n : ℕ) → Has κ n (chain K a bs n) → n + length bs ≤ m → (σ : Assignment)
      → truth (F (chain_end a bs n)) σ ≡ joined d F (a ∷ bs) σ
  unfolding chain chain_end joined truth
  chain-truth d K g a [] n h l σ = sym (join_unit d _)
  chain-truth d K g a (b ∷ bs) n h l σ =
      chain-truth d K g n bs (suc n) (has_tail h) (omega arith) σ
      ∙ ap (λ (f : Formula). join d (truth f σ) (joined d F bs σ)) (frame_is n (omega arith) (has_head h) ∙ g F a b)
      ∙ join-assoc d _ _ _

  pub chain-free : (d : Bool) (K : ℕ → ℕ → Kind) → Gates d K → (a : ℕ) (bs : List ℕ) (n : ℕ) → Has κ n (chain K a bs n) → n + length bs ≤ m → (x : ℕ)
      → free (F (chain_end a bs n)) x ≡ free_in F (a ∷ bs) x
  unfolding chain chain_end free_in free
  chain-free d K g a [] n h l x = sym (or-false (free (F a) x))
  chain-free d K g a (b ∷ bs) n h l x =
      chain-free d K g n bs (suc n) (has_tail h) (omega arith) x
      ∙ ap (λ (f : Formula). free f x || free_in F bs x) (frame_is n (omega arith) (has_head h) ∙ g F a b)
      ∙ or_assoc (free (F a) x) (free (F b) x) (free_in F bs x)
