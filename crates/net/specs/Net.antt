-- A net: nodes that name earlier nodes, and the formula that each stands for. Its quantifiers bind sets of variables. Assumes nothing.
use Rattle.std.specs.Prelude.{ℕ, zero, suc, ◌<◌, ◌≤◌, ◌≡◌, Bool, cond, eqb, ltb}
use Rattle.std.proofs.Common.{arith, sym, ◌∙◌, ap₂, subst}
use Rattle.std.proofs.Math.Path.{refl, ap}
use Rattle.std.proofs.Math.Bool.{true, false}
use borrow.Author.Tests.{eqb-true, eq-eqb, ne_eqb, lt-ltb, le-ltb}
use Rattle.words.proofs.Logic.{by_bool}
use Rattle.words.specs.Mask.{Apart}
use Rattle.formula.specs.Assignment.{Assignment}
use Rattle.formula.specs.Formula.{Formula, never, input, neg, gate, truth, free}
use Rattle.formula.specs.Ask.{Bounded}
use Rattle.formula.proofs.FreeMask.{bounded-never, bounded-input, bounded-neg, bounded-gate}
use Rattle.formula.specs.Over.{over}
use Rattle.formula.proofs.Over.{bounded-over}

-- A gate and a quantifier carry the truth that decides them, as in formulas: `Joins false` is AND, `Binds true` is EXISTS.
pub data Node : Type 0 where
  Fixed : Bool → Node
  Reads : ℕ → Node
  Flips : ℕ → Node
  Joins : Bool → ℕ → ℕ → Node
  -- the truth that decides it, the mask, the body
  Binds : Bool → ℕ → ℕ → Node

abbrev pub Net : Type 0
Net = ℕ → Node

-- ---- a node as numbers

-- 0 false, 1 true, 2 INPUT left, 3 NOT left, 4 AND, 5 OR, 6 EXISTS mask left; 7, and whatever is above it, FORALL mask left
unfoldable pub node_of : ℕ → ℕ → ℕ → ℕ → Node
node_of op left right mask =
    cond (ltb op 2) (Fixed (eqb op 1))
    (cond (eqb op 2) (Reads left)
    (cond (eqb op 3) (Flips left)
    (cond (ltb op 6) (Joins (eqb op 5) left right) (Binds (eqb op 6) mask left))))

module _ (op left right mask : ℕ) where
  pub node_fixed : op < 2 → node_of op left right mask ≡ Fixed (eqb op 1)
  unfolding node_of
  node_fixed h = rw (lt-ltb op 2 h)

  pub node_reads : op ≡ 2 → node_of op left right mask ≡ Reads left
  unfolding node_of
  node_reads e = rw e

  pub node_flips : op ≡ 3 → node_of op left right mask ≡ Flips left
  unfolding node_of
  node_flips e = rw e

  pub node_joins : 4 ≤ op → op < 6 → node_of op left right mask ≡ Joins (eqb op 5) left right
  unfolding node_of
  node_joins h l = rw (le-ltb op 2 (omega arith), ne_eqb op 2 (λ e. omega arith), ne_eqb op 3 (λ e. omega arith), lt-ltb op 6 l)

  pub node_binds : 6 ≤ op → node_of op left right mask ≡ Binds (eqb op 6) mask left
  unfolding node_of
  node_binds h = rw (le-ltb op 2 (omega arith), ne_eqb op 2 (λ e. omega arith), ne_eqb op 3 (λ e. omega arith), le-ltb op 6 h)

-- node g is u, the others are as they were
unfoldable pub replace : Net → ℕ → Node → Net
replace N g u k = cond (eqb k g) u (N k)

pub replace-here : (N : Net) (g : ℕ) (u : Node) → replace N g u g ≡ u
unfolding replace
replace-here N g u = rw (eq-eqb g g refl)

pub replace-other : (N : Net) (g : ℕ) (u : Node) (k : ℕ) → eqb k g ≡ false → replace N g u k ≡ N k
unfolding replace
replace-other N g u k e = rw e

-- ---- what a node stands for

unfoldable pub build : (ℕ → Formula) → Node → Formula
build f (Fixed true) = neg never
build f (Fixed false) = never
build f (Reads x) = input x
build f (Flips a) = neg (f a)
build f (Joins d a b) = gate d (f a) (f b)
build f (Binds d m a) = over d m (f a)

unfoldable pub tree : ℕ → Net → ℕ → Formula
tree zero N k = never
tree (suc n) N k = build (tree n N) (N k)

-- the formula of node k, where each node names only earlier ones
unfoldable pub meaning : Net → ℕ → Formula
meaning N k = tree (suc k) N k

abbrev pub value : Net → ℕ → Assignment → Bool
value N k σ = truth (meaning N k) σ

abbrev pub frees : Net → ℕ → ℕ → Bool
frees N k = free (meaning N k)

-- the nodes that it names stand before k
abbrev pub Fit : ℕ → Node → Type 0
Fit k (Fixed v) = Unit {0}
Fit k (Reads x) = Unit {0}
Fit k (Flips a) = a < k
Fit k (Joins d a b) = (a < k) × (b < k)
Fit k (Binds d m a) = a < k

pub record Ordered (N : Net) : Type 0 where
  pub fit : (k : ℕ) → Fit k (N k)

build-same : (f g : ℕ → Formula) (k : ℕ) (u : Node) → Fit k u → ((a : ℕ) → a < k → f a ≡ g a) → build f u ≡ build g u
unfolding build
build-same f g k (Fixed true) w e = refl
build-same f g k (Fixed false) w e = refl
build-same f g k (Reads x) w e = refl
build-same f g k (Flips a) w e = ap neg (e a w)
build-same f g k (Joins d a b) w e = ap₂ (gate d) (e a w.0) (e b w.1)
build-same f g k (Binds d m a) w e = ap (over d m) (e a w)

depth_free : (N : Net) → Ordered N → (n m k : ℕ) → k < n → k < m → tree n N k ≡ tree m N k
unfolding tree
depth_free N o zero m k i j = absurd (omega arith)
depth_free N o (suc n) zero k i j = absurd (omega arith)
depth_free N o (suc n) (suc m) k i j = build-same (tree n N) (tree m N) k (N k) (o.fit k) (λ a e. depth_free N o n m a (omega arith) (omega arith))

-- a node's formula is built of those of the nodes that it names
pub meaning-is : (N : Net) → Ordered N → (k : ℕ) → meaning N k ≡ build (meaning N) (N k)
unfolding meaning tree
meaning-is N o k = build-same (tree k N) (meaning N) k (N k) (o.fit k) (λ a i. depth_free N o k (suc a) a i (omega arith))

-- ---- by kind

module _ {N : Net} (o : Ordered N) {k : ℕ} where
  pub fit_at : {u : Node} → N k ≡ u → Fit k u
  fit_at e = subst (λ (u : Node). Fit k u) e (o.fit k)

  pub at_node : {u : Node} → N k ≡ u → meaning N k ≡ build (meaning N) u
  at_node e = meaning-is N o k ∙ rw e

  pub at_fixed : {v : Bool} → N k ≡ Fixed v → (σ : Assignment) → value N k σ ≡ v
  unfolding build truth
  at_fixed {v} e σ = ap (λ (f : Formula). truth f σ) (at_node e) ∙ go v
    where
      go : (t : Bool) → truth (build (meaning N) (Fixed t)) σ ≡ t
      go true = refl
      go false = refl

  pub at_reads : {x : ℕ} → N k ≡ Reads x → meaning N k ≡ input x
  unfolding build
  at_reads e = at_node e

  pub at_flips : {a : ℕ} → N k ≡ Flips a → meaning N k ≡ neg (meaning N a)
  unfolding build
  at_flips e = at_node e

  pub at-joins : {d : Bool} {a b : ℕ} → N k ≡ Joins d a b → meaning N k ≡ gate d (meaning N a) (meaning N b)
  unfolding build
  at-joins e = at_node e

  pub at-binds : {d : Bool} {m a : ℕ} → N k ≡ Binds d m a → meaning N k ≡ over d m (meaning N a)
  unfolding build
  at-binds e = at_node e

  pub at_fixed_free : {v : Bool} → N k ≡ Fixed v → (x : ℕ) → frees N k x ≡ false
  unfolding build free
  at_fixed_free {v} e x = ap (λ (f : Formula). free f x) (at_node e) ∙ go v
    where
      go : (t : Bool) → free (build (meaning N) (Fixed t)) x ≡ false
      go true = refl
      go false = refl

-- ---- a node replaced

pub ordered-replace : (N : Net) (g : ℕ) (u : Node) → Ordered N → Fit g u → Ordered (replace N g u)
unfolding replace
ordered-replace N g u o w =
    record { fit = λ k. by_bool (eqb k g) (λ e. rw e (subst (λ (i : ℕ). Fit i u) (sym (eqb-true k g e)) w)) (λ e. rw e (o.fit k)) }

-- ---- induction over the nodes before

up : (P : ℕ → Type 0) → ((k : ℕ) → ((j : ℕ) → j < k → P j) → P k) → (n k : ℕ) → k < n → P k
up P step zero k h = absurd (omega arith)
up P step (suc n) k h = step k (λ j l. up P step n j (omega arith))

pub upward : (P : ℕ → Type 0) → ((k : ℕ) → ((j : ℕ) → j < k → P j) → P k) → (k : ℕ) → P k
upward P step k = up P step (suc k) k (omega arith)

-- nets that agree on the nodes up to k agree on what node k stands for
pub meaning-agree : (N M : Net) → Ordered N → Ordered M → (k : ℕ) → ((j : ℕ) → j ≤ k → M j ≡ N j) → meaning M k ≡ meaning N k
meaning-agree N M o p =
    upward (λ k. ((j : ℕ) → j ≤ k → M j ≡ N j) → meaning M k ≡ meaning N k)
    (λ k h e. meaning-is M p k
    ∙ rw (e k (omega arith)) (build-same (meaning M) (meaning N) k (N k) (o.fit k) (λ a i. h a i (λ j l. e j (omega arith))))
    ∙ sym (meaning-is N o k))

-- ---- the variables that nodes read and bind

-- every variable that is read is below n
abbrev pub Ranged : ℕ → Node → Type 0
Ranged n (Fixed v) = Unit {0}
Ranged n (Reads x) = x < n
Ranged n (Flips a) = Unit {0}
Ranged n (Joins d a b) = Unit {0}
Ranged n (Binds d m a) = Unit {0}

pub ranged_more : {n m : ℕ} (u : Node) → n ≤ m → Ranged n u → Ranged m u
ranged_more (Fixed v) h r = tt
ranged_more (Reads x) h r = omega arith
ranged_more (Flips a) h r = tt
ranged_more (Joins d a b) h r = tt
ranged_more (Binds d m a) h r = tt

-- no quantifier among the nodes up to a binds a variable of z
pub record Clear (N : Net) (a z : ℕ) : Type 0 where
  pub apart : (j : ℕ) {d : Bool} {m x : ℕ} → j ≤ a → N j ≡ Binds d m x → Apart m z

-- a quantifier's variables are bound by no other one in its body
pub record Distinct (N : Net) : Type 0 where
  pub below : (k : ℕ) {d : Bool} {m x : ℕ} → N k ≡ Binds d m x → Clear N x m

pub bounded_net : (n : ℕ) (N : Net) → Ordered N → ((k : ℕ) → Ranged n (N k)) → (k : ℕ) → Bounded n (meaning N k)
unfolding build
bounded_net n N o r = upward (λ k. Bounded n (meaning N k)) (λ k h. rw (meaning-is N o k) (go k (N k) (o.fit k) (r k) h))
  where
    go : (k : ℕ) (u : Node) → Fit k u → Ranged n u → ((j : ℕ) → j < k → Bounded n (meaning N j)) → Bounded n (build (meaning N) u)
    go k (Fixed true) w r h = bounded-neg (bounded-never n)
    go k (Fixed false) w r h = bounded-never n
    go k (Reads x) w r h = bounded-input n x r
    go k (Flips a) w r h = bounded-neg (h a w)
    go k (Joins d a b) w r h = bounded-gate d (h a w.0) (h b w.1)
    go k (Binds d m a) w r h = bounded-over d m (h a w)
