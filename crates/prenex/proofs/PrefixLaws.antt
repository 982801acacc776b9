-- The prefix: a block quantifies over the same assignments as the tower of its runs, and the frames of the blocks mean the prefix. Assumes nothing.
use Rattle.std.specs.Prelude.{ℕ, suc, ◌+◌, ◌-◌, ◌≤◌, ◌<◌, ◌≡◌, refl, Bool, true, false, not, cond, ◌&&◌, ◌||◌, List, [], ◌∷◌, ◌++◌, eqb, ltb, length}
use Rattle.std.proofs.Common.{arith, sym, ◌∙◌, ap, length-append, eqb-true, lt-ltb}
use Rattle.std.proofs.Math.Path.{fun_ext, subst⁻¹}
use Rattle.std.proofs.Math.Bool.{and-false, and-true, or_comm, or_assoc}
use Rattle.words.specs.Logic.{tests}
use Rattle.words.proofs.Logic.{by_bool, clash, or_cases, or_left, or_right, or-false}
use Rattle.formula.specs.Assignment.{Assignment, within, sweep, none, union, minus}
use Rattle.formula.proofs.Assignment.{within-suc, within-zero}
use Rattle.formula.proofs.Assignment.{by_value, differ, sweep_finds, sweep_meets}
use Rattle.formula.specs.Formula.{Formula, quant, truth, free}
use Rattle.sheet.specs.Frames.{build, formula_of, Fit, OrderedBelow}
use Rattle.sheet.proofs.Frames.{formula-below}
use Rattle.sheet.specs.Rules.{binds}
use Rattle.sheet.specs.declared.Kind.{Kind}
use Rattle.prenex.specs.Question.{Block, over_atoms, under_blocks, member, all_atoms, quantified}
use Rattle.prenex.specs.Question.{Every, every-none, every_one, Distinct, distinct_one}
use Rattle.prenex.specs.Kinds.{variables, Run, runs, quantifier, run_kinds, block_kinds}
use Rattle.prenex.specs.SheetLaws.{Has}
use Rattle.prenex.proofs.SheetLaws.{has_left, has_right, has_head, has_tail}
use Rattle.prenex.specs.ChainLaws.{Below}
use Rattle.prenex.specs.RunLaws.{Ascending, no_run, next-run, in_runs}
use Rattle.prenex.proofs.RunLaws.{runs_ascending, in-runs, ascending_apart}
use Rattle.prenex.specs.PrefixLaws.{Binds, BlocksBelow, Over, Ranged, Stands, over_runs}

-- and it is not d exactly where none does
pub over_misses : {d : Bool} {m : ℕ → Bool} {p q : Assignment → Bool} → Over d m p q
    → (σ : Assignment) → q σ ≡ not d → (τ : Assignment) → ((k : ℕ) → m k ≡ false → τ k ≡ σ k) → p τ ≡ not d
over_misses {d} {m} {p} {q} o σ e τ t = by_value d (p τ) (λ h. differ d (q σ) (o.meets σ τ t h) e) (λ h. h)

pub over-all : {d : Bool} {m : ℕ → Bool} {p q : Assignment → Bool} → Over d m p q
    → (σ : Assignment) → ((τ : Assignment) → ((k : ℕ) → m k ≡ false → τ k ≡ σ k) → p τ ≡ not d) → q σ ≡ not d
over-all {d} {m} {p} {q} o σ f =
    by_value d (q σ)
    (λ h. let t = o.finds σ h in differ d (p t.0) t.2 (f t.0 t.1))
    (λ h. h)

-- so the set decides it
pub over-same : {d : Bool} {m : ℕ → Bool} {p q r : Assignment → Bool} → Over d m p q → Over d m p r → (σ : Assignment) → q σ ≡ r σ
over-same {d} {m} {p} {q} {r} o u σ =
    by_value d (q σ)
    (λ h. let t = o.finds σ h in h ∙ sym (u.meets σ t.0 t.1 t.2))
    (λ h. h ∙ sym (over-all u σ (λ τ t. over_misses o σ h τ t)))

pub over_none : (d : Bool) (p : Assignment → Bool) → Over d none p p
over_none d p = record {
  finds = λ σ e. (σ, λ k h. refl, e);
  meets = λ σ τ t e. ap p (fun_ext (λ k. sym (t k refl))) ∙ e;
}

pub over-sweep : (d : Bool) (b c : ℕ) (p : Assignment → Bool) → Over d (within b c) p (sweep d b c p)
over-sweep d b c p = record { finds = sweep_finds d b c p; meets = sweep_meets d b c p }

-- τ on the variables of m, σ elsewhere
abbrev mix : (ℕ → Bool) → Assignment → Assignment → Assignment
mix m τ σ k = cond (m k) (τ k) (σ k)

-- one set inside, the other outside
pub over-union : {d : Bool} {m n : ℕ → Bool} {p q r : Assignment → Bool} → Over d m p q → Over d n q r → Over d (union m n) p r
over-union {d} {m} {n} {p} {q} {r} o u = record {
  finds = λ σ e.
      let s = u.finds σ e in
      let t = o.finds s.0 s.2 in
      (t.0, λ k h. let w = or-false (m k) (n k) h in t.1 k w.0 ∙ s.1 k w.1, t.2);
  meets = λ σ τ t e.
      u.meets σ (mix n τ σ)
      (λ k h. rw h)
      (o.meets (mix n τ σ) τ (λ k h. by_bool (n k) (λ w. rw w) (λ w. rw w (t k (rw (h, w))))) e);
}

over-set : {d : Bool} {m n : ℕ → Bool} {p q : Assignment → Bool} → ((k : ℕ) → m k ≡ n k) → Over d m p q → Over d n p q
over-set {d} {m} {n} {p} {q} h o = rw (← (fun_ext h)) o

-- ---- atoms and runs

one_atom : (x k : ℕ) → within x 1 k ≡ eqb k x
one_atom x k = within-suc x 0 k ∙ rw within-zero (or_comm (eqb k x) false)

pub over-atoms : (d : Bool) (xs : List ℕ) (p : Assignment → Bool) → Over d (member xs) p (over_atoms d xs p)
unfolding member over_atoms sweep
over-atoms d [] p = over_none d p
over-atoms d (x ∷ xs) p =
    over-set (λ k. rw (one_atom x k) (or_comm (member xs k) (eqb k x)))
    (over-union (over-atoms d xs p) (over-sweep d x 1 (over_atoms d xs p)))

pub over_runs_lem : (d : Bool) (rs : List Run) (p : Assignment → Bool) → Over d (in_runs rs) p (over_runs d rs p)
unfolding in_runs over_runs
over_runs_lem d [] p = over_none d p
over_runs_lem d (r ∷ rs) p = over-union (over-sweep d r.first r.size p) (over_runs_lem d rs (sweep d r.first r.size p))

-- a property that all elements have, a member has
pub every-member : {P : ℕ → Type 0} {xs : List ℕ} → Every P xs → (k : ℕ) → member xs k ≡ true → P k
unfolding member
every-member every-none k e = clash false e refl
every-member {P} (every_one {a} {l} h hs) k e =
    or_cases (eqb k a) (member l k) e
    (λ t. subst⁻¹ P (eqb-true k a t) h)
    (λ t. every-member hs k t)

-- the runs of a block have its atoms
pub in_atoms : (xs : List ℕ) → Below variables xs → (k : ℕ) → in_runs (runs (member xs)) k ≡ member xs k
in_atoms xs h k =
    in-runs (member xs) k
    ∙ by_bool (member xs k)
    (λ e. rw (e, lt-ltb k variables (every-member h k e)))
    (λ e. rw e (and-false (ltb k variables)))

-- so order and repetition of atoms do not matter
pub over_block : (d : Bool) (xs : List ℕ) (p : Assignment → Bool) → Below variables xs
    → (σ : Assignment) → over_runs d (runs (member xs)) p σ ≡ over_atoms d xs p σ
over_block d xs p h σ = over-same (over-set (in_atoms xs h) (over_runs_lem d (runs (member xs)) p)) (over-atoms d xs p) σ

pub stands_same : {κ : ℕ → Kind} {n m : ℕ} {p q : Assignment → Bool} {f g : ℕ → Bool}
    → n ≡ m → ((σ : Assignment) → p σ ≡ q σ) → ((x : ℕ) → f x ≡ g x) → Stands κ n p f → Stands κ m q g
stands_same {κ} e t h s = record {
  least = rw (← e) s.least;
  ordered = rw (← e) s.ordered;
  truth-is = λ σ. rw (← e) (s.truth-is σ ∙ t σ);
  free-is = λ x. rw (← e) (s.free-is x ∙ h x);
}

ordered-next : (κ : ℕ → Kind) (n : ℕ) → OrderedBelow n variables κ → Fit variables n (κ n) → OrderedBelow (suc n) variables κ
ordered-next κ n o f k h =
    by_bool (eqb k n)
    (λ e. rw (eqb-true k n e) f)
    (λ e. o k (omega tests))

fit-quantifier : (d : Bool) (n a b c : ℕ) → a < n → b + c ≤ variables → Fit variables n (quantifier d a b c)
fit-quantifier true n a b c h i = (h, i)
fit-quantifier false n a b c h i = (h, i)

build-quantifier : (d : Bool) (g : ℕ → Formula) (a b c : ℕ) → build g (quantifier d a b c) ≡ quant d b c (g a)
unfolding build
build-quantifier true g a b c = refl
build-quantifier false g a b c = refl

-- a quantifier over the last frame
stands-next : {κ : ℕ → Kind} {n : ℕ} {p : Assignment → Bool} {g : ℕ → Bool} (d : Bool) (b c : ℕ)
    → κ n ≡ quantifier d (n - 1) b c → b + c ≤ variables → Stands κ n p g → Stands κ (suc n) (sweep d b c p) (minus g b c)
unfolding truth free
stands-next {κ} {n} {p} {g} d b c e h s =
    let o = ordered-next κ n s.ordered (rw e (fit-quantifier d n (n - 1) b c (omega (arith, s.least)) h)) in
    let is : formula_of κ (suc n - 1) ≡ quant d b c (formula_of κ (n - 1)) =
    ap (formula_of κ) (omega arith) ∙ formula-below variables (suc n) κ o n (omega arith)
    ∙ ap (build (formula_of κ)) e ∙ build-quantifier d (formula_of κ) (n - 1) b c in
    record {
      least = omega arith;
      ordered = o;
      truth-is = λ σ. ap (λ (f : Formula). truth f σ) is ∙ ap (λ (t : Assignment → Bool). sweep d b c t σ) (fun_ext s.truth-is);
      free-is = λ x. ap (λ (f : Formula). free f x) is ∙ ap (λ (t : Bool). t && not (within b c x)) (s.free-is x);
    }

-- the variables that are left by one set and then by the other
without-both : (t a b : Bool) → t && not a && not b ≡ t && not (a || b)
without-both true true b = refl
without-both true false b = refl
without-both false a b = refl

pub stands-runs : {κ : ℕ → Kind} {n x : ℕ} {p : Assignment → Bool} {g : ℕ → Bool} (d : Bool) {rs : List Run} → Ascending variables x rs
    → Has κ n (run_kinds d rs n) → Stands κ n p g → Stands κ (n + length rs) (over_runs d rs p) (λ k. g k && not (in_runs rs k))
unfolding run_kinds over_runs in_runs
stands-runs {g = g} d no_run h s = stands_same (omega arith) (λ σ. refl) (λ k. sym (and-true (g k))) s
stands-runs {κ = κ} {n = n} {p = p} {g = g} d (next-run r {rs} i l e a) h s =
    stands_same (omega arith) (λ σ. refl) (λ k. without-both (g k) (within r.first r.size k) (in_runs rs k))
    (stands-runs {n = suc n} d a (has_tail h) (stands-next d r.first r.size (has_head h) e s))

pub run-kinds-length : (d : Bool) (rs : List Run) (n : ℕ) → length (run_kinds d rs n) ≡ length rs
unfolding run_kinds
run-kinds-length d [] n = refl
run-kinds-length d (r ∷ rs) n = ap suc (run-kinds-length d rs (suc n))

block_kinds-length : (b : Block) (bs : List Block) (n : ℕ)
    → n + length (block_kinds bs n) + length (runs (member b.atoms)) ≡ n + length (block_kinds (b ∷ bs) n)
unfolding block_kinds
block_kinds-length b bs n =
    let at = n + length (block_kinds bs n) in
    omega (arith, length-append (block_kinds bs n) (run_kinds b.exists (runs (member b.atoms)) at), run-kinds-length b.exists (runs (member b.atoms)) at)

pub member_append : (xs ys : List ℕ) (k : ℕ) → member (xs ++ ys) k ≡ member xs k || member ys k
unfolding member
member_append [] ys k = refl
member_append (x ∷ xs) ys k = ap (λ (t : Bool). eqb k x || t) (member_append xs ys k) ∙ sym (or_assoc (eqb k x) (member xs k) (member ys k))

in_block : (b : Block) (bs : List Block) → Below variables b.atoms → (k : ℕ) → quantified bs k || in_runs (runs (member b.atoms)) k ≡ quantified (b ∷ bs) k
unfolding all_atoms
in_block b bs w k = rw (in_atoms b.atoms w k, member_append b.atoms (all_atoms bs) k) (or_comm (quantified bs k) (member b.atoms k))

-- the frames of the blocks mean the prefix
pub stands-blocks : {κ : ℕ → Kind} {n : ℕ} {p : Assignment → Bool} {g : ℕ → Bool} {bs : List Block} → BlocksBelow bs
    → Has κ n (block_kinds bs n) → Stands κ n p g → Stands κ (n + length (block_kinds bs n)) (under_blocks bs p) (λ x. g x && not (quantified bs x))
unfolding block_kinds under_blocks all_atoms member
stands-blocks {g = g} every-none h s = stands_same (omega arith) (λ σ. refl) (λ k. sym (and-true (g k))) s
stands-blocks {n = n} {p = p} {g = g} (every_one {a = b} {l = bs} w ws) h s =
    let inner = stands-blocks ws (has_left (block_kinds bs n) _ h) s in
    let rs = runs (member b.atoms) in
    let here = stands-runs b.exists (runs_ascending (member b.atoms)) (has_right (block_kinds bs n) _ h) inner in
    stands_same
    (block_kinds-length b bs n)
    (over_block b.exists b.atoms (under_blocks bs p) w)
    (λ k. without-both (g k) (quantified bs k) (in_runs rs k) ∙ ap (λ (t : Bool). g k && not t) (in_block b bs w k))
    here

pub binds-same : {κ : ℕ → Kind} {n e f : ℕ} {m l : ℕ → Bool} → e ≡ f → ((v : ℕ) → m v ≡ l v) → Binds κ n e m → Binds κ n f l
binds-same {κ} e h w = record {
  ranged = λ k i j. w.ranged k i (rw e j);
  bound = λ k v i j t. sym (h v) ∙ w.bound k v i (rw e j) t;
  once = λ j k v a b c d. w.once j k v a (rw e b) c (rw e d);
}

pub binds-none : (κ : ℕ → Kind) (n e : ℕ) → ((k : ℕ) → n ≤ k → k < e → Ranged (κ k))
    → ((k v : ℕ) → n ≤ k → k < e → binds (κ k) v ≡ false) → Binds κ n e none
binds-none κ n e r h = record {
  ranged = r;
  bound = λ k v i j t. sym (h k v i j) ∙ t;
  once = λ j k v a b c d t u. clash (binds (κ j) v) t (h j v a b);
}

no-frame : (κ : ℕ → Kind) (n : ℕ) → Binds κ n (n + 0) none
no-frame κ n = binds-none κ n (n + 0) (λ k i j. absurd (omega arith)) (λ k v i j. absurd (omega arith))

one-frame : (κ : ℕ → Kind) (n : ℕ) → Ranged (κ n) → Binds κ n (suc n) (binds (κ n))
one-frame κ n r = record {
  ranged = λ k i j. subst⁻¹ (λ (x : ℕ). Ranged (κ x)) (omega arith) r;
  bound = λ k v i j t. ap (λ (x : ℕ). binds (κ x) v) (omega arith) ∙ t;
  once = λ j k v a b c d t u. omega arith;
}

-- frames before l, and frames from l on that bind others
pub binds-join : {κ : ℕ → Kind} {n l e : ℕ} {m o : ℕ → Bool} → Binds κ n l m → Binds κ l e o
    → ((v : ℕ) → m v ≡ true → o v ≡ false) → Binds κ n e (union m o)
binds-join {κ} {n} {l} {e} {m} {o} u w h = record {
  ranged = λ k i j. by_bool (ltb k l) (λ s. u.ranged k i (omega tests)) (λ s. w.ranged k (omega tests) j);
  bound = λ k v i j t.
      by_bool (ltb k l)
      (λ s. or_left (m v) (o v) (u.bound k v i (omega tests) t))
      (λ s. or_right (m v) (o v) (w.bound k v (omega tests) j t));
  once = λ j k v a b c d t s.
      by_bool (ltb j l)
      (λ x. by_bool (ltb k l)
      (λ y. u.once j k v a (omega tests) c (omega tests) t s)
      (λ y. clash (o v) (w.bound k v (omega tests) d s) (h v (u.bound j v a (omega tests) t))))
      (λ x. by_bool (ltb k l)
      (λ y. clash (o v) (w.bound j v (omega tests) b t) (h v (u.bound k v c (omega tests) s)))
      (λ y. w.once j k v (omega tests) b (omega tests) d t s));
}

quantifier_ranged : (d : Bool) (a b c : ℕ) → 1 ≤ c → Ranged (quantifier d a b c)
quantifier_ranged true a b c h = h
quantifier_ranged false a b c h = h

quantifier-binds : (d : Bool) (a b c v : ℕ) → binds (quantifier d a b c) v ≡ within b c v
unfolding binds
quantifier-binds true a b c v = refl
quantifier-binds false a b c v = refl

pub binds-runs : {κ : ℕ → Kind} {n x : ℕ} (d : Bool) {rs : List Run} → Ascending variables x rs
    → Has κ n (run_kinds d rs n) → Binds κ n (n + length rs) (in_runs rs)
unfolding run_kinds in_runs
binds-runs {κ} {n} d no_run h = no-frame κ n
binds-runs {κ} {n} d (next-run r {rs} i l e a) h =
    let is : (v : ℕ) → binds (κ n) v ≡ within r.first r.size v =
    λ v. ap (λ (q : Kind). binds q v) (has_head h) ∙ quantifier-binds d (n - 1) r.first r.size v in
    let here = one-frame κ n (rw (has_head h) (quantifier_ranged d (n - 1) r.first r.size l)) in
    binds-same (omega arith) (λ v. refl) (binds-join (binds-same refl is here) (binds-runs {n = suc n} d a (has_tail h)) (λ v t. ascending_apart r a v t))

-- ---- atoms that are quantified once

distinct_rest : (xs ys : List ℕ) → Distinct (xs ++ ys) → Distinct ys
distinct_rest [] ys w = w
distinct_rest (x ∷ xs) ys (distinct_one h w) = distinct_rest xs ys w

distinct_apart : (xs ys : List ℕ) → Distinct (xs ++ ys) → (k : ℕ) → member xs k ≡ true → member ys k ≡ false
unfolding member
distinct_apart [] ys w k e = clash false e refl
distinct_apart (x ∷ xs) ys (distinct_one h w) k e =
    or_cases (eqb k x) (member xs k) e
    (λ t. ap (member ys) (eqb-true k x t) ∙ (or-false (member xs x) (member ys x) (sym (member_append xs ys x) ∙ h)).1)
    (λ t. distinct_apart xs ys w k t)

pub binds-blocks : {κ : ℕ → Kind} {n : ℕ} {bs : List Block} → BlocksBelow bs → Distinct (all_atoms bs)
    → Has κ n (block_kinds bs n) → Binds κ n (n + length (block_kinds bs n)) (quantified bs)
unfolding block_kinds all_atoms member
binds-blocks {κ} {n} every-none o h = no-frame κ n
binds-blocks {κ} {n} (every_one {a = b} {l = bs} w ws) o h =
    let inner = binds-blocks ws (distinct_rest b.atoms (all_atoms bs) o) (has_left (block_kinds bs n) _ h) in
    let here = binds-runs b.exists (runs_ascending (member b.atoms)) (has_right (block_kinds bs n) _ h) in
    binds-same (block_kinds-length b bs n) (in_block b bs w)
    (binds-join inner here
    (λ v t. by_bool (member b.atoms v)
    (λ u. clash (quantified bs v) t (distinct_apart b.atoms (all_atoms bs) o v u))
    (λ u. in_atoms b.atoms w v ∙ u)))
