-- The runs of a predicate: they ascend, do not overlap, and have exactly its variables below 32. Assumes nothing.
use Rattle.std.specs.Prelude.{ℕ, zero, suc, ◌+◌, ◌-◌, ◌≤◌, ◌<◌, ◌≡◌, refl, Bool, true, false, ◌&&◌, ◌||◌, List, [], ◌++◌, eqb, leb, ltb}
use Rattle.std.proofs.Common.{le_trans, zero-add, arith, sym, ◌∙◌, ap, append-nil, leb-true, ltb-true, eqb-true, le-leb, lt-ltb}
use Rattle.std.proofs.Math.Nat.{suc-sub-suc}
use Rattle.std.proofs.Math.Bool.{and-false}
use Rattle.words.specs.Logic.{tests}
use Rattle.words.proofs.Logic.{by_bool, clash, same_test, and_both, or_cases, or_left, or_right}
use Rattle.formula.specs.Assignment.{within}
use Rattle.formula.proofs.Assignment.{within-zero, within-suc}
use Rattle.prenex.specs.Kinds.{variables, Run, ended, runs_from, runs}
use Rattle.prenex.specs.RunLaws.{Ascending, Spaced, in_runs, next-run, next_spaced, no_run, none_spaced}

-- ---- ranges by their ends

pub within_intro : (b c k : ℕ) → b ≤ k → k < b + c → within b c k ≡ true
unfolding within
within_intro b c k h i = rw (le-leb b k h, lt-ltb k (b + c) i)

pub within_bounds : (b c k : ℕ) → within b c k ≡ true → (b ≤ k) × (k < b + c)
unfolding within
within_bounds b c k e =
    let h = and_both (leb b k) (ltb k (b + c)) e in
    (leb-true b k h.0, ltb-true k (b + c) h.1)

pub within_first : (n k : ℕ) → within 0 n k ≡ ltb k n
unfolding within
within_first n k = rw (le-leb 0 k (omega arith), zero-add)

pub ascending_from : {e x : ℕ} {rs : List Run} (y : ℕ) → y ≤ x → Ascending e x rs → Ascending e y rs
ascending_from y h no_run = no_run
ascending_from y h (next-run r i s l a) = next-run r (le_trans h i) s l a

-- a run that has ended before x, and runs from x on
ended_ascending : (e x c : ℕ) (rs : List Run) → c ≤ x → x ≤ e → Ascending e x rs → Ascending e (x - c) (ended x c ++ rs)
ended_ascending e x c rs h i a =
    by_bool (eqb c 0)
    (λ z. rw z (ascending_from (x - c) (omega arith) a))
    (λ z. rw z (next-run {x = x - c} (record { first = x - c; size = c }) (omega arith) (omega tests) (omega arith) (ascending_from (x - c + c) (omega arith) a)))

pub runs-from_ascending : (p : ℕ → Bool) (e x c n : ℕ) → c ≤ x → x + n ≡ e → Ascending e (x - c) (runs_from p x c n)
unfolding runs_from
runs-from_ascending p e x c zero h i = rw (← append-nil (ended x c)) (ended_ascending e x c [] h (omega arith) no_run)
runs-from_ascending p e x c (suc n) h i =
    by_bool (p x)
    (λ t. rw t (ascending_from (x - c) (omega arith) (runs-from_ascending p e (suc x) (suc c) n (omega arith) (omega arith))))
    (λ t. rw t (ended_ascending e x c _ h (omega arith) (ascending_from x (omega arith) (runs-from_ascending p e (suc x) 0 n (omega arith) (omega arith)))))

pub runs_ascending : (p : ℕ → Bool) → Ascending variables 0 (runs p)
unfolding runs
runs_ascending p = runs-from_ascending p variables 0 0 variables (omega arith) refl

in_ended : (x c : ℕ) (rs : List Run) (k : ℕ) → in_runs (ended x c ++ rs) k ≡ within (x - c) c k || in_runs rs k
unfolding in_runs
in_ended x c rs k =
    by_bool (eqb c 0)
    (λ z. rw (eqb-true c 0 z, within-zero))
    (λ z. rw z)

-- a variable more at a range's end
within_end : (b c x k : ℕ) → b + c ≡ x → within b (suc c) k ≡ within b c k || eqb k x
within_end b c x k h =
    same_test (within b (suc c) k) (within b c k || eqb k x)
    (λ e. let w = within_bounds b (suc c) k e in by_bool (eqb k x)
    (λ t. or_right (within b c k) (eqb k x) t)
    (λ t. or_left (within b c k) (eqb k x) (within_intro b c k w.0 (omega (tests, w.1)))))
    (λ e. or_cases (within b c k) (eqb k x) e
    (λ t. let w = within_bounds b c k t in within_intro b (suc c) k w.0 (omega (arith, w.1)))
    (λ t. within_intro b (suc c) k (omega tests) (omega tests)))

-- a variable with p, and one without
with_one : (a e w t : Bool) → (e ≡ true → t ≡ true) → (a || e) || (w && t) ≡ a || ((e || w) && t)
with_one true e w t h = refl
with_one false true w t h = sym (h refl)
with_one false false w t h = refl

without-one : (e w t : Bool) → (e ≡ true → t ≡ false) → w && t ≡ (e || w) && t
without-one true w t h = rw (h refl) (and-false w)
without-one false w t h = refl

-- the c variables before x, and those with p among the n from x on
pub in_runs-from : (p : ℕ → Bool) (x c n k : ℕ) → c ≤ x → in_runs (runs_from p x c n) k ≡ within (x - c) c k || (within x n k && p k)
unfolding runs_from in_runs
in_runs-from p x c zero k h = ap (λ (rs : List Run). in_runs rs k) (sym (append-nil (ended x c))) ∙ in_ended x c [] k ∙ rw within-zero
in_runs-from p x c (suc n) k h =
    by_bool (p x)
    (λ t. rw (t, in_runs-from p (suc x) (suc c) n k (omega arith), suc-sub-suc, within_end (x - c) c x k (omega arith), within-suc x n k)
    (with_one (within (x - c) c k) (eqb k x) (within (suc x) n k) (p k) (λ e. ap p (eqb-true k x e) ∙ t)))
    (λ t. rw (t, in_ended, in_runs-from p (suc x) 0 n k (omega arith), within-zero, within-suc x n k)
    (ap (λ (a : Bool). within (x - c) c k || a) (without-one (eqb k x) (within (suc x) n k) (p k) (λ e. ap p (eqb-true k x e) ∙ t))))

-- exactly the variables below 32 with p
pub in-runs : (p : ℕ → Bool) (k : ℕ) → in_runs (runs p) k ≡ ltb k variables && p k
unfolding runs
in-runs p k = in_runs-from p 0 0 variables k (omega arith) ∙ rw (within-zero, within_first)

-- no variable of ascending runs lies before their start
pub ascending_start : {e x : ℕ} {rs : List Run} → Ascending e x rs → (k : ℕ) → in_runs rs k ≡ true → x ≤ k
unfolding in_runs
ascending_start no_run k t = clash false t refl
ascending_start (next-run r {rs} i s l a) k t =
    or_cases (within r.first r.size k) (in_runs rs k) t
    (λ w. le_trans i (within_bounds r.first r.size k w).0)
    (λ w. omega (arith, i, ascending_start a k w))

-- so the first of them has none of the others
pub ascending_apart : {e : ℕ} (r : Run) {rs : List Run} → Ascending e (r.first + r.size) rs
    → (k : ℕ) → within r.first r.size k ≡ true → in_runs rs k ≡ false
ascending_apart r {rs} a k w =
    by_bool (in_runs rs k)
    (λ t. absurd (omega (arith, (within_bounds r.first r.size k w).1, ascending_start a k t)))
    (λ t. t)

spaced_from : {x : ℕ} {rs : List Run} (y : ℕ) → y ≤ x → Spaced x rs → Spaced y rs
spaced_from y h none_spaced = none_spaced
spaced_from y h (next_spaced r i s) = next_spaced r (le_trans h i) s

ended_spaced : (x c : ℕ) {rs : List Run} → c ≤ x → Spaced (suc x) rs → Spaced (x - c) (ended x c ++ rs)
ended_spaced x c h s =
    let start : x - c ≤ x - c = omega arith in
    let next : suc (x - c + c) ≤ suc x = omega arith in
    by_bool (eqb c 0)
    (λ e. rw e (spaced_from (x - c) (omega arith) s))
    (λ e. rw e (next_spaced (record { first = x - c; size = c }) start (spaced_from (suc (x - c + c)) next s)))

runs-from_spaced : (p : ℕ → Bool) (x c n : ℕ) → c ≤ x → Spaced (x - c) (runs_from p x c n)
unfolding runs_from
runs-from_spaced p x c zero h = rw (← append-nil (ended x c)) (ended_spaced x c h none_spaced)
runs-from_spaced p x c (suc n) h =
    by_bool (p x)
    (λ e. rw e (spaced_from (x - c) (omega arith) (runs-from_spaced p (suc x) (suc c) n (omega arith))))
    (λ e. rw e (ended_spaced x c h (spaced_from (suc x) (omega arith) (runs-from_spaced p (suc x) zero n (omega arith)))))

pub runs_spaced : (p : ℕ → Bool) → Spaced 0 (runs p)
unfolding runs
runs_spaced p = runs-from_spaced p zero zero variables (omega arith)
