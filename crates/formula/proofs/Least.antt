-- The least number of a range that passes a test. Assumes nothing.
use Rattle.std.specs.Prelude.{ℕ, zero, suc, ◌+◌, ◌≤◌, ◌<◌, ◌≡◌, Bool, true, false, eqb, ltb}
use Rattle.std.proofs.Common.{arith, eqb-true}
use Rattle.words.specs.Logic.{tests}
use Rattle.words.proofs.Logic.{by_bool, clash}
use Rattle.formula.specs.Least.{least}

pub least-low : (p : ℕ → Bool) (b c : ℕ) → b ≤ least p b c
unfolding least
least-low p b zero = omega arith
least-low p b (suc c) = by_bool (p b) (λ e. rw e (omega arith)) (λ e. rw e (omega (arith, least-low p (suc b) c)))

pub least-high : (p : ℕ → Bool) (b c : ℕ) → least p b c ≤ b + c
unfolding least
least-high p b zero = omega arith
least-high p b (suc c) = by_bool (p b) (λ e. rw e (omega arith)) (λ e. rw e (omega (arith, least-high p (suc b) c)))

pub least-hit : (p : ℕ → Bool) (b c : ℕ) → least p b c < b + c → p (least p b c) ≡ true
unfolding least
least-hit p b zero h = absurd (omega arith)
least-hit p b (suc c) h = by_bool (p b) (λ e. rw e e) (λ e. rw e (least-hit p (suc b) c (omega (arith, rw e at h))))

pub least_miss : (p : ℕ → Bool) (b c k : ℕ) → b ≤ k → k < least p b c → p k ≡ false
unfolding least
least_miss p b zero k l h = absurd (omega arith)
least_miss p b (suc c) k l h =
    by_bool (p b)
    (λ e. absurd (omega (arith, rw e at h)))
    (λ e. by_bool (eqb k b) (λ q. rw (eqb-true k b q) e) (λ q. least_miss p (suc b) c k (omega tests) (rw e at h)))

-- the laws settle it: a number that passes, with none before it, is the first
pub least-is : (p : ℕ → Bool) (b c m : ℕ) → b ≤ m → m < b + c → p m ≡ true → ((k : ℕ) → b ≤ k → k < m → p k ≡ false) → least p b c ≡ m
least-is p b c m l h e f =
    by_bool (ltb (least p b c) m)
    (λ i. clash (p (least p b c)) (least-hit p b c (omega tests)) (f (least p b c) (least-low p b c) (omega tests)))
    (λ i. by_bool (ltb m (least p b c)) (λ j. clash (p m) e (least_miss p b c m l (omega tests))) (λ j. omega tests))

pub least-none : (p : ℕ → Bool) (b c : ℕ) → ((k : ℕ) → b ≤ k → k < b + c → p k ≡ false) → least p b c ≡ b + c
least-none p b c f =
    by_bool (ltb (least p b c) (b + c))
    (λ i. clash (p (least p b c)) (least-hit p b c (omega tests)) (f (least p b c) (least-low p b c) (omega tests)))
    (λ i. omega (tests, least-high p b c))
