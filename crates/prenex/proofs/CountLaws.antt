-- How many numbers of a range have a property, and the list of them. Assumes nothing.
use Rattle.std.specs.Prelude.{ℕ, zero, suc, ◌+◌, ◌-◌, ◌≤◌, ◌<◌, ◌≡◌, refl, Bool, true, false, eqb, length}
use Rattle.std.proofs.Common.{zero-add, add-zero, suc-add, arith, ap, ◌∙◌, eq-eqb}
use Rattle.words.specs.Logic.{tests}
use Rattle.words.proofs.Logic.{by_bool}
use Rattle.prenex.specs.Kinds.{having, count}

pub having-length : (p : ℕ → Bool) (a n : ℕ) → length (having p a n) ≡ count p a n
unfolding having count
having-length p a zero = refl
having-length p a (suc n) =
    by_bool (p a)
    (λ e. rw e (ap suc (having-length p (suc a) n)))
    (λ e. rw e (having-length p (suc a) n))

pub count_add : (p : ℕ → Bool) (a n m : ℕ) → count p a (n + m) ≡ count p a n + count p (a + n) m
unfolding count
count_add p a zero m = rw (zero-add m, add-zero a) (omega arith)
count_add p a (suc n) m =
    let step : count p (suc a) (n + m) ≡ count p (suc a) n + count p (a + suc n) m =
    count_add p (suc a) n m ∙ ap (λ (k : ℕ). count p (suc a) n + count p k m) (omega arith) in
    rw (suc-add n m) (by_bool (p a) (λ e. rw e (omega (arith, step))) (λ e. rw e step))

-- x with p counts, between those before it and those behind
pub count_at : (p : ℕ → Bool) (x r : ℕ) → p x ≡ true → count p 0 (x + suc r) ≡ suc (count p 0 x + count p (suc x) r)
unfolding count
count_at p x r e = count_add p 0 x (suc r) ∙ rw (zero-add x, e) (omega arith)

pub count_none : (p : ℕ → Bool) (a n : ℕ) → ((x : ℕ) → a ≤ x → x < a + n → p x ≡ false) → count p a n ≡ 0
unfolding count
count_none p a zero h = refl
count_none p a (suc n) h = rw (h a (omega arith) (omega arith)) (count_none p (suc a) n (λ x u v. h x (omega arith) (omega arith)))

behind-rest : (x n : ℕ) → x < n → n ≡ x + suc (n - suc x)
behind-rest x n h = omega arith

pub count_less : (p : ℕ → Bool) (x n : ℕ) → p x ≡ true → x < n → count p 0 x < count p 0 n
count_less p x n e h = rw (behind-rest x n h) (omega (arith, count_at p x (n - suc x) e))

-- x alone: none before it, and one in all
pub count-only : (p : ℕ → Bool) (x n : ℕ) → ((y : ℕ) → p y ≡ eqb y x) → x < n → (count p 0 x ≡ 0) × (count p 0 n ≡ 1)
count-only p x n h l =
    let none : count p 0 x ≡ 0 = count_none p 0 x (λ y u v. h y ∙ omega tests) in
    let others : count p (suc x) (n - suc x) ≡ 0 = count_none p (suc x) (n - suc x) (λ y u v. h y ∙ omega tests) in
    let all : count p 0 (x + suc (n - suc x)) ≡ 1 = count_at p x (n - suc x) (h x ∙ eq-eqb x x refl) ∙ omega (arith, none, others) in
    (none, ap (count p 0) (behind-rest x n l) ∙ all)
