-- Numbers below m that are told apart by numbers below n: m is at most n. Assumes nothing.
use Rattle.std.specs.Prelude.{ℕ, zero, suc, ◌≤◌, ◌<◌, ◌≡◌, refl, cond, eqb}
use Rattle.std.proofs.Common.{arith, sym, ◌∙◌, eq-eqb, ne_eqb}
use Rattle.words.specs.Logic.{tests}
use Rattle.words.proofs.Logic.{by_bool}
use Rattle.normal.specs.Few.{Apart}

-- without n as a value: the number that had it takes that of m
unfoldable other : ℕ → ℕ → (ℕ → ℕ) → ℕ → ℕ
other m n o j = cond (eqb (o j) n) (o m) (o j)

module _ (m n : ℕ) (o : ℕ → ℕ) (A : Apart (suc m) (suc n) o) where
  other-hit : (j : ℕ) → o j ≡ n → other m n o j ≡ o m
  unfolding other
  other-hit j e = rw (eq-eqb (o j) n e)

  other_miss : (j : ℕ) → (o j ≡ n → ⊥) → other m n o j ≡ o j
  unfolding other
  other_miss j e = rw (ne_eqb (o j) n e)

  other-apart : Apart m n (other m n o)
  other-apart = record {
    below = λ j h. by_bool (eqb (o j) n)
        (λ t. let e : o j ≡ n = omega tests in
        let d = other-hit j e in
        let b = A.below m (omega arith) in
        by_bool (eqb (o m) n)
        (λ s. let q : o m ≡ n = omega tests in let c = A.apart j m (omega arith) (omega arith) (e ∙ sym q) in absurd (omega (arith, c, h)))
        (λ s. omega (tests, d, b)))
        (λ t. let d = other_miss j (λ e. omega (tests, e)) in let b = A.below j (omega arith) in omega (tests, d, b));
    apart = λ i j h g e. by_bool (eqb (o i) n)
        (λ s. let p : o i ≡ n = omega tests in
        by_bool (eqb (o j) n)
        (λ t. let q : o j ≡ n = omega tests in A.apart i j (omega arith) (omega arith) (p ∙ sym q))
        (λ t. let c = A.apart m j (omega arith) (omega arith) (sym (other-hit i p) ∙ e ∙ other_miss j (λ q. omega (tests, q))) in absurd (omega (arith, c, g))))
        (λ s. by_bool (eqb (o j) n)
        (λ t. let q : o j ≡ n = omega tests in
        let c = A.apart i m (omega arith) (omega arith) (sym (other_miss i (λ p. omega (tests, p))) ∙ e ∙ other-hit j q) in absurd (omega (arith, c, h)))
        (λ t. A.apart i j (omega arith) (omega arith) (sym (other_miss i (λ p. omega (tests, p))) ∙ e ∙ other_miss j (λ q. omega (tests, q)))));
  }

pub apart-few : (m n : ℕ) (o : ℕ → ℕ) → Apart m n o → m ≤ n
apart-few zero n o A = omega arith
apart-few (suc m) zero o A = let h = A.below m (omega arith) in absurd (omega (arith, h))
apart-few (suc m) (suc n) o A = let h = apart-few m n (other m n o) (other-apart m n o A) in omega (arith, h)

-- a number for each of those below m, as a function
pub chosen : (P : ℕ → ℕ → Type 0) (m : ℕ) → ((j : ℕ) → j < m → (k : ℕ) × P j k) → (o : ℕ → ℕ) × ((j : ℕ) → j < m → P j (o j))
chosen P zero h = (λ j. 0, λ j l. absurd (omega arith))
chosen P (suc m) h =
    let r = chosen P m (λ j l. h j (omega arith)) in
    let q = h m (omega arith) in (
      λ j. cond (eqb j m) q.0 (r.0 j),
      λ j l. by_bool (eqb j m)
          (λ t. let e : j ≡ m = omega tests in rw (e, eq-eqb m m refl) q.1)
          (λ t. rw t (r.1 j (omega tests))),
    )
