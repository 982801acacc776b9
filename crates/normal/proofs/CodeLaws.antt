-- Steps of the code, from what it tests and calls to what it says: a frame sought behind those that it names, and a frame placed. Assumes nothing.
use Rattle.std.specs.Prelude.{ℕ, ◌+◌, ◌-◌, ◌≤◌, ◌<◌, ◌≡◌, ◌≢◌, List, length, get_or, set, take, ltb}
use Rattle.std.proofs.Common.{arith, sym, ap, ◌∙◌, subst, length-take-le, lt-ltb, le-ltb}
use Rattle.std.specs.List.{AllWithin, HoldsAt, between}
use Rattle.std.proofs.lemmas.List.Edits.{get_or-between, length-between}
use Rattle.std.proofs.lemmas.List.{get_or-take}
use Rattle.words.specs.Logic.{tests}
use Rattle.words.proofs.Logic.{by_bool}
use Rattle.sheet.specs.declared.Kind.{Kind}
use Rattle.sheet.specs.declared.Kind.TheVariants.{Never}
use Rattle.normal.specs.Lists.{kind_at}
use Rattle.normal.specs.Visit.{Found, first_place, Behind, Puts}

-- ---- a frame sought among frames: none of the first i is d

pub seek_start : (ks : List Kind) (d : Kind) → Found ks 0 d 0
seek_start ks d = record { within = omega arith; hit = λ h. absurd (omega arith); miss = λ j h. absurd (omega arith) }

pub seek_next : {ks : List Kind} {d : Kind} {i : ℕ} → Found ks i d i → (kind_at ks i ≡ d → ⊥) → Found ks (i + 1) d (i + 1)
seek_next {ks} {d} {i} F m = record {
  within = omega arith;
  hit = λ h. absurd (omega arith);
  miss = λ j h e. by_bool (ltb j i) (λ t. F.miss j (omega (tests, t)) e)
      (λ t. let q : j ≡ i = omega (tests, t, h) in m (sym (ap (λ (k : ℕ). kind_at ks k) q) ∙ e));
}

pub seek_here : {ks : List Kind} {n : ℕ} {d : Kind} {i : ℕ} → Found ks i d i → i < n → kind_at ks i ≡ d → Found ks n d i
seek_here F h e = record { within = omega arith; hit = λ g. e; miss = F.miss }

pub seek-end : {ks : List Kind} {n : ℕ} {d : Kind} {i : ℕ} → Found ks i d i → i ≤ n → n ≤ i → Found ks n d n
seek-end {ks} {n} {d} {i} F h g = subst (λ (k : ℕ). Found ks k d k) (omega (arith, h, g)) F

-- ---- behind the frames that it names, and placed

module _ (ks : List Kind) (n first : ℕ) (H : first ≤ n) (R : n ≤ length ks) where
  -- those of the n frames that are behind the first places
  abbrev later : List Kind
  later = between first (length (take n ks)) (take n ks)

  counted : length (take n ks) ≡ n
  counted = length-take-le n ks R

  later-length : length later ≡ n - first
  later-length = rw (length-between (take n ks) first (length (take n ks)) (omega arith), counted)

  later-at : (k : ℕ) → first + k < n → get_or later k Never ≡ kind_at ks (first + k)
  later-at k h =
      get_or-between (take n ks) first (length (take n ks)) k Never (omega (arith, h, counted))
      ∙ get_or-take n ks (first + k) Never h

  module _ {d : Kind} (B : Behind ks n) (F : first ≡ first_place d) where
    -- none of the first frames names so many, and none of the next m is d
    missed : (m : ℕ) → first + m ≤ n → AllWithin (λ k. k ≢ d) later 0 m → (j : ℕ) → j < first + m → kind_at ks j ≡ d → ⊥
    missed m h w j l e = by_bool (ltb j first)
        (λ t. let b = B.behind j (omega (tests, H)) in let q = ap first_place e in omega (tests, b, q, F))
        (λ t. let s : first + (j - first) ≡ j = omega tests in
        w (j - first) Never (omega arith) (omega tests) (later-at (j - first) (omega (tests, h)) ∙ ap (kind_at ks) s ∙ e))

    pub puts_old : {i : ℕ} → i < length later → HoldsAt (λ k. k ≡ d) later i → AllWithin (λ k. k ≢ d) later 0 i → Puts ks n d ks (first + i) n
    puts_old {i} h e w =
        let l : first + i < n = omega (arith, h, later-length, H) in
        record {
          found = record {
            within = omega arith;
            hit = λ g. sym (later-at i l) ∙ e Never;
            miss = missed i (omega arith) w;
          };
          kinds = rw (lt-ltb (first + i) n l);
          counted = rw (lt-ltb (first + i) n l);
        }

    pub puts_new : AllWithin (λ k. k ≢ d) later 0 (length later) → Puts ks n d (set ks n d) n (n + 1)
    puts_new w =
        let s : first + length later ≡ n = omega (arith, later-length, H) in
        record {
          found = record {
            within = omega arith;
            hit = λ g. absurd (omega arith);
            miss = λ j h e. missed (length later) (omega (arith, s)) w j (omega (arith, h, s)) e;
          };
          kinds = rw (le-ltb n n (omega arith));
          counted = rw (le-ltb n n (omega arith));
        }
