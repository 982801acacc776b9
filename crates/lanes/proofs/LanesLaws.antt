-- The lanes of each kind of formula, from those of its parts; and what a word of hits says. Assumes nothing.
use Prim.Native.Nat.{ℕ, zero, suc, ◌-◌, ◌<◌, ◌^◌}
use Rattle.std.proofs.Common.{arith, ◌∙◌}
use Rattle.std.specs.Prelude.{◌≡◌, refl, cond, ◌||◌, eqb, ltb}
use Rattle.std.proofs.Math.Path.{sym, ap}
use Rattle.std.proofs.Math.Bool.{Bool, true, false, not, and-false}
use Rattle.std.specs.Int.Bits.{bit_and, bit_or}
use borrow.Author.Tests.{eqb-true, eq-eqb, lt-ltb}
use Rattle.words.specs.Logic.{tests}
use Rattle.words.proofs.Logic.{by_bool, clash, or_cases, or_left, or_right, not-not}
use Rattle.words.specs.Word.{bit}
use Rattle.words.proofs.Bits.{bit-and, bit-or, bit-none, bit-pow, bit-ones, bit_complement, ext_below}
use Rattle.words.specs.Mask.{put, placed}
use Rattle.words.proofs.Mask.{bit-put, placed_at, placed-other, placed-lt}
use Rattle.formula.specs.Assignment.{Assignment, On, join}
use Rattle.formula.proofs.Assignment.{join-left, join-right, differ}
use Rattle.formula.specs.Formula.{Formula, input, neg, gate, truth, free}
use Rattle.formula.proofs.Formula.{coincide}
use Rattle.formula.specs.Reason.{Explains}
use Rattle.lanes.specs.Pattern.{low, Half}
use Rattle.lanes.proofs.PatternLaws.{bit-low}
use Rattle.lanes.specs.Lanes.{Positions, Distinct, At, lane_assignment, Says, ones, Flipped, Joint, Hit, drop}
use Rattle.lanes.specs.LanesLaws.{lane_of}

pub bit-all : (l : ℕ) → l < 64 → bit ones l ≡ true
bit-all l h = bit-ones 64 l ∙ lt-ltb l 64 h

pub flipped : {t : ℕ} → t < 2 ^ 64 → Flipped t (18446744073709551615 - t)
flipped h = record { bits = λ l i. bit_complement 64 l h i }

pub lane-lt : (n : ℕ) (π : Positions) (σ : Assignment) → lane_of n π σ < 64
unfolding lane_of
lane-lt zero π σ = omega arith
lane-lt (suc n) π σ = placed-lt 6 (lane_of n π σ) (π n) (σ n) (lane-lt n π σ)

apart-places : {π : Positions} → Distinct π → (x y : ℕ) → π x < 6 → eqb x y ≡ false → eqb (π x) (π y) ≡ false
apart-places {π} D x y h e = by_bool (eqb (π x) (π y)) (λ q. absurd (omega (tests, D.same x y h (eqb-true (π x) (π y) q)))) (λ q. q)

lane-bit : {π : Positions} → Distinct π → (n : ℕ) (σ : Assignment) (x : ℕ) → x < n → π x < 6 → bit (lane_of n π σ) (π x) ≡ σ x
unfolding lane_of
lane-bit D zero σ x h i = absurd (omega arith)
lane-bit {π} D (suc n) σ x h i =
    by_bool (eqb x n)
    (λ e. rw (eqb-true x n e) (placed_at 6 (lane_of n π σ) (π n) (σ n) (rw (eqb-true x n e) at i)))
    (λ e. placed-other 6 (lane_of n π σ) (π n) (σ n) (π x) (apart-places D x n i e) ∙ lane-bit D n σ x (omega tests) i)

-- each setting has a lane
pub lane-at : {π : Positions} → Distinct π → (σ : Assignment) → At π (lane_of 64 π σ) σ
lane-at {π} D σ = record { here = λ x i. sym (lane-bit D 64 σ x (by_bool (ltb x 64) (λ e. omega tests) (λ e. absurd (omega (arith, i, D.past x (omega tests))))) i) }

-- and each lane a setting
pub at-lane : (π : Positions) (w l : ℕ) → At π l (lane_assignment π w l)
unfolding lane_assignment
at-lane π w l = record { here = λ x i. rw (lt-ltb (π x) 6 i) }

on_lane : {π : Positions} (w r : ℕ) → ((x : ℕ) → π x < 6 → bit r x ≡ false) → (l : ℕ) → On (bit r) (lane_assignment π w l) (bit w)
unfolding lane_assignment
on_lane {π} w r c l k e = by_bool (ltb (π k) 6) (λ q. clash (bit r k) e (c k (omega tests))) (λ q. rw q)

-- ---- a lane with one variable set

pub put_small : (l p : ℕ) (v : Bool) → l < 64 → p < 6 → put l p v < 64
unfolding placed
put_small l p v h i = rw (lt-ltb p 6 i) at (placed-lt 6 l p v h)

-- ---- each kind of formula

-- a join has v where its sides have it as those of another join that has v
pub join_says : (d v a b a' b' : Bool) → join d a b ≡ v → (a ≡ v → a' ≡ v) → (b ≡ v → b' ≡ v) → join d a' b' ≡ v
unfolding join
join_says true v true b a' b' e f g = join-left-at v a' b' (f e) e
  where
    join-left-at : (v a' b' : Bool) → a' ≡ v → true ≡ v → (a' || b') ≡ v
    join-left-at v a' b' h i = rw (h, sym i)
join_says true v false true a' b' e f g = let h : b' ≡ true = g e ∙ sym e in or_right a' b' h ∙ e
join_says true v false false a' b' e f g = let h : a' ≡ false = f e ∙ sym e in rw h (g e)
join_says false v false b a' b' e f g = let h : a' ≡ false = f e ∙ sym e in rw h e
join_says false v true true a' b' e f g = let h : a' ≡ true = f e ∙ sym e in rw h (g e)
join_says false v true false a' b' e f g = let h : b' ≡ false = g e ∙ sym e in rw h (and-false a' ∙ e)

-- no lane has v
pub says_nothing : {f : Formula} {π : Positions} {w t : ℕ} (v : Bool) → ((l : ℕ) → l < 64 → bit t l ≡ not v) → Says f v π w 0 t
says_nothing {t = t} v c = record { inside = λ k h. clash (bit 0 k) h (bit-none k); holds = λ σ h l i A e. differ v (bit t l) e (c l i) }

module _ {f : Formula} {π : Positions} {w r t : ℕ} where
  -- a value that is known
  pub says_known : (v : Bool) → Explains f v (bit r) (bit w) → Says f v π w r t
  says_known v E = record { inside = E.inside; holds = λ σ h l i A e. E.forces σ h }

  pub says_neg : {u : ℕ} {v : Bool} → Says f v π w r t → Flipped t u → Says (neg f) (not v) π w r u
  unfolding truth free
  says_neg {v = v} L F = record { inside = L.inside; holds = λ σ h l i A e. ap not (L.holds σ h l i A (sym (not-not (bit t l)) ∙ ap not (sym (F.bits l i) ∙ e) ∙ not-not v)) }

pub says_lane_input : {π : Positions} (w : ℕ) (v : Bool) {x p t u : ℕ} → π x ≡ p → p < 6 → t ≡ low p → Flipped t u → Says (input x) v π w 0 u
unfolding truth
says_lane_input w v {x = x} {p = p} e i q F = record {
  inside = λ k h. clash (bit 0 k) h (bit-none k);
  holds = λ σ h l j A z. A.here x (rw e i) ∙ ap (bit l) e ∙ sym (F.bits l j ∙ ap (λ (y : ℕ). not (bit y l)) q ∙ ap not (bit-low p l i j) ∙ not-not (bit l p)) ∙ z;
}

pub joint_and : (t u : ℕ) → Joint false t u (bit_and t u)
unfolding join
joint_and t u = record { bits = bit-and t u }

pub joint_or : (t u : ℕ) → Joint true t u (bit_or t u)
unfolding join
joint_or t u = record { bits = bit-or t u }

-- one side that decides wherever the gate is decided, or both sides
module _ {d : Bool} {f g : Formula} {π : Positions} {w r t : ℕ} where
  pub says_left : Says f d π w r t → Says (gate d f g) d π w r t
  unfolding truth free
  says_left L = record {
    inside = λ k e. or_left (free f k) (free g k) (L.inside k e);
    holds = λ σ h l i A e. join-left d (truth f σ) (truth g σ) (L.holds σ h l i A e);
  }

  pub says_right : Says g d π w r t → Says (gate d f g) d π w r t
  unfolding truth free
  says_right L = record {
    inside = λ k e. or_right (free f k) (free g k) (L.inside k e);
    holds = λ σ h l i A e. join-right d (truth f σ) (truth g σ) (L.holds σ h l i A e);
  }

  pub says_both : {v : Bool} {q u z : ℕ} → Says f v π w r t → Says g v π w q u → Joint d t u z → Says (gate d f g) v π w (bit_or r q) z
  unfolding truth free
  says_both {v} {q} {u} L M J = record {
    inside = λ k e. or_cases (bit r k) (bit q k) (sym (bit-or r q k) ∙ e)
        (λ h. or_left (free f k) (free g k) (L.inside k h))
        (λ h. or_right (free f k) (free g k) (M.inside k h));
    holds = λ σ h l i A e. join_says d v (bit t l) (bit u l) (truth f σ) (truth g σ) (sym (J.bits l) ∙ e)
        (L.holds σ (λ k z. h k (bit-or r q k ∙ or_left (bit r k) (bit q k) z)) l i A)
        (M.holds σ (λ k z. h k (bit-or r q k ∙ or_right (bit r k) (bit q k) z)) l i A);
  }

-- ---- hits

pub drop-other : (π : Positions) (x k : ℕ) → eqb k x ≡ false → drop π x k ≡ π k
unfolding drop
drop-other π x k e = rw e

pub drop-same : (π : Positions) (x : ℕ) → drop π x x ≡ 6
unfolding drop
drop-same π x = rw (eq-eqb x x refl)

cond_inj : (v p q : Bool) → cond p v (not v) ≡ cond q v (not v) → p ≡ q
cond_inj v true true e = refl
cond_inj true true false e = clash true refl e
cond_inj false true false e = clash true refl (sym e)
cond_inj true false true e = clash true refl (sym e)
cond_inj false false true e = clash true refl e
cond_inj v false false e = refl

module _ {f : Formula} {π : Positions} {w r q t : ℕ} (D : Distinct π) (T : Says f true π w r t) (F : Says f false π w q t)
    (c : (x : ℕ) → π x < 6 → bit r x ≡ false) (d : (x : ℕ) → π x < 6 → bit q x ≡ false) where
  pub hit-true : Hit f true π w r q t
  hit-true = record { distinct = D; clear = c; clear-not = d; inside = T.inside; inside-not = F.inside; hits = T.holds; misses = F.holds }

  pub hit-false : {u : ℕ} → Flipped t u → Hit f false π w q r u
  hit-false {u} G = record {
    distinct = D;
    clear = d;
    clear-not = c;
    inside = F.inside;
    inside-not = T.inside;
    hits = λ σ h l i A e. F.holds σ h l i A (sym (not-not (bit t l)) ∙ ap not (sym (G.bits l i) ∙ e));
    misses = λ σ h l i A e. T.holds σ h l i A (sym (not-not (bit t l)) ∙ ap not (sym (G.bits l i) ∙ e));
  }

module _ {f : Formula} {v : Bool} {π : Positions} {w r q h : ℕ} (H : Hit f v π w r q h) where
  -- no lane, or every lane, is hit
  pub hit-none : h ≡ 0 → Explains f (not v) (bit q) (bit w)
  hit-none e = record {
    inside = H.inside-not;
    forces = λ σ o. H.misses σ o (lane_of 64 π σ) (lane-lt 64 π σ) (lane-at H.distinct σ) (rw (e, bit-none));
  }

  pub hit-all : h ≡ ones → Explains f v (bit r) (bit w)
  hit-all e = record {
    inside = H.inside;
    forces = λ σ o. H.hits σ o (lane_of 64 π σ) (lane-lt 64 π σ) (lane-at H.distinct σ) (rw (e, bit-all (lane_of 64 π σ) (lane-lt 64 π σ)));
  }

  -- the truth in a lane
  hit-lane : (l : ℕ) → l < 64 → truth f (lane_assignment π w l) ≡ cond (bit h l) v (not v)
  hit-lane l i = by_bool (bit h l)
      (λ e. H.hits (lane_assignment π w l) (on_lane w r H.clear l) l i (at-lane π w l) e ∙ rw e)
      (λ e. H.misses (lane_assignment π w l) (on_lane w q H.clear-not l) l i (at-lane π w l) e ∙ rw e)

  -- the lane variable x
  module _ {x : ℕ} (i : π x < 6) where
    drop_distinct : Distinct (drop π x)
    unfolding drop
    drop_distinct = record {
      same = λ y z j e. by_bool (eqb y x)
          (λ q. absurd (omega (arith, rw q at j)))
          (λ q. by_bool (eqb z x) (λ u. absurd (omega (arith, rw q at j, rw (q, u) at e))) (λ u. H.distinct.same y z (rw q at j) (rw (q, u) at e)));
      past = λ y j. by_bool (eqb y x) (λ q. rw q (omega arith)) (λ q. rw q (H.distinct.past y j));
    }

    -- σ, which is in lane l but for x, is in lane l with x's value
    at_drop : (l : ℕ) (σ : Assignment) (b : Bool) → σ x ≡ b → At (drop π x) l σ → At π (put l (π x) b) σ
    unfolding drop
    at_drop l σ b e A = record {
      here = λ y j. by_bool (eqb y x)
          (λ q. rw (eqb-true y x q, bit-put, eq-eqb (π x) (π x) refl) e)
          (λ q. let d = drop-other π x y q in A.here y (rw d j) ∙ ap (bit l) d ∙ sym (bit-put l (π x) b (π y) ∙ rw (apart-places H.distinct y x j q)));
    }

    drop-clear : (z : ℕ) → ((y : ℕ) → π y < 6 → bit z y ≡ false) → (y : ℕ) → drop π x y < 6 → bit z y ≡ false
    drop-clear z c y j = by_bool (eqb y x)
        (λ q. absurd (omega (arith, j, ap (drop π x) (eqb-true y x q), drop-same π x)))
        (λ q. c y (rw (drop-other π x y q) at j))

    -- both halves are the same: x does not matter
    pub hit_same : {lo hi : ℕ} → Half h (π x) false lo → Half h (π x) true hi → lo ≡ hi → Hit f v (drop π x) w r q lo
    hit_same {lo} {hi} F G e = record {
      distinct = drop_distinct;
      clear = drop-clear r H.clear;
      clear-not = drop-clear q H.clear-not;
      inside = H.inside;
      inside-not = H.inside-not;
      hits = λ σ o l j A z. H.hits σ o (put l (π x) (σ x)) (put_small l (π x) (σ x) j i) (at_drop l σ (σ x) refl A) (either (σ x) l j ∙ z);
      misses = λ σ o l j A z. H.misses σ o (put l (π x) (σ x)) (put_small l (π x) (σ x) j i) (at_drop l σ (σ x) refl A) (either (σ x) l j ∙ z);
    }
      where
        either : (b : Bool) (l : ℕ) → l < 64 → bit h (put l (π x) b) ≡ bit lo l
        either true l j = sym (G.bits l j) ∙ sym (ap (λ (y : ℕ). bit y l) e)
        either false l j = sym (F.bits l j)

    -- they differ: x is free
    pub hit-free : {lo hi : ℕ} → Half h (π x) false lo → Half h (π x) true hi → (lo ≡ hi → ⊥) → free f x ≡ true
    unfolding lane_assignment
    hit-free {lo} {hi} F G n = by_bool (free f x) (λ e. e) (λ e. absurd (n (ext_below 64 lo hi F.small G.small (λ l j. cond_inj v (bit lo l) (bit hi l) (
        at l false j F ∙ coincide f (lane l false) (lane l true) (λ k q. by_bool (eqb k x)
        (λ u. clash (free f k) q (rw (eqb-true k x u) e))
        (λ u. by_bool (ltb (π k) 6)
        (λ z. rw z (off l k false (omega tests) u ∙ sym (off l k true (omega tests) u)))
        (λ z. rw z)))
        ∙ sym (at l true j G))))))
      where
        lane : ℕ → Bool → Assignment
        lane l b = lane_assignment π w (put l (π x) b)

        off : (l k : ℕ) (b : Bool) → π k < 6 → eqb k x ≡ false → bit (put l (π x) b) (π k) ≡ bit l (π k)
        off l k b z u = bit-put l (π x) b (π k) ∙ rw (apart-places H.distinct k x z u)

        at : {g : ℕ} (l : ℕ) (b : Bool) → l < 64 → Half h (π x) b g → cond (bit g l) v (not v) ≡ truth f (lane l b)
        at l b j K = ap (λ (y : Bool). cond y v (not v)) (K.bits l j) ∙ sym (hit-lane (put l (π x) b) (put_small l (π x) b j i))

    -- one half: x is set to b, and joins the reasons
    pub hit-half : {g : ℕ} (b : Bool) → Half h (π x) b g → free f x ≡ true → Hit f v (drop π x) (put w x b) (bit_or r (2 ^ x)) (bit_or q (2 ^ x)) g
    hit-half {g} b K e = record {
      distinct = drop_distinct;
      clear = clear-more r H.clear;
      clear-not = clear-more q H.clear-not;
      inside = inside-more r H.inside;
      inside-not = inside-more q H.inside-not;
      hits = λ σ o l j A z. H.hits σ (on_less r H.clear σ o) (put l (π x) b) (put_small l (π x) b j i) (at_drop l σ b (here r σ o) A) (sym (K.bits l j) ∙ z);
      misses = λ σ o l j A z. H.misses σ (on_less q H.clear-not σ o) (put l (π x) b) (put_small l (π x) b j i) (at_drop l σ b (here q σ o) A) (sym (K.bits l j) ∙ z);
    }
      where
        clear-more : (z : ℕ) → ((y : ℕ) → π y < 6 → bit z y ≡ false) → (y : ℕ) → drop π x y < 6 → bit (bit_or z (2 ^ x)) y ≡ false
        clear-more z c y j = bit-or z (2 ^ x) y ∙ rw (drop-clear z c y j, bit-pow) (by_bool (eqb y x) (λ q. absurd (omega (arith, j, ap (drop π x) (eqb-true y x q), drop-same π x))) (λ q. q))

        inside-more : (z : ℕ) → ((k : ℕ) → bit z k ≡ true → free f k ≡ true) → (k : ℕ) → bit (bit_or z (2 ^ x)) k ≡ true → free f k ≡ true
        inside-more z c k u = or_cases (bit z k) (bit (2 ^ x) k) (sym (bit-or z (2 ^ x) k) ∙ u) (c k) (λ y. rw (eqb-true k x (sym (bit-pow x k) ∙ y)) e)

        on_less : (z : ℕ) → ((y : ℕ) → π y < 6 → bit z y ≡ false) → (σ : Assignment) → On (bit (bit_or z (2 ^ x))) σ (bit (put w x b)) → On (bit z) σ (bit w)
        on_less z c σ o k u =
            let m : eqb k x ≡ false = by_bool (eqb k x) (λ y. clash (bit z k) u (rw (eqb-true k x y) (c x i))) (λ y. y) in
            o k (bit-or z (2 ^ x) k ∙ rw u) ∙ bit-put w x b k ∙ rw m

        here : (z : ℕ) (σ : Assignment) → On (bit (bit_or z (2 ^ x))) σ (bit (put w x b)) → σ x ≡ b
        here z σ o = o x (bit-or z (2 ^ x) x ∙ or_right (bit z x) (bit (2 ^ x) x) (bit-pow x x ∙ eq-eqb x x refl)) ∙ bit-put w x b x ∙ rw (eq-eqb x x refl)
