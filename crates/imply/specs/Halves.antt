-- One variable's two halves, in a search of any formula f for the truth v: found or lost. Assumes nothing.
use Rattle.std.specs.Prelude.{ℕ, ◌+◌, ◌<◌, ◌^◌, ◌≡◌, refl, Bool, true, false, not, ◌&&◌, ◌||◌, eqb}
use Rattle.std.proofs.Common.{arith, sym, ◌∙◌, ap, ⊎_elim, eqb-true, eq-eqb}
use Rattle.std.proofs.Math.Bool.{and-true, and-false}
use Rattle.std.specs.Int.Bits.{bit_or}
use Rattle.words.proofs.Logic.{by_bool, clash, or_right}
use Rattle.words.specs.Word.{bit}
use Rattle.words.proofs.Bits.{bit-or, bit-pow, ext}
use Rattle.words.specs.Mask.{Sub, Apart, Top, without}
use Rattle.words.proofs.Mask.{bit-without, bits_sub, bits_apart, apart-bits, apart-sub, apart-sym, sub_trans, without_sub, without-apart, or-sum, sub-le}
use Rattle.words.specs.Mask.{put, placed}
use Rattle.words.proofs.Mask.{top_bit, top_rest, sub-split, add-one-sub, one-sub, none-sub, or_apart, placed-put, placed_at, placed-other, without-none}
use Rattle.cube.specs.Cube.{Fixed}
use Rattle.formula.specs.Formula.{Formula, truth}
use Rattle.formula.specs.Reason.{Explains}
use Rattle.formula.proofs.ReasonWord.{word_branch, word_skip}
use Rattle.imply.specs.Posed.{Found, Met, Lost, Free}

-- ---- a value that is known

pub met_known : {f : Formula} {v : Bool} {free w r : ℕ} (loose : ℕ) → Explains f v (bit r) (bit w) → Met f v free loose w w r
met_known loose e = record { explains = e; chosen = 0; inside = none-sub loose; is = omega arith; least = λ s z i l. absurd (omega arith) }

-- ---- from one to the other

pub met_found : {f : Formula} {v : Bool} {free loose w word r : ℕ} → Met f v free loose w word r → Sub loose free → Found f v loose w word r
met_found h s = record { explains = h.explains; chosen = h.chosen; inside = h.inside; is = h.is; least = h.least s }

pub found_met : {f : Formula} {v : Bool} {free loose w word r : ℕ} → Found f v loose w word r → Met f v free loose w word r
found_met h = record { explains = h.explains; chosen = h.chosen; inside = h.inside; is = h.is; least = λ s. h.least }

-- for another reason
pub met_other : {f : Formula} {v : Bool} {free loose w word r q : ℕ} → Met f v free loose w word r → (Explains f v (bit r) (bit word) → Explains f v (bit q) (bit word)) → Met f v free loose w word q
met_other h e = record { explains = e h.explains; chosen = h.chosen; inside = h.inside; is = h.is; least = h.least }

-- ---- words that are apart

pub apart-inside : {r m loose : ℕ} → Sub r m → Apart m loose → Apart r loose
apart-inside s a = apart-sym (apart-sub (apart-sym a) s)

pub or-none : (p q : Bool) → q ≡ false → (p || q) ≡ p
or-none true q e = refl
or-none false q e = e

pub bit_plus : {w z : ℕ} → Apart w z → (k : ℕ) → bit (w + z) k ≡ bit w k || bit z k
bit_plus {w} {z} a k = ap (λ (x : ℕ). bit x k) (sym (or-sum a)) ∙ bit-or w z k

-- a place that is not in m
pub off-sub : {y m : ℕ} → Sub y m → (k : ℕ) → bit m k ≡ false → bit y k ≡ false
off-sub {y} {m} h k e = by_bool (bit y k) (λ z. clash (bit m k) (bits_sub h k z) e) (λ z. z)

pub off-mask : (w m k : ℕ) → bit m k ≡ false → bit (without w m) k ≡ bit w k
off-mask w m k e = bit-without w m k ∙ ap (λ (y : Bool). bit w k && not y) e ∙ and-true (bit w k)

-- what a failed search says of every word that differs in loose variables only
pub lost-at : {f : Formula} {v : Bool} {loose w r : ℕ} → Lost f v loose w r → Apart w loose → (z : ℕ) → Sub z loose → truth f (bit (w + z)) ≡ not v
lost-at {w = w} {r = r} h d z i =
    h.explains.forces (bit (w + z)) (λ k e. bit_plus (apart-sub d i) k ∙ or-none (bit w k) (bit z k) (bits_apart (apart-sub h.apart i) k e))

-- ---- the two halves of the highest loose variable x

module _ {loose x w : ℕ} (t : Top loose x) (d : Apart w loose) where
  rest-sub : Sub (without loose (2 ^ x)) loose
  rest-sub = without_sub loose (2 ^ x)

  x_apart : Apart w (2 ^ x)
  x_apart = apart-sub d (one-sub x (top_bit t))

  pub put_low : put w x false ≡ w
  unfolding put
  put_low = without-none w x (bits_apart (apart-sym d) x (top_bit t))

  pub put-high : put w x true ≡ w + 2 ^ x
  unfolding put
  put-high = or-sum x_apart

  clear_up : {r : ℕ} → Apart r (without loose (2 ^ x)) → bit r x ≡ false → Apart r loose
  clear_up {r} a n = apart-bits r loose (λ k e. by_bool (eqb k x)
      (λ q. clash (bit r k) e (ap (bit r) (eqb-true k x q) ∙ n))
      (λ q. go (bit loose k) (bit (2 ^ x) k) (sym (bit-without loose (2 ^ x) k) ∙ bits_apart a k e) (bit-pow x k ∙ q)))
    where
      go : (p z : Bool) → (p && not z) ≡ false → z ≡ false → p ≡ false
      go true z h q = sym (ap not q) ∙ h
      go false z h q = refl

  -- 0 is met first
  pub met_low : {f : Formula} {v : Bool} {free word r : ℕ} → Met f v free (without loose (2 ^ x)) w word r → Met f v free loose w word r
  met_low h = record {
    explains = h.explains;
    chosen = h.chosen;
    inside = sub_trans h.inside rest-sub;
    is = h.is;
    least = λ s z i l. ⊎_elim
        (λ (j : Sub z (without loose (2 ^ x))). h.least (sub_trans rest-sub s) z j l)
        (λ (q : (y : ℕ) × Sub y (without loose (2 ^ x)) × (z ≡ y + 2 ^ x)). absurd (omega (arith, q.2, h.is, sub-le h.inside, (top_rest t).0)))
        (sub-split x i);
  }

  -- 1 is met, by the least word if 0 is lost
  pub met_up : {f : Formula} {v : Bool} {free word r : ℕ} → (Sub loose free → (q : ℕ) × Lost f v (without loose (2 ^ x)) w q) → Met f v free (without loose (2 ^ x)) (w + 2 ^ x) word r → Met f v free loose w word r
  met_up {f = f} g h = record {
    explains = h.explains;
    chosen = h.chosen + 2 ^ x;
    inside = add-one-sub x (top_bit t) h.inside;
    is = omega (arith, h.is);
    least = λ s z i l. ⊎_elim
        (λ (j : Sub z (without loose (2 ^ x))). lost-at (g s).1 (apart-sub d rest-sub) z j)
        (λ (c : (y : ℕ) × Sub y (without loose (2 ^ x)) × (z ≡ y + 2 ^ x)).
        let e : w + z ≡ w + 2 ^ x + c.0 = omega (arith, c.2) in
        ap (λ (y : ℕ). truth f (bit y)) e ∙ h.least (sub_trans rest-sub s) c.0 c.1 (omega (arith, c.2)))
        (sub-split x i);
  }

  -- it may be tried first if x is not of `free`
  met_high : {f : Formula} {v : Bool} {free word r : ℕ} → bit free x ≡ false → Met f v free (without loose (2 ^ x)) (w + 2 ^ x) word r → Met f v free loose w word r
  met_high {free = free} n = met_up (λ s. clash (bit free x) (bits_sub s x (top_bit t)) n)

  lost-first : {f : Formula} {v : Bool} {r : ℕ} → Lost f v (without loose (2 ^ x)) w r → bit r x ≡ false → Lost f v loose w r
  lost-first g n = record { explains = g.explains; apart = clear_up g.apart n }

  lost_second : {f : Formula} {v : Bool} {r : ℕ} → Lost f v (without loose (2 ^ x)) (w + 2 ^ x) r → bit r x ≡ false → Lost f v loose w r
  lost_second {r = r} g n = record { explains = word_skip r w x true n (rw put-high g.explains); apart = clear_up g.apart n }

  lost-both : {f : Formula} {v : Bool} {r q : ℕ} → Lost f v (without loose (2 ^ x)) w r → Lost f v (without loose (2 ^ x)) (w + 2 ^ x) q → Lost f v loose w (without (bit_or r q) (2 ^ x))
  lost-both {r = r} {q = q} g h = record {
    explains = word_branch r w x q (rw put_low g.explains) (rw put-high h.explains);
    apart = clear_up
        (apart-inside (without_sub (bit_or r q) (2 ^ x)) (or_apart g.apart h.apart))
        (bits_apart (apart-sym (without-apart (bit_or r q) (2 ^ x))) x (bit-pow x x ∙ eq-eqb x x refl));
  }

-- ---- the same as the code has them: p is the word of x, `rest` the loose variables without x, m', w' the cube with x fixed

module _ {loose m w x p rest : ℕ} (T : Top loose x) (l : x < 64) (ep : p ≡ 2 ^ x) (er : rest ≡ without loose p) (P : Free loose m w) where
  rest-is : rest ≡ without loose (2 ^ x)
  rest-is = er ∙ ap (without loose) ep

  low-is : {m' w' : ℕ} → Fixed 64 m w x false m' w' → w' ≡ w
  low-is F = F.values ∙ placed-put w false l ∙ put_low T P.clear

  high_is : {m' w' : ℕ} → Fixed 64 m w x true m' w' → w' ≡ w + 2 ^ x
  high_is F = F.values ∙ placed-put w true l ∙ put-high T P.clear

  -- the value b is tried first: 1 only if x is not of `free`
  pub first_met : {f : Formula} {v : Bool} {free : ℕ} (b : Bool) {m' w' word r : ℕ} → (b ≡ true → bit free x ≡ false) → Fixed 64 m w x b m' w' → Met f v free rest w' word r → Met f v free loose w word r
  first_met false n F h = met_low T P.clear (rw (rest-is, low-is F) at h)
  first_met true n F h = met_high T P.clear (n refl) (rw (rest-is, high_is F) at h)

  -- the other value is met behind it
  pub second_met : {f : Formula} {v : Bool} {free : ℕ} (b : Bool) {m' w' m'' w'' q word r : ℕ} → Fixed 64 m w x b m' w' → Lost f v rest w' q → Fixed 64 m w x (not b) m'' w'' → Met f v free rest w'' word r → Met f v free loose w word r
  second_met false {q = q} F g G h = met_up T P.clear (λ s. (q, rw (rest-is, low-is F) at g)) (rw (rest-is, high_is G) at h)
  second_met true F g G h = met_low T P.clear (rw (rest-is, low-is G) at h)

  -- one of them fails without x
  pub half-lost : {f : Formula} {v : Bool} (b : Bool) {m' w' r : ℕ} → Fixed 64 m w x b m' w' → Lost f v rest w' r → bit r x ≡ false → Lost f v loose w r
  half-lost false F h n = lost-first T P.clear (rw (rest-is, low-is F) at h) n
  half-lost true F h n = lost_second T P.clear (rw (rest-is, high_is F) at h) n

  -- both fail
  pub both-lost : {f : Formula} {v : Bool} (b : Bool) {m' w' m'' w'' q r z : ℕ} → Fixed 64 m w x b m' w' → Lost f v rest w' q → Fixed 64 m w x (not b) m'' w'' → Lost f v rest w'' r → z ≡ without (bit_or q r) p → Lost f v loose w z
  both-lost false F g G h e = rw (e, ep) (lost-both T P.clear (rw (rest-is, low-is F) at g) (rw (rest-is, high_is G) at h))
  both-lost true {q = q} {r = r} F g G h e =
      rw (e, ep, ext (bit_or q r) (bit_or r q) (λ k. bit-or q r k ∙ either (bit q k) (bit r k) ∙ sym (bit-or r q k))) (lost-both T P.clear (rw (rest-is, low-is G) at h) (rw (rest-is, high_is F) at g))
    where
      either : (a c : Bool) → (a || c) ≡ (c || a)
      either true true = refl
      either true false = refl
      either false true = refl
      either false false = refl

-- ---- the cube with a loose variable x fixed, whichever it is

module _ {loose m w x p rest : ℕ} (L : bit loose x ≡ true) (l : x < 64) (ep : p ≡ 2 ^ x) (er : rest ≡ without loose p) (P : Free loose m w) where
  half-apart : (y : ℕ) (b : Bool) → Apart y loose → Apart (placed 64 y x b) rest
  half-apart y b d = rw (er, ep) (apart-bits (placed 64 y x b) (without loose (2 ^ x)) (λ k e. by_bool (eqb k x)
      (λ q. bit-without loose (2 ^ x) k ∙ rw (bit-pow x k, q) (and-false (bit loose k)))
      (λ q. bit-without loose (2 ^ x) k ∙ rw (bits_apart d k (sym (placed-other 64 y x b k q) ∙ e)))))

  pub half-clear : bit m x ≡ false
  half-clear = bits_apart (apart-sym P.apart) x L

  pub half-free : {b : Bool} {m' w' : ℕ} → Fixed 64 m w x b m' w' → Free rest m' w'
  half-free {b} F = record { apart = rw F.mask (half-apart m true P.apart); clear = rw F.values (half-apart w b P.clear) }

  -- assigned or loose: the same variables
  pub half-same : {b : Bool} {m' w' : ℕ} → Fixed 64 m w x b m' w' → bit_or m' rest ≡ bit_or m loose
  half-same F =
      rw (F.mask, er, ep) (ext (bit_or (placed 64 m x true) (without loose (2 ^ x))) (bit_or m loose)
      (λ k. bit-or (placed 64 m x true) (without loose (2 ^ x)) k ∙ same k ∙ sym (bit-or m loose k)))
    where
      same : (k : ℕ) → (bit (placed 64 m x true) k || bit (without loose (2 ^ x)) k) ≡ (bit m k || bit loose k)
      same k =
          by_bool (eqb k x)
          (λ q. rw (eqb-true k x q, placed_at 64 m x true l, L) (sym (or_right (bit m x) true refl)))
          (λ q. rw (placed-other 64 m x true k q, bit-without loose (2 ^ x) k, bit-pow x k, q) (ap (λ (y : Bool). bit m k || y) (and-true (bit loose k))))
