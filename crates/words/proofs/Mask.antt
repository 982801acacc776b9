-- Masks: words as sets of places (a place is a bit's number), for every width. Each law is read off bit by bit (`ext`). Assumes nothing.
use Rattle.std.specs.Prelude.{◌≡◌, refl, Bool, true, false, not, ◌&&◌, ◌||◌, cond, ◌⊎◌, ℕ, zero, suc, ◌+◌, ◌-◌, ◌*◌, ◌/◌, ◌%◌, ◌^◌, ◌≤◌, ◌<◌, leb, ltb, eqb}
use Rattle.std.proofs.Common.{sym, ap, ap₂, ◌∙◌, subst, inl, inr, lt_of_lt_of_le, lt_of_le_of_lt, pow-suc, one-mul, zero-mul, arith, pow_pos, pow_mono, shl_exact, shl_lt, eqb-true, eq-eqb, lt-ltb, le-ltb, ltb-true, ltb-false, leb-true}
use Rattle.std.proofs.Math.Bool.{and-false, and-true}
use Rattle.std.specs.Int.Count.{count_leading_zeros}
use Rattle.std.proofs.lemmas.Nat.{leading_top, and_le_r, and_comm, or_disjoint, or_lt}
use Rattle.std.proofs.Math.Pow.{pow-lt, ones_lt, ones_split, high}
use Rattle.std.specs.Int.Bits.{bit_and, bit_or, and_self, and_zero_l, and_zero_r, xor_add_and, or_zero_r}
use Rattle.words.specs.Logic.{tests}
use Rattle.words.proofs.Logic.{by_bool, clash, and_both, or_cases, or_left, or_right}
use Rattle.words.specs.Word.{bit, xorb}
use Rattle.words.proofs.Bits.{bit-and, bit-or, bit-xor, bit_high, bit-none, bit-pow, bit_not, bit-range, ext, ext_below}
use Rattle.words.specs.Mask.{Agree, Apart, Sub, Top, agree, inside, mask_of, placed, put, range_mask, without}

xor_and : (p q : Bool) → xorb p (p && q) ≡ p && not q
xor_and true true = refl
xor_and true false = refl
xor_and false true = refl
xor_and false false = refl

pub bit-without : (m o k : ℕ) → bit (without m o) k ≡ bit m k && not (bit o k)
unfolding without
bit-without m o k = simp (bit-xor, bit-and) (xor_and (bit m k) (bit o k))

-- ---- by bits

pub sub-bits : (y f : ℕ) → ((k : ℕ) → bit y k ≡ true → bit f k ≡ true) → Sub y f
sub-bits y f h = record { inside = ext (bit_and y f) y (λ k. bit-and y f k ∙ go (bit y k) (bit f k) (h k)) }
  where
    go : (p q : Bool) → (p ≡ true → q ≡ true) → (p && q) ≡ p
    go true q i = i refl
    go false q i = refl

and_left : (p q : Bool) → (p && q) ≡ p → p ≡ true → q ≡ true
and_left true q e t = e
and_left false q e t = cc

pub bits_sub : {y f : ℕ} → Sub y f → (k : ℕ) → bit y k ≡ true → bit f k ≡ true
bits_sub {y} {f} s k t = and_left (bit y k) (bit f k) (sym (bit-and y f k) ∙ ap (λ (x : ℕ). bit x k) s.inside) t

and_none : (p q : Bool) → (p && q) ≡ false → p ≡ true → q ≡ false
and_none true q e t = e
and_none false q e t = cc

pub bits_apart : {a b : ℕ} → Apart a b → (k : ℕ) → bit a k ≡ true → bit b k ≡ false
bits_apart {a} {b} s k t = and_none (bit a k) (bit b k) (sym (bit-and a b k) ∙ ap (λ (x : ℕ). bit x k) s.none ∙ bit-none k) t

pub apart-bits : (a b : ℕ) → ((k : ℕ) → bit a k ≡ true → bit b k ≡ false) → Apart a b
apart-bits a b h = record { none = ext (bit_and a b) zero (λ k. bit-and a b k ∙ go (bit a k) (bit b k) (h k) ∙ sym (bit-none k)) }
  where
    go : (p q : Bool) → (p ≡ true → q ≡ false) → (p && q) ≡ false
    go true q i = i refl
    go false q i = refl

-- ---- without

pub without-apart : (m o : ℕ) → Apart (without m o) o
without-apart m o = record { none = ext (bit_and (without m o) o) zero (λ k. simp (bit-and, bit-without, bit-none) (go (bit m k) (bit o k))) }
  where
    go : (p q : Bool) → (p && not q && q) ≡ false
    go true true = refl
    go true false = refl
    go false q = refl

pub without_sub : (m o : ℕ) → Sub (without m o) m
without_sub m o = record { inside = ext (bit_and (without m o) m) (without m o) (λ k. simp (bit-and, bit-without) (go (bit m k) (bit o k))) }
  where
    go : (p q : Bool) → (p && not q && p) ≡ p && not q
    go true true = refl
    go true false = refl
    go false q = refl

-- as a difference
pub without-sum : (m o : ℕ) → without m o + bit_and m o ≡ m
unfolding without
without-sum m o =
    let e : bit_and m (bit_and m o) ≡ bit_and m o = ext (bit_and m (bit_and m o)) (bit_and m o) (λ k. simp bit-and (go (bit m k) (bit o k))) in
    omega (arith, xor_add_and m (bit_and m o))
  where
    go : (p q : Bool) → (p && (p && q)) ≡ p && q
    go true q = refl
    go false q = refl

pub without-le : (m o : ℕ) → without m o ≤ m
without-le m o = omega (arith, without-sum m o)

-- `m & !o` at n bits
pub and-not : (n m o : ℕ) → m < 2 ^ n → o < 2 ^ n → bit_and m ((2 ^ n - 1) - o) ≡ without m o
and-not n m o hm ho =
    ext (bit_and m ((2 ^ n - 1) - o)) (without m o)
    (λ k. bit-and m ((2 ^ n - 1) - o) k ∙ ap (λ (t : Bool). bit m k && t) (bit_not n k ho)
    ∙ go (bit m k) (bit o k) (ltb k n) (λ e. bit_high n k hm (ltb-false k n e)) ∙ sym (bit-without m o k))
  where
    go : (p q t : Bool) → (t ≡ false → p ≡ false) → (p && xorb q t) ≡ p && not q
    go p true true h = refl
    go p false true h = refl
    go p q false h = ap (λ (x : Bool). x && xorb q false) (h refl) ∙ ap (λ (x : Bool). x && not q) (sym (h refl))

-- ---- sums and orders

pub apart-sub : {w f y : ℕ} → Apart w f → Sub y f → Apart w y
apart-sub {w} {f} {y} a s = apart-bits w y (λ k t. by_bool (bit y k) (λ e. clash (bit f k) (bits_sub s k e) (bits_apart a k t)) (λ e. e))

pub or-sum : {w y : ℕ} → Apart w y → bit_or w y ≡ w + y
or-sum {w} {y} a = or_disjoint w y a.none

pub sub-le : {y f : ℕ} → Sub y f → y ≤ f
sub-le {y} {f} s = omega (arith, and_le_r y f)

pub sum_below : {y f : ℕ} (w x : ℕ) → Sub y f → f < 2 ^ x → w + y < w + 2 ^ x
sum_below {y} {f} w x s h = omega (arith, sub-le s)

pub top_bit : {f j : ℕ} → Top f j → bit f j ≡ true
unfolding bit
top_bit {f} {j} t =
    ap (λ (x : ℕ). eqb (x % 2) 1)
    (ap (λ (x : ℕ). x / 2 ^ j) whole ∙ high 1 j {lo = f - 2 ^ j} (omega (arith, pow-suc 2 j)))
  where
    whole : f ≡ 1 * 2 ^ j + (f - 2 ^ j)
    whole = omega (arith, t.reach)

-- what is left of f without its highest place is below it
pub top_rest : {f j : ℕ} → Top f j → (without f (2 ^ j) < 2 ^ j) × (without f (2 ^ j) + 2 ^ j ≡ f)
top_rest {f} {j} t =
    let e : bit_and f (2 ^ j) ≡ 2 ^ j = ext (bit_and f (2 ^ j)) (2 ^ j) (λ k. bit-and f (2 ^ j) k ∙ rest k) in
    (omega (arith, without-sum f (2 ^ j), pow-suc 2 j), omega (arith, without-sum f (2 ^ j)))
  where
    go : (k : ℕ) (p : Bool) → eqb k j ≡ p → (bit f k && p) ≡ p
    go k true e = ap (λ (x : ℕ). bit f x && true) (eqb-true k j e) ∙ ap (λ (t : Bool). t && true) (top_bit t)
    go k false e = and-false (bit f k)

    rest : (k : ℕ) → (bit f k && bit (2 ^ j) k) ≡ bit (2 ^ j) k
    rest k = ap (λ (p : Bool). bit f k && p) (bit-pow j k) ∙ go k (eqb k j) refl ∙ sym (bit-pow j k)

-- and so smaller
pub top_less : {f x p rest : ℕ} → Top f x → p ≡ 2 ^ x → rest ≡ without f p → rest < f
top_less T ep er = rw (er, ep) (omega (arith, (top_rest T).0, (top_rest T).1))

-- ---- the machine's shifts, at n bits

-- `1 << v`
pub one_shl : (n v : ℕ) → v < n → (1 * 2 ^ v) % 2 ^ n ≡ 2 ^ v
one_shl n v h = shl_exact {a = 1} 1 v n (omega arith) (omega arith) ∙ one-mul (2 ^ v)

-- `(2 ^ n - 1) >> (n - c)`: c low bits
pub ones_shr : (n c : ℕ) → c ≤ n → (2 ^ n - 1) / 2 ^ (n - c) ≡ 2 ^ c - 1
ones_shr n c h =
    ap (λ (x : ℕ). x / 2 ^ (n - c)) (ap (λ (x : ℕ). 2 ^ x - 1) whole ∙ ones_split c (n - c)) ∙ high (2 ^ c - 1) (n - c) (ones_lt (n - c))
  where
    whole : n ≡ c + (n - c)
    whole = omega arith

-- and moved up to b
pub range_shl : (n b c : ℕ) → b + c ≤ n → ((2 ^ c - 1) * 2 ^ b) % 2 ^ n ≡ (2 ^ c - 1) * 2 ^ b
range_shl n b c h = shl_exact {a = 2 ^ c - 1} c b n (ones_lt c) (omega arith)

-- ---- a test of one place

pub and_one : (w v : ℕ) → bit_and w (2 ^ v) ≡ cond (bit w v) (2 ^ v) zero
and_one w v = go (bit w v) refl
  where
    at : (k : ℕ) (p : Bool) (q : Bool) → eqb k v ≡ q → bit w v ≡ p → (bit w k && q) ≡ p && q
    at k p true e h = ap (λ (x : ℕ). bit w x && true) (eqb-true k v e) ∙ ap (λ (x : Bool). x && true) h
    at k p false e h = and-false (bit w k) ∙ sym (and-false p)

    go : (p : Bool) → bit w v ≡ p → bit_and w (2 ^ v) ≡ cond p (2 ^ v) zero
    go true h = ext (bit_and w (2 ^ v)) (2 ^ v) (λ k. simp (bit-and, bit-pow) (at k true (eqb k v) refl h))
    go false h = ext (bit_and w (2 ^ v)) zero (λ k. simp (bit-and, bit-pow, bit-none) (at k false (eqb k v) refl h))

pub bit-range_mask : (b c k : ℕ) → bit (range_mask b c) k ≡ leb b k && ltb k (b + c)
unfolding range_mask
bit-range_mask b c k = bit-range b c k ∙ go (leb b k) refl
  where
    same : (t : Bool) → ltb (k - b) c ≡ t → b ≤ k → t ≡ ltb k (b + c)
    same true e l = sym (lt-ltb k (b + c) (omega (arith, ltb-true (k - b) c e)))
    same false e l = sym (le-ltb k (b + c) (omega (arith, ltb-false (k - b) c e)))

    go : (t : Bool) → leb b k ≡ t → (t && ltb (k - b) c) ≡ t && ltb k (b + c)
    go true e = same (ltb (k - b) c) refl (leb-true b k e)
    go false e = refl

-- `(2 ^ n - 1 >> n - c) << b`
pub range_shifts : (n b c : ℕ) → b + c ≤ n → ((2 ^ n - 1) / 2 ^ (n - c) * 2 ^ b) % 2 ^ n ≡ range_mask b c
unfolding range_mask
range_shifts n b c h = ap (λ (x : ℕ). (x * 2 ^ b) % 2 ^ n) (ones_shr n c (omega arith)) ∙ range_shl n b c h

pub range_none : (b : ℕ) → range_mask b zero ≡ zero
unfolding range_mask
range_none b = zero-mul (2 ^ b)

pub range-lt : (n b c : ℕ) → b + c ≤ n → range_mask b c < 2 ^ n
unfolding range_mask
range-lt n b c h = lt_of_lt_of_le (shl_lt c b (ones_lt c)) (pow_mono (omega arith))

pub top_of : (n f : ℕ) → zero < f → f < 2 ^ n → Top f (n - 1 - count_leading_zeros n f) × (count_leading_zeros n f < n)
top_of n f p h =
    let t = leading_top n f p h in
    let e : t.0 ≡ n - 1 - count_leading_zeros n f = omega (arith, t.1) in
    (subst (λ (j : ℕ). Top f j) e (record { reach = t.2; under = t.3 }), omega (arith, t.1))

-- ---- the halves of a mask at its highest place

and3 : (p q r : Bool) → (p ≡ true → q ≡ true) → (p && not r && (q && not r)) ≡ p && not r
and3 true q r i = ap (λ (x : Bool). not r && (x && not r)) (i refl) ∙ twice r
  where
    twice : (x : Bool) → (not x && (true && not x)) ≡ not x
    twice true = refl
    twice false = refl
and3 false q r i = refl

-- what is inside stays inside without the same places
pub without_mono : {y f : ℕ} (o : ℕ) → Sub y f → Sub (without y o) (without f o)
without_mono {y} {f} o s =
    record { inside = ext (bit_and (without y o) (without f o)) (without y o) (λ k. simp (bit-and, bit-without) (and3 (bit y k) (bit f k) (bit o k) (bits_sub s k))) }

-- y without a place that it does not have is y
pub without-none : (y v : ℕ) → bit y v ≡ false → without y (2 ^ v) ≡ y
without-none y v h = omega (arith, without-sum y (2 ^ v), and_one y v ∙ ap (λ (p : Bool). cond p (2 ^ v) zero) h)

-- and one that it has
pub without-one : (y v : ℕ) → bit y v ≡ true → without y (2 ^ v) + 2 ^ v ≡ y
without-one y v h = omega (arith, without-sum y (2 ^ v), and_one y v ∙ ap (λ (p : Bool). cond p (2 ^ v) zero) h)

-- y inside f is inside f without the place v, or is such a word and 2 ^ v
pub sub-split : {y f : ℕ} (v : ℕ) → Sub y f → Sub y (without f (2 ^ v)) ⊎ ((z : ℕ) × Sub z (without f (2 ^ v)) × (y ≡ z + 2 ^ v))
sub-split {y} {f} v s = go (bit y v) refl
  where
    go : (p : Bool) → bit y v ≡ p → Sub y (without f (2 ^ v)) ⊎ ((z : ℕ) × Sub z (without f (2 ^ v)) × (y ≡ z + 2 ^ v))
    go true h = inr (without y (2 ^ v), without_mono (2 ^ v) s, sym (without-one y v h))
    go false h = inl (subst (λ (x : ℕ). Sub x (without f (2 ^ v))) (without-none y v h) (without_mono (2 ^ v) s))

pub bit-put : (w v : ℕ) (b : Bool) (k : ℕ) → bit (put w v b) k ≡ cond (eqb k v) b (bit w k)
unfolding put
bit-put w v true k = simp (bit-or, bit-pow) (go (bit w k) (eqb k v))
  where
    go : (p q : Bool) → (p || q) ≡ cond q true p
    go true true = refl
    go true false = refl
    go false true = refl
    go false false = refl
bit-put w v false k = simp (bit-without, bit-pow) (go (bit w k) (eqb k v))
  where
    go : (p q : Bool) → (p && not q) ≡ cond q false p
    go true true = refl
    go true false = refl
    go false true = refl
    go false false = refl

-- ---- more of inside and apart

pub sub_trans : {x y z : ℕ} → Sub x y → Sub y z → Sub x z
sub_trans {x} {y} {z} a b = sub-bits x z (λ k t. bits_sub b k (bits_sub a k t))

pub one-sub : {f : ℕ} (x : ℕ) → bit f x ≡ true → Sub (2 ^ x) f
one-sub {f} x h = sub-bits (2 ^ x) f (λ k t. ap (λ (j : ℕ). bit f j) (eqb-true k x (sym (bit-pow x k) ∙ t)) ∙ h)

pub or-sub : {a b f : ℕ} → Sub a f → Sub b f → Sub (bit_or a b) f
or-sub {a} {b} {f} s t = sub-bits (bit_or a b) f (λ k e. or_cases (bit a k) (bit b k) (sym (bit-or a b k) ∙ e) (bits_sub s k) (bits_sub t k))

pub apart-sym : {a b : ℕ} → Apart a b → Apart b a
apart-sym {a} {b} h = record { none = and_comm b a ∙ h.none }

-- a word inside f without the place x, and that place, are inside f; the sum is the union
pub add-one-sub : {z f : ℕ} (x : ℕ) → bit f x ≡ true → Sub z (without f (2 ^ x)) → Sub (z + 2 ^ x) f
add-one-sub {z} {f} x h s =
    subst (λ (n : ℕ). Sub n f) (or-sum (apart-sym (apart-sub (apart-sym (without-apart f (2 ^ x))) s)))
    (or-sub (sub_trans s (without_sub f (2 ^ x))) (one-sub x h))

pub or_apart : {a b f : ℕ} → Apart a f → Apart b f → Apart (bit_or a b) f
or_apart {a} {b} {f} s t = apart-bits (bit_or a b) f (λ k e. or_cases (bit a k) (bit b k) (sym (bit-or a b k) ∙ e) (bits_apart s k) (bits_apart t k))

-- a word that has not the place yet gets it, or stays
pub put-more : (w v : ℕ) (b : Bool) → bit w v ≡ false → put w v b ≡ bit_or w (cond b (2 ^ v) 0)
unfolding put
put-more w v true h = refl
put-more w v false h = without-none w v h ∙ sym (or_zero_r w)

-- and loses it again
pub without_more : (w v : ℕ) (b : Bool) → bit w v ≡ false → without (bit_or w (cond b (2 ^ v) 0)) (2 ^ v) ≡ w
without_more w v true h = ext (without (bit_or w (2 ^ v)) (2 ^ v)) w (λ k. simp (bit-without, bit-or, bit-pow) (go (bit w k) (eqb k v) (λ e. rw (eqb-true k v e) h)))
  where
    go : (p q : Bool) → (q ≡ true → p ≡ false) → ((p || q) && not q) ≡ p
    go true true i = sym (i refl)
    go true false i = refl
    go false true i = refl
    go false false i = refl
without_more w v false h = ap (λ (x : ℕ). without x (2 ^ v)) (or_zero_r w) ∙ without-none w v h

pub bit-placed : (n w v : ℕ) (b : Bool) (k : ℕ) → bit (placed n w v b) k ≡ cond (ltb v n && eqb k v) b (bit w k)
unfolding placed
bit-placed n w v b k = go (ltb v n)
  where
    go : (t : Bool) → bit (cond t (put w v b) w) k ≡ cond (t && eqb k v) b (bit w k)
    go true = bit-put w v b k
    go false = refl

pub placed_at : (n w v : ℕ) (b : Bool) → v < n → bit (placed n w v b) v ≡ b
placed_at n w v b h = rw (bit-placed, lt-ltb v n h, eq-eqb v v refl)

pub placed-other : (n w v : ℕ) (b : Bool) (k : ℕ) → eqb k v ≡ false → bit (placed n w v b) k ≡ bit w k
placed-other n w v b k e = rw (bit-placed, e, and-false (ltb v n))

pub placed_past : (n w v : ℕ) (b : Bool) → n ≤ v → placed n w v b ≡ w
unfolding placed
placed_past n w v b h = rw (le-ltb v n h)

-- at a place below the width it is put
pub placed-put : {n v : ℕ} (w : ℕ) (b : Bool) → v < n → placed n w v b ≡ put w v b
unfolding placed
placed-put {n} {v} w b h = rw (lt-ltb v n h)

-- what is inside stays inside
pub placed-sub : {w m : ℕ} (n v : ℕ) (b t : Bool) → (b ≡ true → t ≡ true) → Sub w m → Sub (placed n w v b) (placed n m v t)
placed-sub {w} {m} n v b t i s =
    sub-bits (placed n w v b) (placed n m v t) (λ k e. bit-placed n m v t k ∙ go (ltb v n && eqb k v) k (sym (bit-placed n w v b k) ∙ e))
  where
    go : (x : Bool) (k : ℕ) → cond x b (bit w k) ≡ true → cond x t (bit m k) ≡ true
    go true k e = i e
    go false k e = bits_sub s k e

-- it stays a word of n places
pub placed-lt : (n w v : ℕ) (b : Bool) → w < 2 ^ n → placed n w v b < 2 ^ n
unfolding placed put
placed-lt n w v b h = go (ltb v n) b refl
  where
    go : (t p : Bool) → ltb v n ≡ t → cond t (put w v p) w < 2 ^ n
    go true true e = or_lt n w (2 ^ v) h (pow-lt (ltb-true v n e))
    go true false e = lt_of_le_of_lt (without-le w (2 ^ v)) h
    go false p e = h

pub inside-sub : (a b : ℕ) → inside a b ≡ true → Sub a b
unfolding inside
inside-sub a b e = record { inside = eqb-true (bit_and a b) a e }

pub sub-inside : {a b : ℕ} → Sub a b → inside a b ≡ true
unfolding inside
sub-inside {a} {b} s = eq-eqb (bit_and a b) a s.inside

pub sub_refl : (a : ℕ) → Sub a a
sub_refl a = record { inside = and_self a }

pub none-sub : (a : ℕ) → Sub 0 a
none-sub a = record { inside = and_zero_l a }

pub sub-lt : {y f : ℕ} (n : ℕ) → Sub y f → f < 2 ^ n → y < 2 ^ n
sub-lt n s h = lt_of_le_of_lt (sub-le s) h

-- each is inside the other: equal
pub sub_antisym : {a b : ℕ} → Sub a b → Sub b a → a ≡ b
sub_antisym {a} {b} s t = sym s.inside ∙ and_comm a b ∙ t.inside

pub and-sub-left : (a b : ℕ) → Sub (bit_and a b) a
and-sub-left a b = sub-bits (bit_and a b) a (λ k e. (and_both (bit a k) (bit b k) (sym (bit-and a b k) ∙ e)).0)

pub and-sub : (a b : ℕ) → Sub (bit_and a b) b
and-sub a b = sub-bits (bit_and a b) b (λ k e. (and_both (bit a k) (bit b k) (sym (bit-and a b k) ∙ e)).1)

pub sub-and : {y a b : ℕ} → Sub y a → Sub y b → Sub y (bit_and a b)
sub-and {y} {a} {b} s t = sub-bits y (bit_and a b) (λ k e. rw (bit-and, bits_sub s k e, bits_sub t k e))

pub sub-or-left : (a b : ℕ) → Sub a (bit_or a b)
sub-or-left a b = sub-bits a (bit_or a b) (λ k e. bit-or a b k ∙ or_left (bit a k) (bit b k) e)

pub sub-or-right : (a b : ℕ) → Sub b (bit_or a b)
sub-or-right a b = sub-bits b (bit_or a b) (λ k e. bit-or a b k ∙ or_right (bit a k) (bit b k) e)

-- what is inside a and apart from b is inside a without b
pub sub-without : {y a b : ℕ} → Sub y a → Apart y b → Sub y (without a b)
sub-without {y} {a} {b} s t = sub-bits y (without a b) (λ k e. rw (bit-without, bits_sub s k e, bits_apart t k e))

pub mask_of-lt : (n : ℕ) (p : ℕ → Bool) → mask_of n p < 2 ^ n
unfolding mask_of
mask_of-lt zero p = pow_pos zero
mask_of-lt (suc n) p = by_bool (p n) (λ e. rw e (omega (arith, mask_of-lt n p, pow-suc 2 n))) (λ e. rw e (omega (arith, mask_of-lt n p, pow-suc 2 n)))

-- a place past the last, by a sum
pub put-sum : {w : ℕ} (n : ℕ) (b : Bool) → w < 2 ^ n → w + cond b (2 ^ n) 0 ≡ put w n b
unfolding put
put-sum {w} n true h = sym (or-sum (apart-sym (apart-bits (2 ^ n) w (λ k e. bit_high n k h (omega (tests, sym (bit-pow n k) ∙ e))))))
put-sum {w} n false h = omega (arith, without-none w n (bit_high n n h (omega arith)))

pub bit-mask_of : (n : ℕ) (p : ℕ → Bool) (k : ℕ) → bit (mask_of n p) k ≡ ltb k n && p k
unfolding mask_of
bit-mask_of zero p k = bit-none k ∙ sym (ap (λ (t : Bool). t && p k) (le-ltb k zero (omega arith)))
bit-mask_of (suc n) p k =
    ap (λ (x : ℕ). bit x k) (put-sum n (p n) (mask_of-lt n p)) ∙ bit-put (mask_of n p) n (p n) k
    ∙ by_bool (eqb k n)
    (λ e. rw (e, lt-ltb k (suc n) (omega tests), eqb-true k n e))
    (λ e. rw (e, bit-mask_of n p k) (by_bool (ltb k n)
    (λ h. rw (h, lt-ltb k (suc n) (omega tests)))
    (λ h. rw (h, le-ltb k (suc n) (omega tests)))))

-- it depends on p below n only
pub mask_of-same : (n : ℕ) (p q : ℕ → Bool) → ((k : ℕ) → k < n → p k ≡ q k) → mask_of n p ≡ mask_of n q
unfolding mask_of
mask_of-same zero p q h = refl
mask_of-same (suc n) p q h = ap₂ (λ (x : ℕ) (t : Bool). x + cond t (2 ^ n) 0) (mask_of-same n p q (λ k l. h k (omega arith))) (h n (omega arith))

-- a word of n places is that of its own bits
pub mask_of-bit : (n w : ℕ) → w < 2 ^ n → mask_of n (bit w) ≡ w
mask_of-bit n w h = ext_below n (mask_of n (bit w)) w (mask_of-lt n (bit w)) h (λ k l. bit-mask_of n (bit w) k ∙ rw (lt-ltb k n l))

pub and_same : (m s t : ℕ) → Agree m t s → bit_and s m ≡ bit_and t m
and_same m s t h = ext (bit_and s m) (bit_and t m) (λ k. rw (bit-and s m k, bit-and t m k) (by_bool (bit m k) (λ e. rw (e, h k e)) (λ e. rw e (and-false (bit s k) ∙ sym (and-false (bit t k))))))

pub same-and : (m s t : ℕ) → bit_and s m ≡ bit_and t m → Agree m t s
same-and m s t e k h =
    let q : bit s k && bit m k ≡ bit t k && bit m k = sym (bit-and s m k) ∙ ap (λ (x : ℕ). bit x k) e ∙ bit-and t m k in
    sym (and-true (bit s k)) ∙ rw h at q ∙ and-true (bit t k)

-- values outside the mask agree with nothing
pub agree-sub : (m w s : ℕ) → agree m w s ≡ true → Sub w m
unfolding agree
agree-sub m w s e = subst (λ (x : ℕ). Sub x m) (eqb-true (bit_and s m) w e) (and-sub s m)

-- values outside the mask agree with nothing
pub agree-outside : (m w s : ℕ) → inside w m ≡ false → agree m w s ≡ false
agree-outside m w s h = by_bool (agree m w s) (λ e. clash (inside w m) (sub-inside (agree-sub m w s e)) h) (λ e. e)

pub agree-bits : (m w s : ℕ) → agree m w s ≡ true → Agree m w s
unfolding agree
agree-bits m w s e = same-and m s w (eqb-true (bit_and s m) w e ∙ sym (agree-sub m w s e).inside)

pub bits_agree : (m w s : ℕ) → Sub w m → Agree m w s → agree m w s ≡ true
unfolding agree
bits_agree m w s h a = eq-eqb (bit_and s m) w (and_same m s w a ∙ h.inside)

-- agreement with a word's values in the mask
pub masked-bits : (m w s : ℕ) → agree m (bit_and w m) s ≡ true → Agree m w s
unfolding agree
masked-bits m w s e = same-and m s w (eqb-true (bit_and s m) (bit_and w m) e)

pub bits_masked : (m w s : ℕ) → Agree m w s → agree m (bit_and w m) s ≡ true
unfolding agree
bits_masked m w s a = eq-eqb (bit_and s m) (bit_and w m) (and_same m s w a)

-- it depends on the setting's bits in the mask only
pub agree_same : (m w s t : ℕ) → Agree m t s → agree m w s ≡ agree m w t
unfolding agree
agree_same m w s t h = ap (λ (x : ℕ). eqb x w) (and_same m s t h)

pub agree-none : (s : ℕ) → agree 0 0 s ≡ true
unfolding agree
agree-none s = eq-eqb (bit_and s 0) 0 (and_zero_r s)

-- the settings that agree are w + y with y apart from m
pub agree-split : (m w s : ℕ) → agree m w s ≡ true → s ≡ w + without s m
unfolding agree
agree-split m w s e = omega (arith, without-sum s m, eqb-true (bit_and s m) w e)

pub agree-sum : (m w y : ℕ) → Sub w m → Apart y m → agree m w (w + y) ≡ true
agree-sum m w y h a =
    bits_agree m w (w + y) h (λ k t.
    ap (λ (x : ℕ). bit x k) (sym (or-sum (apart-sym (apart-sub a h)))) ∙ bit-or w y k
    ∙ go (bit w k) (bit y k) (bits_apart (apart-sym a) k t))
  where
    go : (p q : Bool) → q ≡ false → (p || q) ≡ p
    go true q e = refl
    go false q e = e
