-- The bit spread, node by node: a node that is not changed in the end names nodes that are not. Assumes nothing.
use Rattle.std.specs.Prelude.{ℕ, ◌+◌, ◌/◌, ◌%◌, ◌^◌, ◌<◌, ◌≤◌, ◌≡◌, refl, true, not, List, get_or, set, eqb}
use native.Mathlib.Omega.{arith}
use Rattle.std.proofs.Common.{sym, ◌∙◌, subst, length-set, get_or-set_same, get_or-set_other}
use Rattle.std.proofs.Math.Path.{ap, ap₂, fun_ext}
use Rattle.std.proofs.Math.Bool.{false}
use Rattle.std.proofs.Math.ListN.{length}
use Rattle.std.proofs.Math.Dec.{ltb}
use borrow.Author.Tests.{eqb-true, lt-ltb}
use Rattle.words.specs.Logic.{tests}
use Rattle.words.proofs.Logic.{by_bool, clash}
use Rattle.net.specs.Net.{Ordered}
use Rattle.net.specs.Layout.{form_same, frames_of, first_word, second_word, unpack, packed, changed, Ground}
use Rattle.absorb.specs.Absorb.{Names}
use Rattle.absorb.specs.Spread.{Noted, still, NotedAt, Spreading}
use Rattle.absorb.specs.MarksLaws.{names-below}

pub noted_refl : (net : List ℕ) → Noted net net
noted_refl net = record { long = refl; count = refl; opens = refl; gauged = refl; nodes = λ k. refl; behind = λ i h. refl; more = λ k e. e }

noted_trans : {a b c : List ℕ} → Noted a b → Noted b c → Noted a c
noted_trans {a} {b} {c} L M =
    record {
      long = M.long ∙ L.long;
      count = M.count ∙ L.count;
      opens = M.opens ∙ L.opens;
      gauged = M.gauged ∙ L.gauged;
      nodes = λ k. M.nodes k ∙ L.nodes k;
      behind = λ i h. M.behind i (omega (arith, L.count)) ∙ L.behind i h;
      more = λ k e. M.more k (L.more k e);
    }

-- so it can be searched as before
pub noted_ground : {net net' : List ℕ} → Ground net → Noted net net' → Ground net'
noted_ground {net} {net'} G M =
    let same : packed net' ≡ packed net = fun_ext M.nodes in
    record {
      ordered = rw same G.ordered;
      ranged = λ k. rw (form_same net net' M.long, M.nodes k) (G.ranged k);
      distinct = rw same G.distinct;
      room = omega (arith, G.room, M.long, M.count);
      few = omega (arith, G.few, M.long);
    }

-- ---- one node

-- a word without the bit has room for it
pub room-more : (w : ℕ) → w < 2 ^ 64 → ltb 7 (w % 16) ≡ false → w + 8 < 2 ^ 64
room-more w l e = go (w % 16) refl e
  where
    go : (x : ℕ) → w % 16 ≡ x → ltb 7 x ≡ false → w + 8 < 2 ^ 64
    go x i h = let b : x < 8 = omega tests in omega arith

-- it is changed already, or names no changed node
pub noted-as-is : {net : List ℕ} {k : ℕ} → (changed net k ≡ false → Names (still net) (packed net k)) → NotedAt net net k
noted-as-is {net} h = record { noted = noted_refl net; at = h; others = λ j n. refl }

-- 8 more in its first word, which has not the bit
module _ {net net' : List ℕ} {k w : ℕ} (G : Ground net) (l : k < frames_of net) (low : changed net k ≡ false) (was : w ≡ get_or net (first_word k) 0) (is : net' ≡ set net (first_word k) (w + 8)) where
  other : (i : ℕ) → (i ≡ first_word k → ⊥) → get_or net' i 0 ≡ get_or net i 0
  other i n = ap (λ (r : List ℕ). get_or r i 0) is ∙ get_or-set_other net (first_word k) i (w + 8) 0 n

  here : get_or net' (first_word k) 0 ≡ w + 8
  here = ap (λ (r : List ℕ). get_or r (first_word k) 0) is ∙ get_or-set_same net (first_word k) (w + 8) 0 (omega (arith, G.room))

  low_bits : w % 16 < 8
  unfolding changed
  low_bits = below (w % 16) (ap (λ (x : ℕ). ltb 7 (x % 16)) was ∙ low)
    where
      below : (x : ℕ) → ltb 7 x ≡ false → x < 8
      below x e = omega tests

  unpack-more : (m : ℕ) → unpack (w + 8) m ≡ unpack w m
  unfolding unpack
  unpack-more m =
      let a : (w + 8) % 8 ≡ w % 8 = omega arith in
      let b : (w + 8) / 16 ≡ w / 16 = omega (arith, low_bits) in
      let d : (w + 8) / 65536 ≡ w / 65536 = omega (arith, low_bits) in
      rw (a, b, d)

  changed-here : changed net' k ≡ true
  unfolding changed
  changed-here = ap (λ (x : ℕ). ltb 7 (x % 16)) here ∙ lt-ltb 7 ((w + 8) % 16) (omega (arith, low_bits))

  changed-other : (j : ℕ) → (j ≡ k → ⊥) → changed net' j ≡ changed net j
  unfolding changed
  changed-other j n = ap (λ (x : ℕ). ltb 7 (x % 16)) (other (first_word j) (λ z. n (omega arith)))

  pub noted_more : NotedAt net net' k
  unfolding packed
  noted_more =
      record {
        noted = record {
          long = ap length is ∙ simp length-set;
          count = other 0 (λ z. omega arith);
          opens = other 1 (λ z. omega arith);
          gauged = other 2 (λ z. omega arith);
          nodes = λ j. by_bool (eqb j k)
              (λ q. rw (eqb-true j k q) (ap₂ unpack here (other (second_word k) (λ z. omega arith)) ∙ unpack-more (get_or net (second_word k) 0) ∙ ap (λ (x : ℕ). unpack x (get_or net (second_word k) 0)) was))
              (λ q. ap₂ unpack (other (first_word j) (λ z. omega tests)) (other (second_word j) (λ z. omega arith)));
          behind = λ i h. other i (λ z. omega arith);
          more = λ j e. by_bool (eqb j k)
              (λ q. rw (eqb-true j k q) changed-here)
              (λ q. changed-other j (λ z. omega tests) ∙ e);
        };
        at = λ e. clash (changed net' k) changed-here e;
        others = changed-other;
      }

-- ---- all of them

pub spreading_none : (net : List ℕ) → Spreading net net 0
spreading_none net = record { noted = noted_refl net; closed = λ k l. absurd (omega arith) }

pub spreading_next : {net₀ net net' : List ℕ} {i : ℕ} → Ordered (packed net) → Spreading net₀ net i → NotedAt net net' i → Spreading net₀ net' (i + 1)
unfolding still
spreading_next {net₀} {net} {net'} {i} o S N =
    record {
      noted = noted_trans S.noted N.noted;
      closed = λ k l e. by_bool (eqb k i)
          (λ q. let is = eqb-true k i q in
          subst (λ (j : ℕ). Names (still net') (packed net' j)) (sym is) (before i (omega arith) (N.at (subst (λ (j : ℕ). changed net' j ≡ false) is e))))
          (λ q. before k (omega arith) (S.closed k (omega tests) (sym (N.others k (λ z. omega tests)) ∙ e)));
    }
  where
    before : (k : ℕ) → k ≤ i → Names (still net) (packed net k) → Names (still net') (packed net' k)
    before k h n = rw (N.noted.nodes k) (names-below k (packed net k) (o.fit k) (λ j m e. ap not (N.others j (λ z. omega arith)) ∙ e) n)
