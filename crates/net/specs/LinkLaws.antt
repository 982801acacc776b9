-- Other links, the same net: what `Linked` is kept by, and what it keeps. Assumes nothing.
use Rattle.std.specs.Prelude.{ℕ, ◌/◌, ◌%◌, ◌<◌, ◌≤◌, ◌≡◌, refl, List, length, get_or, set, eqb, ltb}
use Rattle.std.proofs.Common.{arith, sym, ◌∙◌, ap, ap₂, length-set, get_or-set_same, get_or-set_other, eqb-true}
use Rattle.std.proofs.Math.Path.{fun_ext}
use Rattle.words.specs.Logic.{tests}
use Rattle.words.proofs.Logic.{by_bool}
use Rattle.sheet.specs.Fields.{Sheet}
use Rattle.net.specs.Net.{Net, meaning}
use Rattle.net.specs.Layout.{form_same, frames_of, first_word, second_word, unpack, packed, changed, formula_at, Ground}
use Rattle.net.specs.Sheet.{NetOf, last}
use Rattle.net.specs.Link.{low_part, Linked}

-- ---- the bits that a node is read from

low_op : (x : ℕ) → x % 8 ≡ low_part x % 8
unfolding low_part
low_op x = omega arith

low-changed : (x : ℕ) → x % 16 ≡ low_part x % 16
unfolding low_part
low-changed x = omega arith

low-left : (x : ℕ) → x / 16 % 4096 ≡ low_part x / 16 % 4096
unfolding low_part
low-left x = omega arith

low-right : (x : ℕ) → x / 65536 % 4096 ≡ low_part x / 65536 % 4096
unfolding low_part
low-right x = omega arith

pub unpack-low : (x y m : ℕ) → low_part x ≡ low_part y → unpack x m ≡ unpack y m
unfolding unpack
unpack-low x y m e = rw (low_op x, low-left x, low-right x, low_op y, low-left y, low-right y, e)

-- ---- links stored

pub linked_refl : (net : List ℕ) → Linked net net
linked_refl net = record { long = refl; count = refl; opens = refl; gauged = refl; nodes = λ k. refl; changes = λ k. refl; behind = λ i h. refl }

pub linked_trans : {a b c : List ℕ} → Linked a b → Linked b c → Linked a c
linked_trans {a} {b} {c} L M =
    record {
      long = M.long ∙ L.long;
      count = M.count ∙ L.count;
      opens = M.opens ∙ L.opens;
      gauged = M.gauged ∙ L.gauged;
      nodes = λ k. M.nodes k ∙ L.nodes k;
      changes = λ k. M.changes k ∙ L.changes k;
      behind = λ i h. M.behind i (omega (arith, L.count)) ∙ L.behind i h;
    }

set_other : {net' : List ℕ} (net : List ℕ) (i x : ℕ) → net' ≡ set net i x → (j : ℕ) → (j ≡ i → ⊥) → get_or net' j 0 ≡ get_or net j 0
set_other net i x is j h = ap (λ (l : List ℕ). get_or l j 0) is ∙ get_or-set_other net i j x 0 h

-- one word, before the places behind the frames
linked_set : {net net' : List ℕ} (i x : ℕ) → 3 ≤ i → i < first_word (frames_of net) → net' ≡ set net i x → ((k : ℕ) → packed net' k ≡ packed net k)
    → ((k : ℕ) → changed net' k ≡ changed net k) → Linked net net'
linked_set {net} {net'} i x a b is nodes changes =
    record {
      long = ap length is ∙ simp length-set;
      count = set_other net i x is 0 (λ q. omega arith);
      opens = set_other net i x is 1 (λ q. omega arith);
      gauged = set_other net i x is 2 (λ q. omega arith);
      nodes = nodes;
      changes = changes;
      behind = λ j l. set_other net i x is j (λ q. omega arith);
    }

-- the first word of a node, with the same low part
pub linked_relink : {net net' : List ℕ} (k w : ℕ) → Ground net → k < frames_of net → low_part w ≡ low_part (get_or net (first_word k) 0)
    → net' ≡ set net (first_word k) w → Linked net net'
unfolding packed changed
linked_relink {net} {net'} k w G l e is =
    linked_set (first_word k) w (omega arith) (omega arith) is
    (λ j. by_bool (eqb j k)
    (λ q. rw (eqb-true j k q) (ap₂ unpack here (other (second_word k) (λ z. omega arith))
    ∙ unpack-low w (get_or net (first_word k) 0) (get_or net (second_word k) 0) e))
    (λ q. ap₂ unpack (other (first_word j) (λ z. omega tests)) (other (second_word j) (λ z. omega arith))))
    (λ j. by_bool (eqb j k)
    (λ q. rw (eqb-true j k q) (ap (λ (y : ℕ). ltb 7 (y % 16)) here ∙ rw (low-changed w, low-changed (get_or net (first_word k) 0), e)))
    (λ q. ap (λ (y : ℕ). ltb 7 (y % 16)) (other (first_word j) (λ z. omega tests))))
  where
    other : (i : ℕ) → (i ≡ first_word k → ⊥) → get_or net' i 0 ≡ get_or net i 0
    other = set_other net (first_word k) w is

    here : get_or net' (first_word k) 0 ≡ w
    here = ap (λ (r : List ℕ). get_or r (first_word k) 0) is ∙ get_or-set_same net (first_word k) w 0 (omega (arith, G.room))

-- the link of a variable
pub linked_reader : {net net' : List ℕ} (i x : ℕ) → 3 ≤ i → i < 67 → net' ≡ set net i x → Linked net net'
unfolding packed changed
linked_reader {net} {net'} i x a b is =
    linked_set i x a (omega arith) is
    (λ j. ap₂ unpack (set_other net i x is (first_word j) (λ z. omega arith)) (set_other net i x is (second_word j) (λ z. omega arith)))
    (λ j. ap (λ (y : ℕ). ltb 7 (y % 16)) (set_other net i x is (first_word j) (λ z. omega arith)))

-- ---- what stays

module _ {net net' : List ℕ} (L : Linked net net') where
  linked_same : packed net' ≡ packed net
  linked_same = fun_ext L.nodes

  pub linked_formula : (k : ℕ) → formula_at net' k ≡ formula_at net k
  linked_formula k = ap (λ (N : Net). meaning N k) linked_same

pub linked_ground : {net net' : List ℕ} → Ground net → Linked net net' → Ground net'
linked_ground {net} {net'} G L =
    record {
      ordered = rw (linked_same L) G.ordered;
      ranged = λ k. rw (form_same net net' L.long, L.nodes k) (G.ranged k);
      distinct = rw (linked_same L) G.distinct;
      room = omega (arith, G.room, L.long, L.count);
      few = omega (arith, G.few, L.long);
    }

pub linked_net : {s : Sheet} {net net' : List ℕ} → Linked net net' → NetOf s net → NetOf s net'
linked_net {s} {net} {net'} L N =
    record {
      grounded = linked_ground N.grounded L;
      long = L.long ∙ N.long;
      count = L.count ∙ N.count;
      opens = L.opens ∙ N.opens;
      bounded = N.bounded;
      each = λ k h q. rw (linked_formula L k) (N.each k h (sym (L.changes k) ∙ q));
      ends = rw (linked_formula L (last s)) N.ends;
      gauged = L.gauged ∙ N.gauged;
      clear = rw (linked_same L, L.opens) N.clear;
      empty = λ i h. L.behind i (omega (arith, L.count)) ∙ N.empty i (omega (arith, L.count));
    }
