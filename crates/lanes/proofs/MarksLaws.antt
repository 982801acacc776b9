-- Marking a node changes nothing else; what is closed stays so when a node's names are marked. Assumes nothing.
use Rattle.std.specs.Prelude.{ℕ, suc, ◌*◌, ◌/◌, ◌%◌, ◌^◌, ◌≤◌, ◌<◌, ◌≡◌, refl, Bool, true, false, ◌||◌, List, eqb, length, get_or, set}
use Rattle.std.proofs.Common.{arith, sym, ◌∙◌, ap, length-set, get_or-set_same, get_or-set_other, eqb-true, eq-eqb, ne_eqb}
use Rattle.std.specs.Int.Bits.{bit_or}
use Rattle.words.specs.Logic.{tests}
use Rattle.words.proofs.Logic.{by_bool, clash, or_left, or_right, same_test}
use Rattle.words.specs.Word.{bit}
use Rattle.words.proofs.Bits.{bit-or, bit-pow}
use Rattle.net.specs.Net.{Node, Fixed, Reads, Flips, Joins, Binds, Fit, node_fixed}
use Rattle.net.specs.Layout.{packed, Ground, Is, is-reads, is_flips, is-joins, flips_below, joins-left, joins-right}
use Rattle.imply.specs.Halves.{or-none}
use Rattle.lanes.specs.Marks.{marked, joined, Raised, Names, Founded, Marked, Spread, Closed}

-- ---- one more node

pub joined-long : (ms : List ℕ) (k : ℕ) → length (joined ms k) ≡ length ms
unfolding joined
joined-long ms k = length-set ms _ _

pub joined-marked : (ms : List ℕ) (k i : ℕ) → k < 64 * length ms → marked (joined ms k) i ≡ marked ms i || eqb i k
unfolding marked joined
joined-marked ms k i h = by_bool (eqb (i / 64) (k / 64)) same other
  where
    word : ℕ
    word = bit_or (get_or ms (k / 64) 0) (2 ^ (k % 64))

    same : eqb (i / 64) (k / 64) ≡ true → bit (get_or (set ms (k / 64) word) (i / 64) 0) (i % 64) ≡ bit (get_or ms (i / 64) 0) (i % 64) || eqb i k
    same e =
        let q = eqb-true (i / 64) (k / 64) e in
        let z : eqb (i % 64) (k % 64) ≡ eqb i k = same_test _ _ (λ y. eq-eqb i k (omega (tests, q, y))) (λ y. eq-eqb (i % 64) (k % 64) (omega (tests, y))) in
        rw (q, get_or-set_same ms (k / 64) word 0 (omega arith), bit-or, bit-pow) (ap (λ (y : Bool). bit (get_or ms (k / 64) 0) (i % 64) || y) z)

    other : eqb (i / 64) (k / 64) ≡ false → bit (get_or (set ms (k / 64) word) (i / 64) 0) (i % 64) ≡ bit (get_or ms (i / 64) 0) (i % 64) || eqb i k
    other e =
        let n : eqb i k ≡ false = ne_eqb i k (λ z. clash (eqb (i / 64) (k / 64)) (eq-eqb _ _ (ap (λ (y : ℕ). y / 64) z)) e) in
        rw (get_or-set_other ms (k / 64) (i / 64) word 0 (λ z. omega (tests, e, z))) (sym (or-none (bit (get_or ms (i / 64) 0) (i % 64)) (eqb i k) n))

pub joined-here : (ms : List ℕ) (k : ℕ) → k < 64 * length ms → Marked (joined ms k) k
joined-here ms k h = joined-marked ms k k h ∙ or_right (marked ms k) (eqb k k) (eq-eqb k k refl)

-- ---- more below k

pub raised_none : (k : ℕ) (ms : List ℕ) → Raised k ms ms
raised_none k ms = record { long = refl; kept = λ i e. e; above = λ i h. refl }

pub raised_more : {k x : ℕ} {ms ms' : List ℕ} → Raised k ms ms' → x < k → x < 64 * length ms' → Raised k ms (joined ms' x)
raised_more {k} {x} {ms} {ms'} R h l = record {
  long = joined-long ms' x ∙ R.long;
  kept = λ i e. joined-marked ms' x i l ∙ or_left (marked ms' i) (eqb i x) (R.kept i e);
  above = λ i j. joined-marked ms' x i l ∙ or-none (marked ms' i) (eqb i x) (ne_eqb i x (λ e. omega arith)) ∙ R.above i j;
}

-- ---- what a node names

names-map : (P Q : ℕ → Type 0) {k : ℕ} (u : Node) → Fit k u → ((i : ℕ) → i < k → P i → Q i) → Names P u → Names Q u
names-map P Q (Fixed b) h f p = tt
names-map P Q (Reads x) h f p = tt
names-map P Q (Flips x) h f p = f x h p
names-map P Q (Joins d x y) h f p = (f x h.0 p.0, f y h.1 p.1)
names-map P Q (Binds d m x) h f p = p

pub founded_map : {P Q : ℕ → Type 0} {net : List ℕ} {k : ℕ} → Ground net → Founded P net k → ((i : ℕ) → i < k → P i → Q i) → Founded Q net k
founded_map {P} {Q} {net} {k} G F f = record { names = names-map P Q (packed net k) (G.ordered.fit k) f F.names }

module _ {P : ℕ → Type 0} {net : List ℕ} {k op left right mask : ℕ} (G : Ground net) (I : Is net k op left right mask) where
  pub founded_fixed : op < 2 → Founded P net k
  founded_fixed h = record { names = rw (I.node ∙ node_fixed op left right mask h) tt }

  pub founded_reads : op ≡ 2 → Founded P net k
  founded_reads h = record { names = rw (is-reads G I h) tt }

  pub founded_flips : op ≡ 3 → P left → Founded P net k
  founded_flips h p = record { names = rw (is_flips G I h) p }

  pub founded_joins : 4 ≤ op → op < 6 → P left → P right → Founded P net k
  founded_joins h l p q = record { names = rw (is-joins G I h l) (p, q) }

-- as the code marks them
module _ {net ms' : List ℕ} {k op left right mask : ℕ} (G : Ground net) (I : Is net k op left right mask) (ms : List ℕ) (h : k < 64 * length ms) (e : ms' ≡ joined ms left) where
  left_raised : left < k → Raised k ms ms'
  left_raised l = rw e (raised_more (raised_none k ms) l (omega arith))

  left-marked : left < k → Marked ms' left
  left-marked l = rw e (joined-here ms left (omega arith))

  pub spread_flips : op ≡ 3 → Raised k ms ms' × Founded (Marked ms') net k
  spread_flips z = let l = flips_below G I z in (left_raised l, founded_flips G I z (left-marked l))

  pub spread-joins : {ms'' : List ℕ} → ms'' ≡ joined ms' right → 4 ≤ op → op < 6 → Raised k ms ms'' × Founded (Marked ms'') net k
  spread-joins {ms''} q y z =
      let l = joins-left G I y z in
      let r = joins-right G I y z in
      let R = left_raised l in
      let n : right < 64 * length ms' = omega (arith, R.long) in
      let m : Marked ms'' left = rw q ((raised_more (raised_none k ms') r n).kept left (left-marked l)) in
      (rw q (raised_more R r n), founded_joins G I y z m (rw q (joined-here ms' right n)))

-- ---- downwards

pub closed_start : {net cells ms : List ℕ} {k a : ℕ} → k ≡ suc a → Marked ms a → Closed net cells ms k a
closed_start e m = record { top = m; each = λ i h j. absurd (omega arith) }

module _ {net cells ms : List ℕ} {k a : ℕ} where
  -- a node that is not marked
  pub closed_skip : {above : ℕ} → above ≡ suc k → Closed net cells ms above a → marked ms k ≡ false → Closed net cells ms k a
  closed_skip e C n = record {
    top = C.top;
    each = λ i h j m. by_bool (eqb i k) (λ q. clash (marked ms i) m (ap (marked ms) (eqb-true i k q) ∙ n)) (λ q. C.each i (omega tests) j m);
  }

  -- a node whose names are marked now
  pub closed_next : {above : ℕ} {ms' : List ℕ} → Ground net → above ≡ suc k → Closed net cells ms above a → k ≤ a → Raised k ms ms' → Spread net cells ms' k
      → Closed net cells ms' k a
  closed_next {ms' = ms'} G e C l R S = record {
    top = R.kept a C.top;
    each = λ i h j m. by_bool (eqb i k)
        (λ q. rw (eqb-true i k q) S)
        (λ q z. founded_map G (C.each i (omega tests) j (sym (R.above i h) ∙ m) z) (λ x b. R.kept x));
  }

-- every node has been looked at
pub closed_all : {net cells ms : List ℕ} {k a : ℕ} → Closed net cells ms k a → k ≤ 0 → Closed net cells ms 0 a
closed_all C h = record { top = C.top; each = λ i l. C.each i (omega arith) }
