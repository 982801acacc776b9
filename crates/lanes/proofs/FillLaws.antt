-- How a node's row follows from those of the nodes that it names, and how variables get positions. Assumes nothing.
use Rattle.std.specs.Prelude.{ℕ, zero, suc, ◌+◌, ◌*◌, ◌≤◌, ◌<◌, ◌≡◌, refl, Bool, true, false, not, List, eqb, ltb, length, get_or, set, replicate}
use Rattle.std.proofs.Common.{arith, sym, ◌∙◌, ap, subst, inl, inr, eqb-true, lt-ltb, le-ltb}
use Rattle.std.proofs.Math.ListN.{length-set}
use Rattle.std.proofs.Math.Seq.{get_or-set_same, get_or-set_other}
use Rattle.std.specs.Int.Bits.{bit_and, bit_or}
use Rattle.words.specs.Logic.{tests}
use Rattle.words.proofs.Logic.{by_bool, clash}
use Rattle.words.specs.Word.{bit}
use Rattle.words.proofs.Bits.{bit-none}
use Rattle.formula.specs.Formula.{Formula, input, neg, gate}
use Rattle.formula.specs.Reason.{Explains}
use Rattle.formula.proofs.Reason.{explains_neg}
use Rattle.formula.proofs.ReasonWord.{word-never, word-input}
use Rattle.net.specs.Layout.{formula_at, Ground, Is, val, f_fixed, f-true, f-reads, f_flips, f-joins, is_flips, is-joins, is-binds}
use Rattle.judge.specs.Cells.{value_of, reason_of}
use Rattle.judge.specs.Judge.{Judged}
use Rattle.lanes.specs.Lanes.{Positions, place, Says, ones, Flipped, Joint}
use Rattle.lanes.proofs.LanesLaws.{bit-all, joint_and, joint_or, says_known, says_nothing, says_neg, says_lane_input, says_left, says_right, says_both}
use Rattle.lanes.specs.Marks.{marked, Marked, Founded, Closed}
use Rattle.lanes.proofs.MarksLaws.{founded_map}
use Rattle.lanes.specs.Fill.{Row, HasRow, RowWords, stored, RowAt, Ripe, Added, Filled, full_if, Constant, InputRow, Chosen, Rested, Seated}

-- ---- each kind of formula

full-bits : (b : Bool) (l : ℕ) → l < 64 → bit (full_if b) l ≡ b
full-bits true l h = bit-all l h
full-bits false l h = bit-none l

constant_row : {f : Formula} {ps : List ℕ} {w r z o t : ℕ} (b : Bool) → Explains f b (bit r) (bit w) → Constant b r z o t → Row f ps w z o t
constant_row true E C = record {
  zero = rw (C.word, C.zero) (says_nothing false (λ l h. bit-all l h));
  one = rw (C.word, C.one) (says_known true E);
}
constant_row false E C = record {
  zero = rw (C.word, C.zero) (says_known false E);
  one = rw (C.word, C.one) (says_nothing true (λ l h. bit-none l));
}

input_row : {ps : List ℕ} {w x z o t : ℕ} → InputRow ps w x z o t → Row (input x) ps w z o t
input_row {ps} {w} {x} I = by_bool (ltb (place ps x) 6)
    (λ q. let i = I.lane (omega tests) in record {
      zero = rw i.0 (says_lane_input w false refl (omega tests) refl i.2);
      one = rw i.1 (says_lane_input w true refl (omega tests) refl i.2);
    })
    (λ q. constant_row (bit w x) (word-input x (bit w)) (I.fixed (omega tests)))

neg_row : {f : Formula} {ps : List ℕ} {w z o t z' o' t' : ℕ} → Row f ps w z o t → z' ≡ o → o' ≡ z → Flipped t t' → Row (neg f) ps w z' o' t'
neg_row R h i F = record { zero = rw h (says_neg R.one F); one = rw i (says_neg R.zero F) }

module _ {f g : Formula} {π : Positions} {w r p q u t z : ℕ} {d v : Bool} (L : Says f v π w r p) (M : Says g v π w q u) (J : Joint d p u t) where
  side_chosen : v ≡ d → Chosen t p r u q z → Says (gate d f g) v π w z t
  side_chosen e (inl (h, i)) = rw (h, i, e) (says_left (rw e at L))
  side_chosen e (inr (inl (h, i))) = rw (h, i, e) (says_right (rw e at M))
  side_chosen e (inr (inr i)) = rw i (says_both L M J)

  side_rested : not v ≡ d → Rested t (full_if d) r q z → Says (gate d f g) v π w z t
  side_rested e (inl (h, i)) = rw (i, h) (says_nothing v (λ l j. full-bits d l j ∙ sym e))
  side_rested e (inr i) = rw i (says_both L M J)

module _ {f g : Formula} {ps : List ℕ} {w z o t z' o' t' a b c : ℕ} (R : Row f ps w z o t) (Q : Row g ps w z' o' t') where
  and_row : c ≡ bit_and t t' → Chosen c t z t' z' a → Rested c 0 o o' b → Row (gate false f g) ps w a b c
  and_row h C S =
      let j : Joint false t t' c = rw h (joint_and t t') in
      record { zero = side_chosen R.zero Q.zero j refl C; one = side_rested R.one Q.one j refl S }

  or_row : c ≡ bit_or t t' → Chosen c t o t' o' b → Rested c ones z z' a → Row (gate true f g) ps w a b c
  or_row h C S =
      let j : Joint true t t' c = rw h (joint_or t t') in
      record { one = side_chosen R.one Q.one j refl C; zero = side_rested R.zero Q.zero j refl S }

-- ---- each kind of node, from the code's tests

pub row_at : {net ps rows : List ℕ} {w k z o t : ℕ} → RowAt net ps w rows k → RowWords rows k z o t → Row (formula_at net k) ps w z o t
row_at A r = rw (r.word, r.zero, r.one) A.row

-- a value that is known
pub row_known : {net cells ps : List ℕ} {m w v r z o t : ℕ} (k : ℕ) → Judged net m w cells → v ≡ value_of cells k → r ≡ reason_of cells k → 0 < v
    → Constant (val v) r z o t → Row (formula_at net k) ps w z o t
row_known {net} {w = w} {v = v} {r = r} k K e i h C =
    constant_row (val v) (subst (λ (y : ℕ). Explains (formula_at net k) (val y) (bit r) (bit w)) (sym e) (rw i (K.each k (rw (sym e) h)).explains)) C

module _ {net : List ℕ} {k op left right mask : ℕ} (G : Ground net) (I : Is net k op left right mask) where
  pub row_fixed : {ps : List ℕ} {w z o t : ℕ} {b : Bool} → op < 2 → b ≡ eqb op 1 → Constant b 0 z o t → Row (formula_at net k) ps w z o t
  row_fixed {w = w} h e C = by_bool (eqb op 1)
      (λ q. constant_row true (rw (f-true G I (omega tests)) (explains_neg (word-never (bit w)))) (rw (e, q) at C))
      (λ q. constant_row false (rw (f_fixed G I (omega tests)) (word-never (bit w))) (rw (e, q) at C))

  pub row_reads : {ps : List ℕ} {w z o t x : ℕ} → op ≡ 2 → x ≡ left → InputRow ps w x z o t → Row (formula_at net k) ps w z o t
  row_reads e h i = rw (f-reads G I e) (input_row (rw h at i))

  module _ {ps rows : List ℕ} {w : ℕ} (F : Founded (RowAt net ps w rows) net k) where
    pub plain : op < 6
    plain = by_bool (ltb op 6) (λ e. omega tests) (λ e. absurd (rw (is-binds G I (omega tests)) at F.names))

    pub row_flips : {z o t z₁ o₁ t₁ : ℕ} → op ≡ 3 → RowWords rows left z₁ o₁ t₁ → z ≡ o₁ → o ≡ z₁ → Flipped t₁ t → Row (formula_at net k) ps w z o t
    row_flips e r h i f = rw (f_flips G I e) (neg_row (row_at (rw (is_flips G I e) at F.names) r) h i f)

    module _ {z o t z₁ o₁ t₁ z₂ o₂ t₂ : ℕ} (r : RowWords rows left z₁ o₁ t₁) (q : RowWords rows right z₂ o₂ t₂) where
      pub row_and : op ≡ 4 → t ≡ bit_and t₁ t₂ → Chosen t t₁ z₁ t₂ z₂ z → Rested t 0 o₁ o₂ o → Row (formula_at net k) ps w z o t
      unfolding val
      row_and e h C S =
          let p = rw (is-joins G I (omega arith) (omega arith)) at F.names in
          rw (f-joins G I {d = 1} (omega arith) (omega arith) (omega arith)) (and_row (row_at p.0 r) (row_at p.1 q) h C S)

      pub row_or : op ≡ 5 → t ≡ bit_or t₁ t₂ → Chosen t t₁ o₁ t₂ o₂ o → Rested t ones z₁ z₂ z → Row (formula_at net k) ps w z o t
      unfolding val
      row_or e h C S =
          let p = rw (is-joins G I (omega arith) (omega arith)) at F.names in
          rw (f-joins G I {d = 2} (omega arith) (omega arith) (omega arith)) (or_row (row_at p.0 r) (row_at p.1 q) h C S)

-- ---- the words of rows

module _ (rows : List ℕ) (k z o t : ℕ) where
  stored-long : length (stored rows k z o t) ≡ length rows
  unfolding stored
  stored-long = rw (length-set, length-set, length-set)

  before-word : (at : ℕ) → at < 3 * k → get_or (stored rows k z o t) at 0 ≡ get_or rows at 0
  unfolding stored
  before-word at h =
      get_or-set_other (set (set rows (3 * k) t) (3 * k + 1) z) (3 * k + 2) at o 0 (λ e. omega arith)
      ∙ get_or-set_other (set rows (3 * k) t) (3 * k + 1) at z 0 (λ e. omega arith)
      ∙ get_or-set_other rows (3 * k) at t 0 (λ e. omega arith)

  module _ (h : HasRow rows k) where
    word-here : get_or (stored rows k z o t) (3 * k) 0 ≡ t
    unfolding stored
    word-here =
        get_or-set_other (set (set rows (3 * k) t) (3 * k + 1) z) (3 * k + 2) (3 * k) o 0 (λ e. omega arith)
        ∙ get_or-set_other (set rows (3 * k) t) (3 * k + 1) (3 * k) z 0 (λ e. omega arith)
        ∙ get_or-set_same rows (3 * k) t 0 (omega arith)

    zero-here : get_or (stored rows k z o t) (3 * k + 1) 0 ≡ z
    unfolding stored
    zero-here =
        get_or-set_other (set (set rows (3 * k) t) (3 * k + 1) z) (3 * k + 2) (3 * k + 1) o 0 (λ e. omega arith)
        ∙ get_or-set_same (set rows (3 * k) t) (3 * k + 1) z 0 (rw length-set (omega arith))

    one-here : get_or (stored rows k z o t) (3 * k + 2) 0 ≡ o
    unfolding stored
    one-here = get_or-set_same (set (set rows (3 * k) t) (3 * k + 1) z) (3 * k + 2) o 0 (rw (length-set, length-set) h)

pub added : {net ps rows rows' : List ℕ} {w k z o t : ℕ} → rows' ≡ stored rows k z o t → HasRow rows k → Row (formula_at net k) ps w z o t → Added net ps w k rows rows'
added {rows = rows} {k = k} {z = z} {o = o} {t = t} e h R = rw e (record {
  here = record { row = rw (word-here rows k z o t h, zero-here rows k z o t h, one-here rows k z o t h) R };
  before = λ i l A. record {
    row = rw (before-word rows k z o t (3 * i) (omega arith), before-word rows k z o t (3 * i + 1) (omega arith), before-word rows k z o t (3 * i + 2) (omega arith)) A.row;
  };
  long = stored-long rows k z o t;
})

-- ---- upwards

pub filled_none : {net ps ms rows : List ℕ} {w n : ℕ} → n ≡ 0 → Filled net ps w ms rows n
filled_none e = record { each = λ i h m. absurd (omega arith) }

module _ {net ps ms rows : List ℕ} {w k : ℕ} (F : Filled net ps w ms rows k) where
  -- a node that is not marked
  pub filled_skip : {n : ℕ} → n ≡ suc k → marked ms k ≡ false → Filled net ps w ms rows n
  filled_skip e u = record {
    each = λ i h m. by_bool (eqb i k) (λ q. clash (marked ms i) m (ap (marked ms) (eqb-true i k q) ∙ u)) (λ q. F.each i (omega tests) m);
  }

  pub filled_next : {rows' : List ℕ} {n : ℕ} → n ≡ suc k → Added net ps w k rows rows' → Filled net ps w ms rows' n
  filled_next e A = record {
    each = λ i h m. by_bool (eqb i k) (λ q. rw (eqb-true i k q) A.here) (λ q. A.before i (omega tests) (F.each i (omega tests) m));
  }

  -- the nodes that a marked node names have their rows
  pub filled_ripe : {cells : List ℕ} {a : ℕ} → Ground net → Closed net cells ms 0 a → k ≤ a → Marked ms k → Ripe net cells ps w rows k
  filled_ripe G C l m e = founded_map G (C.each k (omega arith) l m e) F.each

-- ---- the positions

place-past : (ps : List ℕ) (x : ℕ) → 64 ≤ x → place ps x ≡ 6
unfolding place
place-past ps x h = rw (le-ltb x 64 h)

pub place_is : (ps : List ℕ) (x : ℕ) {p : ℕ} → x < 64 → p ≡ get_or ps x 0 → place ps x ≡ p
unfolding place
place_is ps x h e = rw (lt-ltb x 64 h) (sym e)

abbrev six : ℕ
six = 6

sixes : (n k : ℕ) → k < n → get_or (replicate n six) k 0 ≡ six
sixes zero k h = absurd (omega arith)
sixes (suc n) zero h = refl
sixes (suc n) (suc k) h = sixes n k (omega arith)

pub seated_none : {ps : List ℕ} {top : ℕ} (m : ℕ) → ps ≡ replicate 64 6 → Seated ps m top
unfolding place
seated_none {ps} m e = record {
  long = ap length e ∙ refl;
  distinct = record { same = λ x y h i. absurd (omega (arith, h, no-seat x)); past = λ x h. omega (arith, no-seat x) };
  above = λ x h. absurd (omega (arith, h, no-seat x));
  among = λ x h. absurd (omega (arith, h, no-seat x));
}
  where
    no-seat : (x : ℕ) → place ps x ≡ 6
    no-seat x = by_bool (ltb x 64) (λ q. rw q (ap (λ (z : List ℕ). get_or z x 0) e ∙ sixes 64 x (omega tests))) (λ q. rw q)

place-set-same : (ps : List ℕ) (x p : ℕ) → length ps ≡ 64 → x < 64 → place (set ps x p) x ≡ p
unfolding place
place-set-same ps x p l h = rw (lt-ltb x 64 h) (get_or-set_same ps x p 0 (omega arith))

place-set-other : (ps : List ℕ) (x p k : ℕ) → eqb k x ≡ false → place (set ps x p) k ≡ place ps k
unfolding place
place-set-other ps x p k e = rw (get_or-set_other ps x k p 0 (λ c. omega tests))

pub seated_set : {ps : List ℕ} {m top x p : ℕ} → Seated ps m top → x < 64 → suc p ≡ top → top ≤ 6 → bit m x ≡ true → Seated (set ps x p) m p
seated_set {ps} {m} {top} {x} {p} S h e l b = record {
  long = length-set ps x p ∙ S.long;
  distinct = record {
    same = λ y z i q. by_bool (eqb y x)
        (λ u. by_bool (eqb z x)
        (λ v. eqb-true y x u ∙ sym (eqb-true z x v))
        (λ v. let c = place-set-other ps x p z v in absurd (omega (arith, q, c, at y u, S.above z (omega (arith, q, c, at y u))))))
        (λ u. let d = place-set-other ps x p y u in by_bool (eqb z x)
        (λ v. absurd (omega (arith, q, d, at z v, S.above y (omega (arith, d, i)))))
        (λ v. let c = place-set-other ps x p z v in S.distinct.same y z (omega (arith, d, i)) (sym d ∙ q ∙ c)));
    past = λ y i. omega (arith, place-past (set ps x p) y i);
  };
  above = λ y i. by_bool (eqb y x) (λ u. omega (arith, at y u)) (λ u. let d = place-set-other ps x p y u in omega (arith, d, S.above y (omega (arith, d, i))));
  among = λ y i. by_bool (eqb y x) (λ u. rw (eqb-true y x u) b) (λ u. let d = place-set-other ps x p y u in S.among y (omega (arith, d, i)));
}
  where
    at : (y : ℕ) → eqb y x ≡ true → place (set ps x p) y ≡ p
    at y u = ap (place (set ps x p)) (eqb-true y x u) ∙ place-set-same ps x p S.long h

pub seated_some : {ps : List ℕ} {m top : ℕ} → Seated ps m top → Seated ps m 0
seated_some S = record { long = S.long; distinct = S.distinct; above = λ x h. omega arith; among = S.among }
