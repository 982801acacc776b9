-- Judging is right: each kind of node, from what is known of the nodes that it names; and what is known stays so. Assumes nothing.
use Rattle.std.specs.Prelude.{ℕ, ◌+◌, ◌-◌, ◌≤◌, ◌<◌, ◌≡◌, refl, Bool, true, false, not, ◌⊎◌, List, length, replicate, eqb, ltb}
use Rattle.std.proofs.Common.{arith, sym, ◌∙◌, ap, inl, inr, eqb-true}
use Rattle.std.proofs.Math.Bool.{and-true}
use Rattle.std.proofs.lemmas.List.{length-replicate}
use Rattle.std.specs.Int.Bits.{bit_or}
use Rattle.std.proofs.lemmas.Bool.{eqb-false}
use Rattle.words.specs.Logic.{tests}
use Rattle.words.proofs.Logic.{by_bool, clash}
use Rattle.words.specs.Word.{bit}
use Rattle.words.specs.Mask.{Sub, Apart, without}
use Rattle.words.proofs.Mask.{bit-without, or-sub, none-sub, one-sub, sub-bits, bits_sub, bits_apart, sub_trans, sub_refl, without_sub, sub-without}
use Rattle.cube.specs.Cube.{Fixed}
use Rattle.cube.proofs.CubeLaws.{replaced_other}
use Rattle.formula.proofs.Reason.{explains_neg, gate-left, gate-right, explains_set}
use Rattle.formula.proofs.ReasonWord.{word-never, word-input, word-both}
use Rattle.net.specs.Stands.{mask_decided, mask-undecided}
use Rattle.net.specs.Layout.{formula_at, Ground, Is, val, val-not, val_flip, decides, decides-some, decides-low, f_fixed, f-true, f-reads, f_flips, f-joins, f-binds}
use Rattle.judge.specs.Cells.{HasCell, value_of, reason_of, Vacant, Stored, end}
use Rattle.judge.specs.CellLaws.{stored-long, stored-value, stored-reason, other-value, other-reason, blank-value, trail_put}
use Rattle.judge.specs.Judge.{Forced, Right, Judged, Negated, Joined, Bound, RightInput, RightLeaf, Judging}

-- ---- each kind of node

module _ {net : List ℕ} {k op left right mask m w : ℕ} (G : Ground net) (I : Is net k op left right mask) where
  right-false : op ≡ 0 → Right net m w k 1 0
  unfolding val
  right-false e l = record { low = omega arith; explains = rw (f_fixed G I e) (word-never (bit w)); assigned = none-sub m }

  right-true : op ≡ 1 → Right net m w k 2 0
  unfolding val
  right-true e l = record { low = omega arith; explains = rw (f-true G I e) (explains_neg (word-never (bit w))); assigned = none-sub m }

  right-input : {x v r : ℕ} → op ≡ 2 → x ≡ left → RightInput m w x v r → Right net m w k v r
  right-input {x} e h i l =
      let f = i l in
      record {
        low = f.low;
        explains = rw (f-reads G I e, f.value, f.reason, ← h) (word-input x (bit w));
        assigned = rw f.reason (one-sub x f.assigned);
      }

  pub right_leaf : {v r : ℕ} → op < 3 → RightLeaf op left m w v r → Right net m w k v r
  right_leaf {v} {r} h L = by (eqb op 0) (eqb op 1) refl refl
    where
      by : (p q : Bool) → eqb op 0 ≡ p → eqb op 1 ≡ q → Right net m w k v r
      by true q e f = let z = L.never (eqb-true op 0 e) in rw (z.0, z.1) (right-false (eqb-true op 0 e))
      by false true e f = let z = L.always (eqb-true op 1 f) in rw (z.0, z.1) (right-true (eqb-true op 1 f))
      by false false e f = let two : op ≡ 2 = omega (arith, eqb-false op 0 e, eqb-false op 1 f, h) in right-input two refl (L.reads two)

  pub right-not : {y p v r : ℕ} → op ≡ 3 → Right net m w left y p → Negated y p v r → Right net m w k v r
  right-not {y} {p} {v} {r} e i n l =
      let f = i (n.known l) in
      let c : val v ≡ not (val y) = ap val (n.value l) ∙ val_flip y (n.known l) f.low in
      record {
        low = omega (arith, n.value l, n.known l);
        explains = rw (f_flips G I e, c, n.reason l) (explains_neg f.explains);
        assigned = rw (n.reason l) f.assigned;
      }

  pub right-gate : {d vx p vy q v r : ℕ} → 4 ≤ op → op < 6 → d ≡ op - 3 → Right net m w left vx p → Right net m w right vy q → Joined d vx p vy q v r
      → Right net m w k v r
  right-gate {d} {vx} {p} {vy} {q} {v} {r} h h' ed i j c l = by (c l)
    where
      by : ((vx ≡ d) × (v ≡ d) × (r ≡ p)) ⊎ (((vy ≡ d) × (v ≡ d) × (r ≡ q)) ⊎ ((vx ≡ v) × (vy ≡ v) × (r ≡ bit_or p q))) → Forced net m w k v r
      by (inl (e, z, y)) =
          let f = rw e at (i (omega arith)) in
          rw (z, y) (record { low = f.low; explains = rw (f-joins G I h h' ed) (gate-left (formula_at net right) f.explains); assigned = f.assigned })
      by (inr (inl (e, z, y))) =
          let f = rw e at (j (omega arith)) in
          rw (z, y) (record { low = f.low; explains = rw (f-joins G I h h' ed) (gate-right (formula_at net left) f.explains); assigned = f.assigned })
      by (inr (inr (e, z, y))) =
          let f = rw e at (i (omega arith)) in
          let t = rw z at (j (omega arith)) in
          rw y (record { low = f.low; explains = rw (f-joins G I h h' ed) (word-both (val d) p q f.explains t.explains); assigned = or-sub f.assigned t.assigned })

  pub right-binds : {d x p v r : ℕ} → 6 ≤ op → d ≡ decides op → Right net m w left x p → Bound d mask x p v r → Right net m w k v r
  right-binds {d} {x} {p} {v} {r} h ed i b l = by (b l)
    where
      by : ((x ≡ d) × (v ≡ d) × (r ≡ without p mask)) ⊎ ((0 < x) × ((x ≡ d → ⊥) × ((v ≡ x) × ((r ≡ p) × Apart p mask)))) → Forced net m w k v r
      by (inl (e, z, y)) =
          let f = rw (e, ed) at (i (omega arith)) in
          rw (z, y, ed) (record {
            low = f.low;
            explains = rw (f-binds G I h) (mask_decided (val (decides op)) mask p f.explains);
            assigned = sub_trans (without_sub p mask) f.assigned;
          })
      by (inr (g, (n, (z, (y, a))))) =
          let f = i g in
          let c : val x ≡ not (val (decides op)) = val-not x (decides op) g f.low (decides-some op) (decides-low op) (rw ed at n) in
          rw (z, y) (record { low = f.low; explains = rw (f-binds G I h, c) (mask-undecided (val (decides op)) mask p (rw c at f.explains) a); assigned = f.assigned })

-- ---- the cells

pub right-low : {net : List ℕ} {m w k v r : ℕ} → Right net m w k v r → v < 3
right-low {v = v} f = by_bool (ltb 0 v) (λ e. (f (omega tests)).low) (λ e. omega tests)

module _ {net : List ℕ} {m w : ℕ} {cells : List ℕ} where
  pub judged-at : {k v r : ℕ} → Judged net m w cells → v ≡ value_of cells k → r ≡ reason_of cells k → Right net m w k v r
  judged-at {k} j p q = rw (p, q) (j.each k)

  pub judged-set : {k v r head head' : ℕ} {cells' : List ℕ} → HasCell cells k → Judged net m w cells → Right net m w k v r → Stored k v r head cells cells' head' → Judged net m w cells'
  judged-set {k} {v} {r} h j f S = record {
    long = rw (stored-long S) j.long;
    each = λ i. by_bool (eqb i k)
        (λ e. rw (eqb-true i k e, stored-value S h (right-low f), stored-reason S h) f)
        (λ e. rw (other-value S i (eqb-false i k e), other-reason S i (eqb-false i k e)) (j.each i));
  }

-- nothing is known at the start
pub judged-none : {net : List ℕ} {m w : ℕ} {cells : List ℕ} (n : ℕ) → cells ≡ replicate n 0 → length net ≤ 67 + n → Judged net m w cells
judged-none n e l = record {
  long = rw (e, length-replicate) l;
  each = λ k y. absurd (omega (arith, y, blank-value n e k));
}

-- ---- what is known stays so

-- when more is assigned
pub judged-more : {net : List ℕ} {m w m' w' : ℕ} {cells : List ℕ} → Sub m m' → ((k : ℕ) → bit m k ≡ true → bit w k ≡ bit w' k) → Judged net m w cells → Judged net m' w' cells
judged-more {w' = w'} s e j = record {
  long = j.long;
  each = λ k v.
      let f = j.each k v in
      record {
        low = f.low;
        explains = explains_set f.explains (bit w') (λ i z. e i (bits_sub f.assigned i z));
        assigned = sub_trans f.assigned s;
      };
}

-- when a variable that was not assigned is fixed
pub judged_fixed : {m w x : ℕ} {b : Bool} {m' w' : ℕ} → Fixed 64 m w x b m' w' → bit m x ≡ false → {net : List ℕ} {cells : List ℕ} → Judged net m w cells → Judged net m' w' cells
judged_fixed {m} {w} {x} {b} {m'} {w'} F n =
    judged-more (sub-bits m m' (λ i e. (replaced_other F i (other i e)).0 ∙ e)) (λ i e. sym (replaced_other F i (other i e)).1)
  where
    other : (k : ℕ) → bit m k ≡ true → eqb k x ≡ false
    other k e = by_bool (eqb k x) (λ q. clash (bit m k) e (ap (bit m) (eqb-true k x q) ∙ n)) (λ q. q)

-- where the bound variables are not assigned
pub judged-inner : {net : List ℕ} {m w mask m' w' : ℕ} {cells : List ℕ} → m' ≡ without m mask → w' ≡ without w mask → Apart m mask → Judged net m w cells → Judged net m' w' cells
judged-inner {m = m} {w = w} {mask = mask} em ew a =
    rw (em, ew) (judged-more (sub-without (sub_refl m) a) (λ k e. sym (bit-without w mask k ∙ rw (bits_apart a k e) (and-true (bit w k)))))

-- ---- judging so far

module _ {net : List ℕ} {m w : ℕ} where
  pub judging_none : {cells : List ℕ} {head : ℕ} → Judged net m w cells → Judging net m w cells head cells head
  judging_none j = record { judged = j; keeps = λ old t. t }

  pub judging_then : {c₀ c₁ c₂ : List ℕ} {h₀ h₁ h₂ : ℕ} → Judging net m w c₀ h₀ c₁ h₁ → Judging net m w c₁ h₁ c₂ h₂ → Judging net m w c₀ h₀ c₂ h₂
  judging_then p q = record { judged = q.judged; keeps = λ old t. q.keeps old (p.keeps old t) }

  pub judging_put : {k v r head head' : ℕ} {cells cells' : List ℕ} → HasCell cells k → k < end → Judged net m w cells → Vacant cells k → 0 < v → Right net m w k v r
      → Stored k v r head cells cells' head' → Judging net m w cells head cells' head'
  judging_put h l j e p f S = record { judged = judged-set h j f S; keeps = λ old T. trail_put h l p (f p).low e S old T }
