-- A question's quantifiers behind the frames: the net can be searched, its frames stand for what they stood for, and forgetting gives the net back. Assumes nothing.
use Rattle.std.specs.Prelude.{ℕ, ◌+◌, ◌-◌, ◌<◌, ◌≤◌, ◌≡◌, refl, Bool, false, ◌⊎◌, List, get_or, eqb, ltb}
use Rattle.std.proofs.Common.{arith, sym, ◌∙◌, ap, ap₂, inl, inr, ext_get_or, ne_eqb, eq-eqb}
use Rattle.std.specs.Int.Bits.{bit_or}
use Rattle.words.specs.Logic.{tests}
use Rattle.words.proofs.Logic.{by_bool}
use Rattle.words.specs.Mask.{Sub, Apart}
use Rattle.words.proofs.Mask.{apart-sub, apart-sym, sub-or-left, sub-or-right}
use Rattle.formula.specs.Over.{over}
use Rattle.form.specs.Form as Sizes
use Rattle.sheet.specs.Fields.{Sheet}
use Rattle.net.specs.Net.{Node, Fixed, Binds, node_of, node_fixed, node_reads, node_flips, node_joins, node_binds, replace, replace-here, replace-other, fit_at, at-binds, meaning-agree, ordered-replace, Clear, Distinct}
use Rattle.net.specs.Clear.{clear-sub, clear-replace, distinct_replace, ranged_replace}
use Rattle.net.specs.Layout.{net_form, form_same, frames_of, free_of, first_word, second_word, HasNode, unpack, packed, formula_at, Ground, Is, val, decides}
use Rattle.net.specs.StoreLaws.{Stored, stored-long, stored_other, stored-count, stored-first, stored_second, stored-changed, stored_net, none-behind}
use Rattle.net.specs.Sheet.{NetOf}
use Rattle.net.specs.Own.{Chosen, Forgotten, Stacked}

-- ---- as the code has them

-- 8 - d is the op of the quantifier that d decides
pub put_chosen : {net net' : List ℕ} {i at d mask w : ℕ} → at ≡ frames_of net + i → 0 < d → d < 3
    → unpack w mask ≡ node_of (8 - d) (at - 1) 0 mask → Stored net at w mask net' → Chosen net i d mask net'
unfolding val
put_chosen {net} {net'} {i} {at} {d} {mask} {w} e a b W S =
    record {
      word = w;
      is = rw (← e) S.is;
      node = W
          ∙ node_binds (8 - d) (at - 1) 0 mask (omega arith)
          ∙ ap₂ (λ (t : Bool) (x : ℕ). Binds t mask x)
          (by_bool (eqb d 2) (λ q. rw q (eq-eqb (8 - d) 6 (omega tests))) (λ q. rw q (ne_eqb (8 - d) 6 (λ z. omega tests))))
          (ap (λ (x : ℕ). x - 1) e);
    }

-- a place emptied
stored-zero : {net net' : List ℕ} {k : ℕ} → Stored net k 0 0 net' → HasNode net k
    → (i : ℕ) → (eqb i (first_word k) ≡ false → eqb i (second_word k) ≡ false → get_or net i 0 ≡ 0) → get_or net' i 0 ≡ 0
stored-zero {net} {net'} {k} S h i f = by_bool (eqb i (first_word k))
    (λ p. let e : i ≡ first_word k = omega tests in rw e (stored-first S h))
    (λ p. by_bool (eqb i (second_word k))
    (λ q. let e : i ≡ second_word k = omega tests in rw e (stored_second S h))
    (λ q. stored_other S i (λ e. omega tests) (λ e. omega tests) ∙ f p q))

pub put_forgotten : {net n₁ n₂ n₃ : List ℕ} {n : ℕ} → Ground net → n ≡ frames_of net
    → Stored net n 0 0 n₁ → Stored n₁ (n + 1) 0 0 n₂ → Stored n₂ (n + 2) 0 0 n₃ → Forgotten net n₃
put_forgotten {net} {n₁} {n₂} {n₃} {n} G e S T U =
    record {
      long = stored-long U ∙ stored-long T ∙ stored-long S;
      emptied = λ i a b. by_bool (ltb i (first_word (n + 1)))
          (λ p. stored_other U i (λ z. omega tests) (λ z. omega tests) ∙ stored_other T i (λ z. omega tests) (λ z. omega tests)
          ∙ stored-zero S (omega (arith, G.room)) i (λ x y. absurd (omega tests)))
          (λ p. by_bool (ltb i (first_word (n + 2)))
          (λ q. stored_other U i (λ z. omega tests) (λ z. omega tests)
          ∙ stored-zero T (omega (arith, G.room, stored-long S)) i (λ x y. absurd (omega tests)))
          (λ q. stored-zero U (omega (arith, G.room, stored-long T, stored-long S)) i (λ x y. absurd (omega tests))));
      others = λ i h. other i h;
    }
  where
    other : (i : ℕ) → (i < first_word (frames_of net) ⊎ first_word (frames_of net + 3) ≤ i) → get_or n₃ i 0 ≡ get_or net i 0
    other i (inl h) =
        stored_other U i (λ z. omega arith) (λ z. omega arith) ∙ stored_other T i (λ z. omega arith) (λ z. omega arith) ∙ stored_other S i (λ z. omega arith) (λ z. omega arith)
    other i (inr h) =
        stored_other U i (λ z. omega arith) (λ z. omega arith) ∙ stored_other T i (λ z. omega arith) (λ z. omega arith) ∙ stored_other S i (λ z. omega arith) (λ z. omega arith)

-- ---- none yet

-- a quantifier is no constant
fixed_binds : {d : Bool} {m x : ℕ} → Fixed false ≡ Binds d m x → ⊥
fixed_binds e = let z : ◌≡◌ {A = ℕ} 0 1 = cc in omega arith

net_behind : {s : Sheet} {net : List ℕ} → NetOf s net → (k : ℕ) → frames_of net ≤ k → packed net k ≡ Fixed false
net_behind {s} {net} N = none-behind net (frames_of net) N.empty

-- no node at all binds a free variable
net_clear : {s : Sheet} {net : List ℕ} → NetOf s net → (a : ℕ) → Clear (packed net) a (free_of net)
net_clear {s} {net} N a =
    record {
      apart = λ j l e. by_bool (ltb j (frames_of net))
          (λ i. N.clear.apart j (omega (tests, N.count)) e)
          (λ i. absurd (fixed_binds (sym (net_behind N j (omega tests)) ∙ e)));
    }

pub stacked_none : {s : Sheet} {net : List ℕ} → NetOf s net → 0 < frames_of net → Stacked s net net 0 0
stacked_none {s} {net} N h = record {
  net_of = N;
  some = h;
  within = omega arith;
  grounded = N.grounded;
  frames-same = refl;
  long = refl;
  same = λ k l. refl;
  changes = λ k l. refl;
  clear = λ i a k. clear-sub (net_clear N k) i;
  behind = λ k l. net_behind N k (omega arith);
  others = λ i h. refl;
}

-- ---- one more

module _ {s : Sheet} {base net : List ℕ} {i used d mask : ℕ} {net' : List ℕ} (S : Stacked s base net i used) (l : i < 3)
    (inside : Sub mask (free_of base)) (fresh : Apart used mask) (C : Chosen net i d mask net') where
  abbrev place : ℕ
  place = frames_of net + i

  stored : Stored net place C.word mask net'
  stored = record { is = C.is }

  abbrev own : Node
  own = Binds (val d) mask (place - 1)

  some-frames : 0 < frames_of net
  some-frames = omega (arith, S.some, S.frames-same)

  chosen_net : packed net' ≡ replace (packed net) place own
  chosen_net = stored_net stored (omega (arith, S.grounded.room)) ∙ ap (replace (packed net) place) C.node

  chosen_count : frames_of net' ≡ frames_of net
  chosen_count = stored-count stored

  chosen_distinct : Distinct (packed net')
  chosen_distinct =
      rw chosen_net
      (distinct_replace (val d) (place - 1) S.grounded.distinct
      (clear-replace (val d) (place - 1) (S.clear inside fresh (place - 1)) (λ h. absurd (omega (arith, some-frames))))
      (λ j e n y t h. absurd (fixed_binds (sym (S.behind j (omega (arith, S.frames-same, fit_at S.grounded.ordered t))) ∙ t))))

  pub chosen_ground : Ground net'
  chosen_ground =
      record {
        ordered = rw chosen_net (ordered-replace (packed net) place own S.grounded.ordered (omega (arith, some-frames)));
        ranged = λ j. rw (chosen_net, form_same net net' (stored-long stored)) (ranged_replace (Sizes.variables (net_form net)) (packed net) place own S.grounded.ranged tt j);
        distinct = chosen_distinct;
        room = omega (arith, S.grounded.room, stored-long stored, chosen_count);
        few = omega (arith, S.grounded.few, stored-long stored);
      }

  -- the nodes before it stand for what they stood for
  pub chosen_same : (k : ℕ) → k < place → formula_at net' k ≡ formula_at net k
  chosen_same k h =
      meaning-agree (packed net) (packed net') S.grounded.ordered chosen_ground.ordered k
      (λ j m. rw chosen_net (replace-other (packed net) place own j (ne_eqb j place (λ e. omega arith))))

  pub chosen_node : packed net' place ≡ Binds (val d) mask (place - 1)
  chosen_node = rw chosen_net (replace-here (packed net) place own)

  -- and it is the quantifier over the one before it
  pub chosen_formula : formula_at net' place ≡ over (val d) mask (formula_at net (place - 1))
  chosen_formula =
      at-binds chosen_ground.ordered chosen_node ∙ ap (over (val d) mask) (chosen_same (place - 1) (omega (arith, some-frames)))

  pub stacked_more : Stacked s base net' (i + 1) (bit_or used mask)
  stacked_more = record {
    net_of = S.net_of;
    some = S.some;
    within = omega arith;
    grounded = chosen_ground;
    frames-same = chosen_count ∙ S.frames-same;
    long = stored-long stored ∙ S.long;
    same = λ k h. chosen_same k (omega (arith, S.frames-same)) ∙ S.same k h;
    changes = λ k h. stored-changed stored k (ne_eqb k place (λ e. omega (arith, S.frames-same))) ∙ S.changes k h;
    clear = λ {m} t a k. rw chosen_net
        (clear-replace (val d) (place - 1) (S.clear t (apart-sym (apart-sub (apart-sym a) (sub-or-left used mask))) k) (λ h. apart-sym (apart-sub (apart-sym a) (sub-or-right used mask))));
    behind = λ k h. rw chosen_net (replace-other (packed net) place own k (ne_eqb k place (λ e. omega (arith, S.frames-same))) ∙ S.behind k (omega arith));
    others = λ j h. other j h;
  }
    where
      other : (j : ℕ) → (j < first_word (frames_of base) ⊎ first_word (frames_of base + 3) ≤ j) → get_or net' j 0 ≡ get_or base j 0
      other j (inl h) = stored_other stored j (λ e. omega (arith, S.frames-same)) (λ e. omega (arith, S.frames-same)) ∙ S.others j (inl h)
      other j (inr h) = stored_other stored j (λ e. omega (arith, S.frames-same)) (λ e. omega (arith, S.frames-same)) ∙ S.others j (inr h)

-- ---- forgetting gives the net back

pub stacked_back : {s : Sheet} {base net : List ℕ} {count used : ℕ} {net' : List ℕ} → Stacked s base net count used → Forgotten net net' → net' ≡ base
stacked_back {s} {base} {net} {count} {used} {net'} S F =
    ext_get_or 0 net' base (F.long ∙ S.long) (λ i h. by_bool (ltb i (first_word (frames_of base)))
    (λ a. F.others i (inl (omega (tests, S.frames-same))) ∙ S.others i (inl (omega tests)))
    (λ a. by_bool (ltb i (first_word (frames_of base + 3)))
    (λ b. F.emptied i (omega (tests, S.frames-same)) (omega (tests, S.frames-same)) ∙ sym (S.net_of.empty i (omega tests)))
    (λ b. F.others i (inr (omega (tests, S.frames-same))) ∙ S.others i (inr (omega tests)))))

-- ---- the quantifier as the code reads it

module _ {net : List ℕ} {k op left right mask m x : ℕ} {b : Bool} (I : Is net k op left right mask) (e : packed net k ≡ Binds b m x) where
  numbers_bind : node_of op left right mask ≡ Binds b m x
  numbers_bind = sym I.node ∙ e

  is-quantifier : 6 ≤ op
  is-quantifier =
      by_bool (ltb op 2)
      (λ q. let h = sym (node_fixed op left right mask (omega tests)) ∙ numbers_bind in let z : ◌≡◌ {A = ℕ} 0 1 = cc in absurd (omega arith))
      (λ q. by_bool (eqb op 2)
      (λ r. let h = sym (node_reads op left right mask (omega tests)) ∙ numbers_bind in let z : ◌≡◌ {A = ℕ} 0 1 = cc in absurd (omega arith))
      (λ r. by_bool (eqb op 3)
      (λ t. let h = sym (node_flips op left right mask (omega tests)) ∙ numbers_bind in let z : ◌≡◌ {A = ℕ} 0 1 = cc in absurd (omega arith))
      (λ t. by_bool (ltb op 6)
      (λ u. let h = sym (node_joins op left right mask (omega tests) (omega tests)) ∙ numbers_bind in let z : ◌≡◌ {A = ℕ} 0 1 = cc in absurd (omega arith))
      (λ u. omega tests))))

  pub is_chosen : (6 ≤ op) × (eqb op 6 ≡ b) × (mask ≡ m) × (left ≡ x)
  is_chosen = let h = sym (node_binds op left right mask is-quantifier) ∙ numbers_bind in (is-quantifier, cc, cc, cc)

-- by the truth that decides it
pub is_chosen_val : {net : List ℕ} {k op left right mask d m x : ℕ} → Is net k op left right mask → packed net k ≡ Binds (val d) m x → 0 < d → d < 3 → (6 ≤ op) × (decides op ≡ d)
unfolding val decides
is_chosen_val {net} {k} {op} {left} {right} {mask} {d} I e a b =
    let h = is_chosen I e in (
      h.0,
      rw h.1 (by_bool (eqb d 2) (λ q. rw q (omega tests)) (λ q. rw q (omega tests))),
    )
