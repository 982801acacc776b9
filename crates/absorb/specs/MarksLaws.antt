-- What marks show: g is all that reads y below a quantifier, and g is reached through it only. Assumes nothing.
use Rattle.std.specs.Prelude.{ℕ, ◌+◌, ◌<◌, ◌≤◌, ◌≡◌, refl, Bool, true, false, not, ◌&&◌, ◌⊎◌, List, length, get_or, set, eqb, ltb}
use Rattle.std.proofs.Common.{arith, inl, inr, sym, ◌∙◌, ap, subst, get_or-set_other, get_or-set_same, eqb-true, eq-eqb, ne_eqb, lt-ltb, ltb-true}
use Rattle.std.specs.Int.Bits.{bit_and}
use Rattle.words.specs.Logic.{tests}
use Rattle.words.proofs.Logic.{by_bool, clash, and_both}
use Rattle.words.specs.Word.{bit}
use Rattle.words.specs.Mask.{Apart}
use Rattle.words.proofs.Mask.{bits_apart}
use Rattle.net.specs.Op.{code_of}
use Rattle.net.specs.declared.node.Op.{Op}
use Rattle.net.specs.declared.node.Op.TheVariants.{False, True, Input, Not, And, Or, Exists, Forall}
use Rattle.net.specs.Net.{Node, Fixed, Reads, Flips, Joins, Binds, Net, node_of, node_fixed, node_reads, node_flips, node_joins, node_binds, frees, Fit, Ordered}
use Rattle.absorb.specs.Absorb.{Names, Spares, Inside, Outside}
use Rattle.absorb.specs.Marks.{unmarked, Clean, Marking}

-- ---- names

-- of nodes before k
pub names-below : {r s : ℕ → Bool} (k : ℕ) (u : Node) → Fit k u → ((j : ℕ) → j < k → r j ≡ true → s j ≡ true) → Names r u → Names s u
names-below k (Fixed v) w h n = tt
names-below k (Reads x) w h n = tt
names-below k (Flips a) w h n = h a w n
names-below k (Joins d a b) w h n = (h a w.0 n.0, h b w.1 n.1)
names-below k (Binds d m a) w h n = h a w n

-- by a node's numbers
module _ (op left right mask : ℕ) (r : ℕ → Bool) where
  names-is : {u : Node} → node_of op left right mask ≡ u → Names r u → Names r (node_of op left right mask)
  names-is e n = subst (Names r) (sym e) n

  pub names_leaf : op < 3 → Names r (node_of op left right mask)
  names_leaf h =
      by_bool (eqb op 2)
      (λ e. names-is (node_reads op left right mask (omega tests)) tt)
      (λ e. names-is (node_fixed op left right mask (omega tests)) tt)

  pub names_flips : op ≡ 3 → r left ≡ true → Names r (node_of op left right mask)
  names_flips h e = names-is (node_flips op left right mask h) e

  pub names-binds : 6 ≤ op → r left ≡ true → Names r (node_of op left right mask)
  names-binds h e = names-is (node_binds op left right mask h) e

  pub names-joins : 4 ≤ op → op < 6 → r left ≡ true → r right ≡ true → Names r (node_of op left right mask)
  names-joins h i e f = names-is (node_joins op left right mask h i) (e, f)

-- by a node's kind, as the arms of a match have it
module _ (left right mask : ℕ) (r : ℕ → Bool) where
  pub names_none : {o : Op} → (o ≡ False) ⊎ (o ≡ True) ⊎ (o ≡ Input) → Names r (node_of (code_of o) left right mask)
  unfolding node_of
  names_none (inl e) = rw e tt
  names_none (inr (inl e)) = rw e tt
  names_none (inr (inr e)) = rw e tt

  pub names_one : {o : Op} → (o ≡ Not) ⊎ (o ≡ Exists) ⊎ (o ≡ Forall) → r left ≡ true → Names r (node_of (code_of o) left right mask)
  unfolding node_of
  names_one (inl e) h = rw e h
  names_one (inr (inl e)) h = rw e h
  names_one (inr (inr e)) h = rw e h

  pub names_two : {o : Op} → (o ≡ And) ⊎ (o ≡ Or) → r left ≡ true → r right ≡ true → Names r (node_of (code_of o) left right mask)
  unfolding node_of
  names_two (inl e) h i = rw e (h, i)
  names_two (inr e) h i = rw e (h, i)

-- ---- a node that spares y, by its numbers

module _ (op left right mask y f : ℕ) (F : ℕ → Bool) (word : (x : ℕ) → bit f x ≡ F x) where
  spares-is : {u : Node} → node_of op left right mask ≡ u → Spares y F u → Spares y F (node_of op left right mask)
  spares-is e c = subst (Spares y F) (sym e) c

  pub spares_reads : op ≡ 2 → (left ≡ y → ⊥) → Spares y F (node_of op left right mask)
  spares_reads h n = spares-is (node_reads op left right mask h) (ne_eqb left y n)

  pub spares_gate : (op ≡ 2 → ⊥) → op < 6 → Spares y F (node_of op left right mask)
  spares_gate h i =
      by_bool (ltb op 2)
      (λ a. spares-is (node_fixed op left right mask (omega tests)) tt)
      (λ a. by_bool (eqb op 3)
      (λ b. spares-is (node_flips op left right mask (omega tests)) tt)
      (λ b. by_bool (eqb op 2)
      (λ c. absurd (h (omega tests)))
      (λ c. spares-is (node_joins op left right mask (omega tests) i) tt)))

  pub spares_binds : 6 ≤ op → bit mask y ≡ false → bit_and f mask ≡ 0 → Spares y F (node_of op left right mask)
  spares_binds h n a =
      let p : Apart f mask = record { none = a } in
      spares-is (node_binds op left right mask h) (n, λ k i. bits_apart p k (word k ∙ i))

-- ---- a pass

unmarked-set : (marks : List Bool) (i : ℕ) (v : Bool) (k : ℕ) → (k ≡ i → ⊥) → unmarked (set marks i v) k ≡ unmarked marks k
unfolding unmarked
unmarked-set marks i v k n = rw (get_or-set_other marks i k v false n)

not-true : (b : Bool) → not b ≡ true → b ≡ false
not-true b e = by_bool b (λ t. clash true refl (sym e ∙ ap not t)) (λ f. f)

unmarked-here : (marks : List Bool) (i : ℕ) (v : Bool) → i < length marks → unmarked (set marks i v) i ≡ true → v ≡ false
unfolding unmarked
unmarked-here marks i v l e = sym (get_or-set_same marks i v false l) ∙ not-true (get_or (set marks i v) i false) e

module _ {P : ℕ → Type 0} {N : Net} {stop : ℕ} where
  pub marking_none : (marks : List Bool) → Marking P N stop marks 0
  marking_none marks = record { clean = λ k l. absurd (omega arith) }

  -- node i has a mark, or may do without
  pub marking_next : {marks : List Bool} {i : ℕ} {v : Bool} → Ordered N → Marking P N stop marks i → i < length marks → (v ≡ false → Clean P N stop marks i) → Marking P N stop (set marks i v) (i + 1)
  marking_next {marks} {i} {v} o M l c =
      record {
        clean = λ k h e n. by_bool (eqb k i)
            (λ q. let is = eqb-true k i q in
            let z = c (unmarked-here marks i v l (subst (λ (j : ℕ). unmarked (set marks i v) j ≡ true) is e)) (subst (λ (j : ℕ). eqb j stop ≡ false) is n) in
            subst (λ (j : ℕ). P j × Names (unmarked (set marks i v)) (N j)) (sym is) (z.0, before i (omega arith) z.1))
            (λ q. let z = M.clean k (omega tests) (sym (unmarked-set marks i v k (λ t. omega tests)) ∙ e) n in
            (z.0, before k (omega arith) z.1));
      }
    where
      before : (k : ℕ) → k ≤ i → Names (unmarked marks) (N k) → Names (unmarked (set marks i v)) (N k)
      before k h = names-below k (N k) (o.fit k) (λ j m e. unmarked-set marks i v j (λ t. omega arith) ∙ e)

-- ---- from the marks to the premises

-- the nodes without a mark among the first i
below : List Bool → ℕ → ℕ → Bool
below marks i k = ltb k i && unmarked marks k

below-is : (marks : List Bool) (i k : ℕ) → k < i → unmarked marks k ≡ true → below marks i k ≡ true
unfolding below
below-is marks i k l e = rw (lt-ltb k i l, e)

below_has : (marks : List Bool) (i k : ℕ) → below marks i k ≡ true → (k < i) × (unmarked marks k ≡ true)
unfolding below
below_has marks i k e = let h = and_both (ltb k i) (unmarked marks k) e in (ltb-true k i h.0, h.1)

module _ {N : Net} (o : Ordered N) (marks : List Bool) where
  names_in : (i k : ℕ) → k < i → Names (unmarked marks) (N k) → Names (below marks i) (N k)
  names_in i k l = names-below k (N k) (o.fit k) (λ j m e. below-is marks i j (omega arith) e)

  pub marks_inside : {body g y i : ℕ} → Marking (λ k. Spares y (frees N g) (N k)) N g marks i → body < i → unmarked marks body ≡ true → Inside N body g y
  marks_inside {body} {g} {y} {i} M l e =
      record {
        inner = below marks i;
        enters = below-is marks i body l e;
        names = λ k t n. let h = below_has marks i k t in names_in i k h.0 (M.clean k h.0 h.1 n).1;
        spares = λ k t n. let h = below_has marks i k t in (M.clean k h.0 h.1 n).0;
      }

  pub marks_outside : {root q g i : ℕ} → Marking (λ k. eqb k g ≡ false) N q marks i → root < i → unmarked marks root ≡ true → g < q → Outside N root q g
  marks_outside {root} {q} {g} {i} M l e b =
      record {
        outer = below marks i;
        enters = below-is marks i root l e;
        names = λ k t n. let h = below_has marks i k t in names_in i k h.0 (M.clean k h.0 h.1 n).1;
        hidden = by_bool (below marks i g)
            (λ t. let h = below_has marks i g t in clash (eqb g g) (eq-eqb g g refl) (M.clean g h.0 h.1 (ne_eqb g q (λ z. omega arith))).0)
            (λ t. t);
      }
