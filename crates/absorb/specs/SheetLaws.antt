-- Node g stored as INPUT y, and the bit spread from it: the net is still that of the sheet. Assumes nothing.
use Rattle.std.specs.Prelude.{ℕ, ◌+◌, ◌-◌, ◌*◌, ◌/◌, ◌%◌, ◌<◌, ◌≤◌, ◌≡◌, Bool, List, length, eqb}
use Rattle.std.proofs.Common.{arith, sym, ◌∙◌, ap₂}
use Rattle.std.proofs.Math.Path.{refl, ap, subst, fun_ext}
use Rattle.std.proofs.Math.Bool.{true, false, not}
use Rattle.std.proofs.Math.Dec.{ltb}
use borrow.Author.Tests.{eqb-true, lt-ltb}
use Rattle.words.specs.Logic.{tests}
use Rattle.words.proofs.Logic.{by_bool, clash}
use Rattle.words.specs.Word.{bit}
use Rattle.formula.specs.Formula.{Formula, neg, gate}
use Rattle.formula.specs.Over.{over}
use Rattle.form.specs.Form as Sizes
use Rattle.form.proofs.FormLaws.{few-variables}
use Rattle.form.specs.declared.Form.{Form}
use Rattle.sheet.specs.Fields.{Sheet}
use Rattle.net.specs.Net.{Node, Fixed, Reads, Flips, Joins, Binds, Net, node_reads, build, meaning, value, Fit, Ordered, meaning-is, replace, replace-here, replace-other, upward, Clear, Distinct}
use Rattle.net.specs.Clear.{ranged_replace}
use Rattle.net.specs.Stands.{serves_trans}
use Rattle.net.specs.Layout.{net_words, net_form, form_same, frames_of, first_word, unpack, packed, changed, formula_at, Ground, Is, is-binds}
use Rattle.net.specs.StoreLaws.{Stored, stored-long, stored_other, stored-count, stored_opens, stored-gauged, stored-first, stored_net}
use Rattle.net.specs.Sheet.{NetOf, net-form}
use Rattle.absorb.specs.Absorb.{Turns, Names, Inside, Outside}
use Rattle.absorb.specs.AbsorbLaws.{absorb_ordered, absorb_serves}
use Rattle.absorb.specs.Spread.{still, Spreading}
use Rattle.absorb.specs.SpreadLaws.{noted_ground}
use Rattle.absorb.specs.Sheet.{Absorbable}

-- ---- a node that becomes an INPUT binds nothing

no-binder : {y : ℕ} {d : Bool} {m x : ℕ} → Reads y ≡ Binds d m x → ⊥
no-binder e = let z : ◌≡◌ {A = ℕ} 0 1 = cc in omega arith

module _ (N : Net) (g y : ℕ) where
  old-binder : (k : ℕ) {d : Bool} {m x : ℕ} → replace N g (Reads y) k ≡ Binds d m x → N k ≡ Binds d m x
  old-binder k {d} {m} {x} e =
      by_bool (eqb k g)
      (λ q. absurd (no-binder (sym (replace-here N g (Reads y)) ∙ (rw (eqb-true k g q) at e))))
      (λ q. sym (replace-other N g (Reads y) k q) ∙ e)

  clear_reads : {a z : ℕ} → Clear N a z → Clear (replace N g (Reads y)) a z
  clear_reads C = record { apart = λ j l e. C.apart j l (old-binder j e) }

  distinct_reads : Distinct N → Distinct (replace N g (Reads y))
  distinct_reads D = record { below = λ k e. clear_reads (D.below k (old-binder k e)) }

-- ---- nodes that do not reach g are built as before

build-names : (f h : ℕ → Formula) (r : ℕ → Bool) (k : ℕ) (u : Node) → Fit k u → Names r u → ((a : ℕ) → a < k → r a ≡ true → f a ≡ h a) → build f u ≡ build h u
unfolding build
build-names f h r k (Fixed true) w n e = refl
build-names f h r k (Fixed false) w n e = refl
build-names f h r k (Reads x) w n e = refl
build-names f h r k (Flips a) w n e = ap neg (e a w n)
build-names f h r k (Joins d a b) w n e = ap₂ (gate d) (e a w.0 n.0) (e b w.1 n.1)
build-names f h r k (Binds d m a) w n e = ap (over d m) (e a w n)

-- nets that agree on the nodes of a set, below n, whose names are in it
pub meaning_closed : (N M : Net) → Ordered N → Ordered M → (r : ℕ → Bool) (n : ℕ) → ((k : ℕ) → k < n → r k ≡ true → (M k ≡ N k) × Names r (N k))
    → (k : ℕ) → k < n → r k ≡ true → meaning M k ≡ meaning N k
meaning_closed N M o p r n h =
    upward (λ k. k < n → r k ≡ true → meaning M k ≡ meaning N k)
    (λ k ih l e. let z = h k l e in
    meaning-is M p k ∙ rw z.0 (build-names (meaning M) (meaning N) r k (N k) (o.fit k) z.1 (λ a i t. ih a i (omega arith) t)) ∙ sym (meaning-is N o k))

-- ---- the words of INPUT y, with the bit

mod_low : (x y l : ℕ) → l < 4096 → x ≡ y * 4096 + l → x % 4096 ≡ l
mod_low x y l h e = omega arith

input-word : {w y : ℕ} → w ≡ 10 + 16 * y → y < 4096 → unpack w 0 ≡ Reads y
unfolding unpack
input-word {w} {y} e l =
    let a : w % 8 ≡ 2 = omega arith in
    let b : w / 16 % 4096 ≡ y = mod_low (w / 16) 0 y l (omega arith) in
    rw (a, b) (node_reads 2 y (w / 65536 % 4096) 0 refl)

-- ---- node g stored

module _ {s : Sheet} {net net₁ : List ℕ} {g y w : ℕ} (N : NetOf s net) (A : Absorbable net g y) (is : w ≡ 10 + 16 * y) (S : Stored net g w 0 net₁) where
  low : y < 4096
  low = omega (arith, A.small, few-variables (net_form net))

  stored-input : packed net₁ ≡ replace (packed net) g (Reads y)
  stored-input = stored_net S (omega (arith, A.here, N.grounded.room)) ∙ ap (replace (packed net) g) (input-word is low)

  pub stored_ground : Ground net₁
  stored_ground =
      record {
        ordered = rw stored-input (absorb_ordered A.plan);
        ranged = λ j. rw (stored-input, form_same net net₁ (stored-long S)) (ranged_replace (Sizes.variables (net_form net)) (packed net) g (Reads y) N.grounded.ranged A.small j);
        distinct = rw stored-input (distinct_reads (packed net) g y N.grounded.distinct);
        room = omega (arith, N.grounded.room, stored-long S, stored-count S);
        few = omega (arith, N.grounded.few, stored-long S);
      }

-- ---- the net of the sheet

module _ {s : Sheet} {net net₁ net₂ : List ℕ} {g y w n : ℕ} (N : NetOf s net) (A : Absorbable net g y) (is : w ≡ 10 + 16 * y)
    (S : Stored net g w 0 net₁) (D : Spreading net₁ net₂ n) (all : n ≡ frames_of net₁) where
  abbrev M : Net
  M = replace (packed net) g (Reads y)

  absorbed : packed net₂ ≡ M
  absorbed = fun_ext D.noted.nodes ∙ stored-input N A is S

  long : length net₂ ≡ length net
  long = D.noted.long ∙ stored-long S

  count : frames_of net₂ ≡ frames_of net
  count = D.noted.count ∙ stored-count S

  ordered : Ordered M
  ordered = absorb_ordered A.plan

  -- g itself is changed
  changed-g : changed net₂ g ≡ true
  unfolding changed
  changed-g = D.noted.more g (ap (λ (x : ℕ). ltb 7 (x % 16)) (stored-first S (omega (arith, A.here, N.grounded.room))) ∙ lt-ltb 7 (w % 16) (omega arith))

  -- and whatever was
  changed-still : (k : ℕ) → changed net k ≡ true → changed net₂ k ≡ true
  unfolding changed
  changed-still k e =
      by_bool (eqb k g)
      (λ q. rw (eqb-true k g q) changed-g)
      (λ q. D.noted.more k (ap (λ (x : ℕ). ltb 7 (x % 16)) (stored_other S (first_word k) (λ z. omega tests) (λ z. omega arith)) ∙ e))

  was_still : (k : ℕ) → changed net₂ k ≡ false → changed net k ≡ false
  was_still k e = by_bool (changed net k) (λ t. clash (changed net₂ k) (changed-still k t) e) (λ t. t)

  -- a node that is not changed has the formula that it had
  formula-still : (k : ℕ) → k < frames_of net → changed net₂ k ≡ false → meaning M k ≡ formula_at net k
  unfolding still
  formula-still k l e =
      meaning_closed (packed net) M N.grounded.ordered ordered (still net₂) (frames_of net)
      (λ j i t. let c = off j t in
      let same = replace-other (packed net) g (Reads y) j (by_bool (eqb j g) (λ q. clash (changed net₂ j) (rw (eqb-true j g q) changed-g) c) (λ q. q)) in
      (same, subst (Names (still net₂)) (ap (λ (K : Net). K j) absorbed ∙ same) (D.closed j (omega (arith, stored-count S)) c)))
      k l (ap not e)
    where
      off : (j : ℕ) → not (changed net₂ j) ≡ true → changed net₂ j ≡ false
      off j t = by_bool (changed net₂ j) (λ q. clash true refl (sym t ∙ ap not q)) (λ q. q)

  pub absorbed_net : NetOf s net₂
  absorbed_net =
      record {
        grounded = noted_ground (stored_ground N A is S) D.noted;
        long = long ∙ N.long;
        count = count ∙ N.count;
        opens = D.noted.opens ∙ stored_opens S ∙ N.opens;
        gauged = D.noted.gauged ∙ stored-gauged S ∙ N.gauged;
        bounded = N.bounded;
        each = λ k l e. rw (absorbed, formula-still k (omega (arith, N.count)) e) (N.each k l (was_still k e));
        ends = serves_trans N.ends (rw absorbed (rw (ap (λ (x : ℕ). x - 1) N.count) at (absorb_serves A.plan)));
        clear = rw (absorbed, D.noted.opens ∙ stored_opens S) (clear_reads (packed net) g y N.clear);
        empty = λ i h. D.noted.behind i (omega (arith, count, stored-count S))
            ∙ stored_other S i (λ e. omega (arith, count, A.here)) (λ e. omega (arith, count, A.here)) ∙ N.empty i (omega (arith, count));
      }

-- ---- what the tests show, as the code has them

module _ (net : List ℕ) {y v : ℕ} {F : Form} (form : F ≡ net_form net) (most : v ≡ Sizes.variables F) (l : y < v) where
  pub small_form : y < Sizes.variables (net_form net)
  small_form = subst (λ (x : ℕ). y < x) (most ∙ ap Sizes.variables form) l

  pub small_low : y < 64
  small_low = omega (arith, small_form, few-variables (net_form net))

pub absorbable : {net : List ℕ} {q op left right mask g y : ℕ} → Ground net → Is net q op left right mask → 6 ≤ op → bit mask y ≡ true → g < q → q < frames_of net
    → y < Sizes.variables (net_form net) → Turns y (value (packed net) g) → Inside (packed net) left g y → Outside (packed net) (frames_of net - 1) q g → Absorbable net g y
absorbable {net} {q} {op} {left} {right} {mask} G I h b l i s t inner outer =
    record {
      plan = record {
        ordered = G.ordered;
        binder = q;
        decider = eqb op 6;
        mask = mask;
        body = left;
        binds = is-binds G I h;
        holds = b;
        below = l;
        turns = t;
        inside = inner;
        outside = outer;
      };
      here = omega arith;
      small = s;
    }

-- ---- how many nodes a net of each form has

pub form_long : {s : Sheet} {net : List ℕ} → NetOf s net → (F : Form) → net_form net ≡ F → length net ≡ net_words F
form_long N F e = N.long ∙ ap net_words (sym (net-form N) ∙ e)
