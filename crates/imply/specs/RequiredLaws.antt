-- Backward implication goes from a node to those that it names; the wants stay right; what is wanted of an input forces a variable. Assumes nothing.
use Rattle.std.specs.Prelude.{ℕ, ◌+◌, ◌-◌, ◌*◌, ◌≤◌, ◌<◌, ◌^◌, ◌≡◌, refl, Bool, true, false, List, ◌++◌, length, get_or, take, drop, replicate, set, eqb}
use Rattle.std.proofs.lemmas.List.{get_or_append_left, get_or-replicate, length-replicate}
use Rattle.std.proofs.Common.{arith, ◌∙◌, subst, length-append, length-take, length-drop, length-set, get_or-set_same, get_or-set_other, eqb-true, eq-eqb}
use Rattle.std.proofs.Math.Path.{sym, ap}
use Rattle.std.proofs.Math.Bool.{not}
use Rattle.std.specs.Int.Bits.{bit_or}
use Rattle.words.specs.Logic.{tests}
use Rattle.words.proofs.Logic.{by_bool, clash, or_left, or_right, or_cases, not-not}
use Rattle.words.specs.Word.{bit}
use Rattle.words.proofs.Bits.{bit-or, bit-none, bit-pow}
use Rattle.words.specs.Mask.{Apart}
use Rattle.words.proofs.Mask.{bits_sub, bits_apart, or-sub, none-sub, one-sub, sub-bits}
use Rattle.formula.specs.Assignment.{Assignment, On, join}
use Rattle.formula.proofs.Assignment.{join-left, join-right, join_cases, by_value, differ}
use Rattle.formula.specs.Formula.{Formula, truth, free}
use Rattle.formula.proofs.Over.{over-free, over_misses}
use Rattle.net.specs.Layout.{formula_at, HasNode, Ground, Is, val, val-not, val_flip, decides, decides-some, decides-low, f-reads, f_flips, f-joins, f-binds}
use Rattle.judge.specs.Cells.{HasCell, value_of, reason_of, Stored}
use Rattle.judge.specs.Judge.{Right, Judged}
use Rattle.judge.specs.CellLaws.{stored-long, stored-value, stored-reason, other-value, other-reason}
use Rattle.imply.specs.Halves.{or-none}
use Rattle.imply.specs.Required.{Required, Wanted, Wiped, Why, Forcing, Valued}

-- node a itself
pub required_root : {net : List ℕ} {a t m w : ℕ} → t < 3 → Required net a t m w a t 0
required_root {m = m} l =
    record {
      low = l;
      forces = λ σ h e. e;
      assigned = none-sub m;
      inside = λ x e. clash (bit 0 x) e (bit-none x);
      opens = λ x f b. f;
    }

-- ---- joins that are not decided

undecided-left : (d a b : Bool) → join d a b ≡ not d → a ≡ not d
undecided-left d a b h = by_value d a (λ e. differ d (join d a b) (join-left d a b e) h) (λ e. e)

undecided-right : (d a b : Bool) → join d a b ≡ not d → b ≡ not d
undecided-right d a b h = by_value d b (λ e. differ d (join d a b) (join-right d a b e) h) (λ e. e)

on_left : (r p : ℕ) {σ τ : Assignment} → On (bit (bit_or r p)) σ τ → On (bit r) σ τ
on_left r p h x z = h x (bit-or r p x ∙ or_left (bit r x) (bit p x) z)

on_right : (r p : ℕ) {σ τ : Assignment} → On (bit (bit_or r p)) σ τ → On (bit p) σ τ
on_right r p h x z = h x (bit-or r p x ∙ or_right (bit r x) (bit p x) z)

-- ---- through a node

module _ {net : List ℕ} {a t m w k v r op left right mask : ℕ} (G : Ground net) (I : Is net k op left right mask) (R : Required net a t m w k v r) (s : 0 < v) where
  pub required_flip : op ≡ 3 → Required net a t m w left (3 - v) r
  unfolding truth free
  required_flip e =
      record {
        low = omega arith;
        forces = λ σ h q.
            sym (not-not (truth (formula_at net left) σ))
            ∙ ap not (sym (ap (λ (f : Formula). truth f σ) (f_flips G I e)) ∙ R.forces σ h q)
            ∙ sym (val_flip v s R.low);
        assigned = R.assigned;
        inside = R.inside;
        opens = λ x f b. R.opens x (ap (λ (g : Formula). free g x) (f_flips G I e) ∙ f) b;
      }

  module _ (l : 4 ≤ op) (l' : op < 6) {d : ℕ} (ed : d ≡ op - 3) where
    as_gate : (σ : Assignment) → On (bit r) σ (bit w) → truth (formula_at net a) σ ≡ val t → join (val d) (truth (formula_at net left) σ) (truth (formula_at net right) σ) ≡ val v
    unfolding truth
    as_gate σ h q = sym (ap (λ (f : Formula). truth f σ) (f-joins G I l l' ed)) ∙ R.forces σ h q

    reads-left : (x : ℕ) → free (formula_at net left) x ≡ true → free (formula_at net k) x ≡ true
    unfolding free
    reads-left x f = ap (λ (g : Formula). free g x) (f-joins G I l l' ed) ∙ or_left (free (formula_at net left) x) (free (formula_at net right) x) f

    reads-right : (x : ℕ) → free (formula_at net right) x ≡ true → free (formula_at net k) x ≡ true
    unfolding free
    reads-right x f = ap (λ (g : Formula). free g x) (f-joins G I l l' ed) ∙ or_right (free (formula_at net left) x) (free (formula_at net right) x) f

    undecided : (v ≡ d → ⊥) → val v ≡ not (val d)
    undecided n = val-not v d s R.low (omega arith) (omega arith) n

    -- the undecided truth goes to both sides
    pub required_left : (v ≡ d → ⊥) → Required net a t m w left v r
    required_left n =
        record {
          low = R.low;
          forces = λ σ h q.
              undecided-left (val d) (truth (formula_at net left) σ) (truth (formula_at net right) σ) (as_gate σ h q ∙ undecided n) ∙ sym (undecided n);
          assigned = R.assigned;
          inside = R.inside;
          opens = λ x f b. R.opens x (reads-left x f) b;
        }

    pub required_right : (v ≡ d → ⊥) → Required net a t m w right v r
    required_right n =
        record {
          low = R.low;
          forces = λ σ h q.
              undecided-right (val d) (truth (formula_at net left) σ) (truth (formula_at net right) σ) (as_gate σ h q ∙ undecided n) ∙ sym (undecided n);
          assigned = R.assigned;
          inside = R.inside;
          opens = λ x f b. R.opens x (reads-right x f) b;
        }

    -- the decided truth goes to one side where the other is known to have the undecided one, y because of p
    module _ {y p : ℕ} (e : v ≡ d) (y0 : 0 < y) (n : y ≡ d → ⊥) where
      -- to the left side: the right one is known
      pub required_other_left : Right net m w right y p → Required net a t m w left v (bit_or r p)
      required_other_left i =
          let f = i y0 in
          record {
            low = R.low;
            forces = λ σ h q.
                join_cases (val d) (truth (formula_at net left) σ) (truth (formula_at net right) σ) (as_gate σ (on_left r p h) q ∙ ap val e)
                (λ z. z ∙ sym (ap val e))
                (λ z. differ (val d) (truth (formula_at net right) σ) z (f.explains.forces σ (on_right r p h) ∙ val-not y d y0 f.low (omega arith) (omega arith) n));
            assigned = or-sub R.assigned f.assigned;
            inside = λ x z. or_cases (bit r x) (bit p x) (sym (bit-or r p x) ∙ z) (R.inside x)
                (λ b. R.opens x (reads-right x (f.explains.inside x b)) (bits_sub f.assigned x b));
            opens = λ x g b. R.opens x (reads-left x g) b;
          }

      -- to the right side: the left one is known
      pub required_other_right : Right net m w left y p → Required net a t m w right v (bit_or r p)
      required_other_right i =
          let f = i y0 in
          record {
            low = R.low;
            forces = λ σ h q.
                join_cases (val d) (truth (formula_at net left) σ) (truth (formula_at net right) σ) (as_gate σ (on_left r p h) q ∙ ap val e)
                (λ z. differ (val d) (truth (formula_at net left) σ) z (f.explains.forces σ (on_right r p h) ∙ val-not y d y0 f.low (omega arith) (omega arith) n))
                (λ z. z ∙ sym (ap val e));
            assigned = or-sub R.assigned f.assigned;
            inside = λ x z. or_cases (bit r x) (bit p x) (sym (bit-or r p x) ∙ z) (R.inside x)
                (λ b. R.opens x (reads-left x (f.explains.inside x b)) (bits_sub f.assigned x b));
            opens = λ x g b. R.opens x (reads-right x g) b;
          }

  -- a quantifier that wants its body so for all values, and binds no assigned variable
  pub required_body : 6 ≤ op → (v ≡ decides op → ⊥) → Apart m mask → Required net a t m w left v r
  required_body l n p =
      let u : val v ≡ not (val (decides op)) = val-not v (decides op) s R.low (decides-some op) (decides-low op) n in
      record {
        low = R.low;
        forces = λ σ h q.
            over_misses (val (decides op)) mask (formula_at net left) σ
            (sym (ap (λ (f : Formula). truth f σ) (f-binds G I l)) ∙ R.forces σ h q ∙ u) σ (λ x z. refl)
            ∙ sym u;
        assigned = R.assigned;
        inside = R.inside;
        opens = λ x f b. R.opens x
            (ap (λ (g : Formula). free g x) (f-binds G I l) ∙ over-free (val (decides op)) mask (formula_at net left) x ∙ rw (f, bits_apart p x b)) b;
      }

-- ---- the wants

module _ {net : List ℕ} {a t m w : ℕ} where
  -- node k is stored with what is required of it
  pub wanted_set : {k v r head head' : ℕ} {wants wants' : List ℕ} → HasCell wants k → Wanted net a t m w wants → Required net a t m w k v r
      → Stored k v r head wants wants' head' → Wanted net a t m w wants'
  wanted_set {k} {v} {r} {wants = wants} {wants' = wants'} h W R S =
      record {
        long = omega (arith, W.long, stored-long S);
        each = λ i l. by_bool (eqb i k)
            (λ e. rw (eqb-true i k e, stored-value S h R.low, stored-reason S h) (λ z. R))
            (λ e. rw (other-value S i (λ q. omega tests), other-reason S i (λ q. omega tests)) (W.each i l));
      }

  pub wanted_at : {k v r : ℕ} {wants : List ℕ} → k ≤ a → Wanted net a t m w wants → v ≡ value_of wants k → r ≡ reason_of wants k → 0 < v → Required net a t m w k v r
  wanted_at {k} l W p q = rw (p, q) (W.each k l)

  pub wanted_wiped : {wants wants' : List ℕ} → Wiped a wants wants' → length net ≤ 67 + length wants → Wanted net a t m w wants'
  wanted_wiped p l = record { long = omega (arith, p.same); each = λ k h z. absurd (omega (arith, p.none k h)) }

-- ---- node k names node i: both scratches have a place for it

pub named-fits : {net cells : List ℕ} {n m w k i v : ℕ} → (Ground net × HasNode net k × Judged net m w cells × (length net ≤ 67 + n)) → i < k → v < 3
    → HasCell cells i × (2 * i + 1 < n) × (i < 65535) × (v < 3)
named-fits h l s = (omega (arith, h.1, h.2.long), omega (arith, h.1, h.3), omega (arith, h.1, h.0.few), s)

-- ---- wiping: the first i words are 0

pub record Wiping (i : ℕ) (wants₀ wants : List ℕ) : Type 0 where
  pub same : length wants ≡ length wants₀
  pub zeros : (j : ℕ) → j < i → get_or wants j 0 ≡ 0

pub wiping_none : (wants : List ℕ) → Wiping 0 wants wants
wiping_none wants = record { same = refl; zeros = λ j h. absurd (omega arith) }

pub wiping_more : {i : ℕ} {wants₀ wants : List ℕ} → i < length wants → Wiping i wants₀ wants → Wiping (i + 1) wants₀ (set wants i 0)
wiping_more {i} {wants = wants} l p =
    record {
      same = length-set wants i 0 ∙ p.same;
      zeros = λ j h. by_bool (eqb j i)
          (λ e. rw (eqb-true j i e) (get_or-set_same wants i 0 0 l))
          (λ e. get_or-set_other wants i j 0 0 (λ q. omega tests) ∙ p.zeros j (omega tests));
    }

pub wiping-end : {i a : ℕ} {wants₀ wants : List ℕ} → 2 * a + 2 ≤ i → Wiping i wants₀ wants → Wiped a wants₀ wants
unfolding value_of
wiping-end l p = record { same = p.same; none = λ k h. rw (p.zeros (2 * k) (omega arith)) }

-- the words in front are filled with 0
pub wiped_front : {a : ℕ} {front wants : List ℕ} → HasCell wants a → front ≡ replicate (length (take (2 * a + 2) wants)) 0 → Wiped a wants (front ++ drop (2 * a + 2) wants)
unfolding value_of
wiped_front {a} {front} {wants} l e =
    let n : length (take (2 * a + 2) wants) ≡ 2 * a + 2 = simp length-take (omega arith) in
    let z : front ≡ replicate (2 * a + 2) 0 = rw n at e in
    let long : length front ≡ 2 * a + 2 = rw z (length-replicate {A = ℕ} (2 * a + 2) 0) in
    record {
      same = simp (length-append, length-drop) (omega arith);
      none = λ k h. rw (get_or_append_left front (drop (2 * a + 2) wants) 0 (2 * k) (omega arith), z, get_or-replicate {A = ℕ} (2 * a + 2) (2 * k) 0 0 (omega arith));
    }

-- ---- variables that are forced

-- what is wanted of an input
pub why-reads : {net : List ℕ} {a t m w k v r op left right mask : ℕ} → Ground net → Is net k op left right mask → Required net a t m w k v r → op ≡ 2
    → Why net a t m w left (val v) r
unfolding truth
why-reads G I R e =
    record {
      forces = λ σ h q. sym (ap (λ (f : Formula). truth f σ) (f-reads G I e)) ∙ R.forces σ h q;
      assigned = R.assigned;
      inside = R.inside;
    }

pub forcing_none : {net : List ℕ} {a t loose m w X U : ℕ} {whys : List ℕ} → length whys ≡ 64 → X ≡ 0 → U ≡ 0 → Forcing net a t loose m w X U whys
forcing_none {loose = loose} l ex eu =
    rw (ex, eu) (record { long = l; loose_only = none-sub loose; valued = none-sub 0; each = λ x e. clash (bit 0 x) e (bit-none x) })

module _ {net : List ℕ} {a t loose m w X U : ℕ} {whys : List ℕ} (F : Forcing net a t loose m w X U whys) where
  -- one variable x more, with the value v because of r
  pub forcing_more : {x v r X' U' : ℕ} → x < 64 → bit loose x ≡ true → bit X x ≡ false → Why net a t m w x (val v) r → X' ≡ bit_or X (2 ^ x) → Valued U x v U'
      → Forcing net a t loose m w X' U' (set whys x r)
  forcing_more {x} {v} {r} {X'} {U'} l b n y ex eu =
      record {
        long = length-set whys x r ∙ F.long;
        loose_only = rw ex (or-sub F.loose_only (one-sub x b));
        valued = sub-bits U' X' (λ k e. rw ex (bit-or X (2 ^ x) k ∙ by_bool (eqb k x)
            (λ q. or_right (bit X k) (bit (2 ^ x) k) (bit-pow x k ∙ q))
            (λ q. or_left (bit X k) (bit (2 ^ x) k) (bits_sub F.valued k (sym (off k q) ∙ e)))));
        each = λ k e. by_bool (eqb k x)
            (λ q. subst (λ (i : ℕ). Why net a t m w i (bit U' i) (get_or (set whys x r) i 0)) (sym (eqb-true k x q))
            (rw (get_or-set_same whys x r 0 (omega (arith, F.long)), here) y))
            (λ q. rw (get_or-set_other whys x k r 0 (λ z. omega tests), off k q) (F.each k (old k q e)));
      }
    where
      off : (k : ℕ) → eqb k x ≡ false → bit U' k ≡ bit U k
      off k q =
          by_bool (val v)
          (λ z. rw (eu.yes z) (bit-or U (2 ^ x) k ∙ or-none (bit U k) (bit (2 ^ x) k) (bit-pow x k ∙ q)))
          (λ z. rw (eu.none z))

      here : bit U' x ≡ val v
      here =
          by_bool (val v)
          (λ z. rw (eu.yes z) (bit-or U (2 ^ x) x ∙ or_right (bit U x) (bit (2 ^ x) x) (bit-pow x x ∙ eq-eqb x x refl)) ∙ sym z)
          (λ z. rw (eu.none z) (by_bool (bit U x) (λ u. clash (bit X x) (bits_sub F.valued x u) n) (λ u. u)) ∙ sym z)

      old : (k : ℕ) → eqb k x ≡ false → bit X' k ≡ true → bit X k ≡ true
      old k q e =
          or_cases (bit X k) (bit (2 ^ x) k) (sym (bit-or X (2 ^ x) k) ∙ ap (λ (i : ℕ). bit i k) (sym ex) ∙ e)
          (λ z. z)
          (λ z. clash (eqb k x) (sym (bit-pow x k) ∙ z) q)

  -- as the code has it: y is x, and p its word
  pub forcing_take : {x y v r p U' : ℕ} → y ≡ x → x < 64 → bit loose y ≡ true → bit X y ≡ false
      → Why net a t m w x (val v) r → p ≡ 2 ^ y → ((z : ℕ) → p ≡ 2 ^ z → Valued U z v U') → Forcing net a t loose m w (bit_or X p) U' (set whys x r)
  forcing_take {x} e l b n h ep u =
      let q = ep ∙ ap (λ (i : ℕ). 2 ^ i) e in
      forcing_more l (subst (λ (i : ℕ). bit loose i ≡ true) e b) (subst (λ (i : ℕ). bit X i ≡ false) e n) h (ap (bit_or X) q) (u x q)
