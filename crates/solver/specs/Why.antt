-- What WHY does: each variable in turn is dropped or kept as the definition says. Assumes nothing.
use Rattle.std.specs.Prelude.{ℕ, suc, ◌-◌, ◌≤◌, ◌<◌, ◌^◌, ◌≡◌, refl, true, false, not, List, eqb}
use Rattle.std.proofs.Common.{arith, sym, ◌∙◌, eqb-true}
use Rattle.std.proofs.Math.Path.{ap}
use Rattle.std.specs.Int.Bits.{bit_or}
use Rattle.words.proofs.Logic.{by_bool, clash, not-not}
use Rattle.words.specs.Word.{bit}
use Rattle.words.proofs.Bits.{bit-pow}
use Rattle.words.specs.Mask.{Sub, Apart, without}
use Rattle.words.proofs.Mask.{sub_refl, bits_apart, bits_sub, sub_trans, sub-without, without_sub, without-apart, apart-sub, apart-sym, apart-bits}
use Rattle.cube.specs.Cube.{Freed}
use Rattle.cube.proofs.CubeLaws.{freed_sub, freed_one}
use Rattle.formula.specs.Assignment.{On}
use Rattle.formula.specs.Formula.{Formula}
use Rattle.formula.specs.Reason.{Explains}
use Rattle.formula.proofs.Reason.{explains_truth, explains_set}
use Rattle.formula.specs.Why.{reduce}
use Rattle.formula.proofs.Why.{explains_always, fails-always, reduce-drop, reduce-keep, reduce_skip}
use Rattle.form.proofs.FormLaws.{few-variables}
use Rattle.sheet.specs.Fields.{Sheet, variables}
use Rattle.records.proofs.Both.{tables_same, tables_then}
use Rattle.net.specs.Layout.{net_form, free_of, val, val_flip}
use Rattle.net.specs.Sheet.{net-form}
use Rattle.search.specs.Search.{Found, Lost}
use Rattle.imply.specs.Halves.{bit_plus, off-mask, or-none}
use Rattle.solver.specs.Contract.{Ready, TablesGrown}
use Rattle.solver.specs.Across.{found_serves, lost_serves}
use Rattle.solver.specs.Question.{asked, Asking}
use Rattle.form.specs.Form as Sizes
use Rattle.solver.specs.Aim.{asked_of, Aimed, aimed_serves, aimed_bounded, aimed_inside, aimed_asking, off_cube}

-- what is left of w is the cube m, y, inside which the variables of r force the truth v of φ
pub record Held (φ : Formula) (v w m y r : ℕ) : Type 0 where
  pub same : (k : ℕ) → bit m k ≡ true → bit y k ≡ bit w k
  pub explains : Explains φ (val v) (bit r) (bit w)
  pub inside : Sub r m

-- one turn of the definition's fold, at variable x: the cube m, y with reason r becomes m', y' with r'
pub record Turned (n : ℕ) (φ : Formula) (v m y r x m' y' r' : ℕ) : Type 0 where
  pub less : Sub m' m
  pub valued : Sub y m → Sub y' m'
  pub held : (w : ℕ) → Held φ v w m y r → Held φ v w m' y' r'
  pub step : (w : ℕ) → Held φ v w m y r → reduce n φ w (val v) (suc x) m ≡ reduce n φ w (val v) x m'

-- ---- one turn

-- the variable is not there
pub turned_absent : {n : ℕ} {φ : Formula} {v m y r x : ℕ} → bit m x ≡ false → Turned n φ v m y r x m y r
turned_absent {n} {φ} {v} {m} {x = x} e = record {
  less = sub_refl m;
  valued = λ i. i;
  held = λ w h. h;
  step = λ w h. reduce_skip n φ w (val v) x m e;
}

-- the cube m, y without x is m', y'
module _ {s : Sheet} {net : List ℕ} {m y : ℕ} {u : List ℕ} {cu : ℕ} {o : List ℕ} {co : ℕ} (R : Ready s net m y u cu o co)
    {all some : ℕ} (A : Aimed net all some m) {v x : ℕ} (a : 0 < v) (b : v < 3) (l : x < 64) {m' y' : ℕ} (F : Freed 64 m y x m' y') where
  mask_is : m' ≡ without m (2 ^ x)
  mask_is = (freed_one l F).mask

  values_are : y' ≡ without y (2 ^ x)
  values_are = (freed_one l F).values

  less_sub : Sub m' m
  less_sub = rw mask_is (without_sub m (2 ^ x))

  still-same : (w : ℕ) → ((k : ℕ) → bit m k ≡ true → bit y k ≡ bit w k) → (k : ℕ) → bit m' k ≡ true → bit y' k ≡ bit w k
  still-same w h k e =
      let c = rw mask_is at e in
      ap (λ (z : ℕ). bit z k) values_are ∙ off-mask y (2 ^ x) k (bits_apart (without-apart m (2 ^ x)) k c) ∙ h k (bits_sub (without_sub m (2 ^ x)) k c)

  -- it is outside the proved reason
  pub turned_idle : {r : ℕ} → bit r x ≡ false → Turned (variables s) (asked_of s all some) v m y r x m' y' r
  turned_idle {r} e = record {
    less = less_sub;
    valued = λ i. freed_sub F i;
    held = λ w h. record { same = still-same w h.same; explains = h.explains; inside = rw mask_is (stays h) };
    step = λ w h. rw mask_is (reduce-drop (variables s) (asked_of s all some) w (val v) x m (explains_always (variables s) (asked_of s all some) (without m (2 ^ x)) w (val v) r h.explains (stays h)));
  }
    where
      stays : {w : ℕ} → Held (asked_of s all some) v w m y r → Sub r (without m (2 ^ x))
      stays h = sub-without h.inside (apart-bits r (2 ^ x) (λ k i. bit-pow x k ∙ by_bool (eqb k x) (λ q. clash (bit r k) i (ap (bit r) (eqb-true k x q) ∙ e)) (λ q. q)))

  -- the search for the other truth t with x dropped; q are the variables that what is asked hangs on
  module _ {q loose t : ℕ} (eq : q ≡ without (free_of net) (bit_or some all)) (el : loose ≡ without q m') (et : t ≡ 3 - v) where
    pub less_asking : Asking s net t loose all some m' y' u cu o co
    less_asking = aimed_asking R A eq el t (omega (arith, et)) (omega (arith, et)) less_sub (freed_sub F R.valued)

    other_truth : val t ≡ not (val v)
    other_truth = ap val et ∙ val_flip v a b

    -- it shows that x is idle
    pub turned_dropped : {r z : ℕ} → Lost (asked net all some) (val t) loose y' z → Turned (variables s) (asked_of s all some) v m y r x m' y' z
    turned_dropped {r} {z} h = record {
      less = less_sub;
      valued = λ i. freed_sub F i;
      held = λ w g. record { same = still-same w g.same; explains = shown w g; inside = inside_it };
      step = λ w g. rw mask_is (reduce-drop (variables s) (asked_of s all some) w (val v) x m (explains_always (variables s) (asked_of s all some) (without m (2 ^ x)) w (val v) z (shown w g) (rw mask_is at inside_it)));
    }
      where
        lost : Lost (asked_of s all some) (val t) loose y' z
        lost = lost_serves (aimed_serves R A) h

        truth-is : not (val t) ≡ val v
        truth-is = ap not other_truth ∙ not-not (val v)

        inside_it : Sub z m'
        inside_it = aimed_inside R A eq el lost.explains lost.apart

        shown : (w : ℕ) → Held (asked_of s all some) v w m y r → Explains (asked_of s all some) (val v) (bit z) (bit w)
        shown w g = explains_set (rw truth-is at lost.explains) (bit w) (λ k i. still-same w g.same k (bits_sub inside_it k i))

    -- it shows that x is not
    pub turned-kept : {r word z : ℕ} → Found (asked net all some) (val t) loose y' word z → Turned (variables s) (asked_of s all some) v m y r x m y r
    turned-kept {r} {word} {z} h = record {
      less = sub_refl m;
      valued = λ i. i;
      held = λ w g. g;
      step = λ w g. reduce-keep (variables s) (asked_of s all some) w (val v) x m
          (fails-always (variables s) (asked_of s all some) (without m (2 ^ x)) w (val v) (aimed_bounded R A) (bit word) (agrees w g) (explains_truth found.explains ∙ other_truth));
    }
      where
        found : Found (asked_of s all some) (val t) loose y' word z
        found = found_serves (aimed_serves R A) h

        chosen_off : Apart m' found.chosen
        chosen_off = apart-sub (apart-sym (off_cube R A eq el)) found.inside

        agrees : (w : ℕ) → Held (asked_of s all some) v w m y r → On (bit (without m (2 ^ x))) (bit word) (bit w)
        agrees w g k i =
            let c = rw (sym mask_is) at i in
            ap (λ (d : ℕ). bit d k) found.is
            ∙ bit_plus (apart-sym (apart-sub (apart-sym chosen_off) (freed_sub F R.valued))) k
            ∙ or-none (bit y' k) (bit found.chosen k) (bits_apart chosen_off k c)
            ∙ still-same w g.same k c

-- ---- the loop over the variables: after those from x on, m, y with the reason r are left of the start m₀, w

pub record Reducing (s : Sheet) (net : List ℕ) (φ : Formula) (v m₀ w : ℕ) (u₀ : List ℕ) (cu₀ : ℕ) (o₀ : List ℕ) (co₀ x m y r : ℕ) (u : List ℕ) (cu : ℕ) (o : List ℕ) (co : ℕ) : Type 0 where
  pub turned : reduce (variables s) φ w (val v) (variables s) m₀ ≡ reduce (variables s) φ w (val v) x m
  pub less : Sub m m₀
  pub held : Held φ v w m y r
  pub ready : Ready s net m y u cu o co
  pub kept : TablesGrown s u₀ cu₀ o₀ co₀ u cu o co

-- for every sheet whose net it is
pub record Turning (net : List ℕ) (all some v m₀ w r₀ : ℕ) (u₀ : List ℕ) (cu₀ : ℕ) (o₀ : List ℕ) (co₀ x m y r : ℕ) (now u : List ℕ) (cu : ℕ) (o : List ℕ) (co : ℕ) : Type 0 where
  pub low : x ≤ 64
  pub same : now ≡ net
  pub each : (s : Sheet) → Ready s net m₀ w u₀ cu₀ o₀ co₀ → Held (asked_of s all some) v w m₀ w r₀ → Reducing s net (asked_of s all some) v m₀ w u₀ cu₀ o₀ co₀ x m y r u cu o co

pub turning_start : {net : List ℕ} {all some v m w r : ℕ} {u : List ℕ} {cu : ℕ} {o : List ℕ} {co x : ℕ} → x ≡ Sizes.variables (net_form net)
    → Turning net all some v m w r u cu o co x m w r net u cu o co
turning_start {net} {all} {some} {v} {m} {w} {x = x} e = record {
  low = omega (arith, e, few-variables (net_form net));
  same = refl;
  each = λ s R h.
      let every : variables s ≡ x = ap Sizes.variables (sym (net-form R.net_of)) ∙ sym e in
      record { turned = ap (λ (z : ℕ). reduce (variables s) (asked_of s all some) w (val v) z m) every; less = sub_refl m; held = h; ready = R; kept = tables_same R.tables };
}

module _ {net : List ℕ} {all some v m₀ w r₀ : ℕ} {u₀ : List ℕ} {cu₀ : ℕ} {o₀ : List ℕ} {co₀ x m y r : ℕ} {now u : List ℕ} {cu : ℕ} {o : List ℕ} {co : ℕ}
    (I : Turning net all some v m₀ w r₀ u₀ cu₀ o₀ co₀ x m y r now u cu o co) where
  pub turning_next : {m' y' r' : ℕ} {now' u' : List ℕ} {cu' : ℕ} {o' : List ℕ} {co' : ℕ} → 0 < x
      → now' ≡ now
      → ((s : Sheet) → Ready s now m y u cu o co → Turned (variables s) (asked_of s all some) v m y r (x - 1) m' y' r' × TablesGrown s u cu o co u' cu' o' co')
      → Turning net all some v m₀ w r₀ u₀ cu₀ o₀ co₀ (x - 1) m' y' r' now' u' cu' o' co'
  turning_next {m'} {y'} {r'} {u' = u'} {cu' = cu'} {o' = o'} {co' = co'} p e t = record {
    low = omega (arith, I.low);
    same = e ∙ I.same;
    each = λ s R h. step s (I.each s R h) (rw I.same at (t s));
  }
    where
      one : x ≡ suc (x - 1)
      one = omega arith

      step : (s : Sheet) → Reducing s net (asked_of s all some) v m₀ w u₀ cu₀ o₀ co₀ x m y r u cu o co
          → (Ready s net m y u cu o co → Turned (variables s) (asked_of s all some) v m y r (x - 1) m' y' r' × TablesGrown s u cu o co u' cu' o' co')
          → Reducing s net (asked_of s all some) v m₀ w u₀ cu₀ o₀ co₀ (x - 1) m' y' r' u' cu' o' co'
      step s J g =
          let T = g J.ready in
          record {
            turned = J.turned ∙ ap (λ (z : ℕ). reduce (variables s) (asked_of s all some) w (val v) z m) one ∙ T.0.step w J.held;
            less = sub_trans T.0.less J.less;
            held = T.0.held w J.held;
            ready = record {
              checked = J.ready.checked;
              net_of = J.ready.net_of;
              entered = sub_trans T.0.less J.ready.entered;
              valued = T.0.valued J.ready.valued;
              tables = T.1.tables;
            };
            kept = tables_then J.kept T.1;
          }

  pub turning-end : x ≡ 0 → (s : Sheet) → Ready s net m₀ w u₀ cu₀ o₀ co₀ → Held (asked_of s all some) v w m₀ w r₀
      → (m ≡ reduce (variables s) (asked_of s all some) w (val v) (variables s) m₀) × TablesGrown s u₀ cu₀ o₀ co₀ u cu o co
  unfolding reduce
  turning-end e s R h =
      let J = I.each s R h in
      (sym (J.turned ∙ ap (λ (z : ℕ). reduce (variables s) (asked_of s all some) w (val v) z m) e), J.kept)
