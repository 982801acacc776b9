-- The net with a question's quantifiers can be searched, and what the search finds there is found of what is asked. Assumes nothing.
use Rattle.std.specs.Prelude.{ℕ, ◌+◌, ◌-◌, ◌*◌, ◌≤◌, ◌<◌, ◌≡◌, Bool, not, List, length, replicate}
use Rattle.std.proofs.Common.{arith, add-zero, sym, ◌∙◌, subst, inl}
use Rattle.std.proofs.Math.Path.{ap}
use Rattle.std.proofs.Math.Bool.{true, false}
use Rattle.std.proofs.lemmas.List.{length-replicate}
use Rattle.std.specs.Int.Bits.{bit_or, or_zero_r}
use Rattle.words.specs.Logic.{not-true}
use Rattle.words.proofs.Logic.{clash, and_both}
use Rattle.words.specs.Word.{bit}
use Rattle.words.proofs.Bits.{bit-or, bit-none}
use Rattle.words.specs.Mask.{Apart, without}
use Rattle.words.proofs.Mask.{without-sum, apart-bits, apart-sub, apart-sym, sub-or-right}
use Rattle.formula.specs.Formula.{Formula, free}
use Rattle.formula.specs.Over.{over}
use Rattle.formula.proofs.Over.{over-free, over_none}
use Rattle.form.specs.declared.Form.{Form}
use Rattle.sheet.specs.Fields.{Sheet}
use Rattle.sheet.specs.Frames.{formula}
use Rattle.net.specs.Net.{at-binds}
use Rattle.net.specs.Layout.{net_words, net_form, form_same, frames_of, free_of, formula_at, Ground, HasNode, Is, val, decides}
use Rattle.net.specs.Sheet.{Faithful, net-form, net_faithful}
use Rattle.net.specs.Own.{Chosen, Stacked}
use Rattle.net.specs.OwnLaws.{stacked_none, stacked_more, chosen_same, chosen_node, chosen_formula, is_chosen, is_chosen_val}
use Rattle.proxies.specs.Growing.{Growing}
use Rattle.judge.specs.Judge.{Judged}
use Rattle.judge.specs.JudgeLaws.{judged-none}
use Rattle.imply.specs.Halves.{met_found}
use Rattle.search.specs.Search.{Settled, Solved, Checked, Lent}
use Rattle.solver.specs.Across.{root_serves, bit_opens}
use Rattle.solver.specs.Question.{asked, Masks, Asking, Layered, Placed, Scratch}

-- scratch that is all 0, of n words
pub blank_scratch : (n m : ℕ) {net cells wants : List ℕ} → length net ≤ 67 + n → 2 * m ≡ 3 * n → cells ≡ replicate n 0 → wants ≡ replicate m 0 → Scratch net cells wants
blank_scratch n m l e ec ew = record { words = n; enough = l; empty = ec; wanted = rw (ew, length-replicate) e }

-- how many words the net of a question has, by the form that it tells
pub asked_words : {s : Sheet} {net : List ℕ} {t loose all some m w : ℕ} {u : List ℕ} {cu : ℕ} {o : List ℕ} {co : ℕ} → Asking s net t loose all some m w u cu o co
    → (F : Form) → net_form net ≡ F → length net ≡ net_words F
asked_words A F e = A.masks.net_of.long ∙ ap net_words (sym (net-form A.masks.net_of) ∙ e)

-- ---- the quantifiers put

-- no variable, no node
pub layer_none : {net : List ℕ} {i d mask : ℕ} → mask ≡ 0 → Layered net i d mask net i
layer_none {net} {i} {d} {mask} e = record {
  low = omega arith;
  each = λ s base used S inside fresh. (rw (e, or_zero_r used) S, rw (e, over_none (val d) (formula_at net (frames_of base + i - 1))));
}

pub layer_put : {net : List ℕ} {i d mask : ℕ} {net' : List ℕ} → i < 3 → Chosen net i d mask net' → Layered net i d mask net' (i + 1)
layer_put {net} {i} {d} {mask} {net'} l C = record {
  low = omega arith;
  each = λ s base used S inside fresh.
      let here : frames_of base + (i + 1) - 1 ≡ frames_of net + i = omega (arith, S.frames-same) in
      let below : frames_of net + i - 1 ≡ frames_of base + i - 1 = omega (arith, S.frames-same) in (
        stacked_more S l inside fresh C,
        ap (formula_at net') here ∙ chosen_formula S l inside fresh C ∙ ap (λ (k : ℕ). over (val d) mask (formula_at net k)) below,
      );
}

-- the question, step by step
module _ {s : Sheet} {net : List ℕ} {t loose all some : ℕ} (M : Masks s net t loose all some) where
  no-mask : (m : ℕ) → Apart 0 m
  no-mask m = apart-bits 0 m (λ k e. clash (bit 0 k) e (bit-none k))

  module _ {n₁ : List ℕ} {r₁ : ℕ} (L : Layered net 0 2 some n₁ r₁) where
    pub first_stacked : Stacked s net n₁ r₁ some
    first_stacked = (L.each s net 0 (stacked_none M.net_of M.frames) M.some-free (no-mask some)).0

    module _ {n₂ : List ℕ} {r₂ : ℕ} (K : Layered n₁ r₁ 1 all n₂ r₂) where
      pub second_stacked : Stacked s net n₂ r₂ (bit_or some all)
      second_stacked = (K.each s net some first_stacked M.all-free M.some-all).0

      second_body : formula_at n₂ (frames_of net + r₂ - 1) ≡ asked net all some
      unfolding val
      second_body =
          (K.each s net some first_stacked M.all-free M.some-all).1
          ∙ ap (over false all) ((L.each s net 0 (stacked_none M.net_of M.frames) M.some-free (no-mask some)).1
          ∙ ap (λ (k : ℕ). over true some (formula_at net (k - 1))) (add-zero (frames_of net)))

      pub second_low : r₂ < 3
      second_low = omega (arith, L.low, K.low)

      pub pose_placed : {net' : List ℕ} {n own : ℕ} → Chosen n₂ r₂ t loose net' → n ≡ frames_of net' → own ≡ n + r₂ → Placed s net t loose all some net' own
      pose_placed {net'} {n} {own} C en eo =
          let S = second_stacked in
          let T = stacked_more S second_low M.loose_free M.inner_loose C in
          let place : own ≡ frames_of n₂ + r₂ = omega (arith, T.frames-same, S.frames-same) in
          let before : frames_of n₂ + r₂ - 1 ≡ frames_of net + r₂ - 1 = omega (arith, S.frames-same) in
          record {
            count = r₂;
            stacked = T;
            here = omega (arith, T.frames-same);
            node = rw place (chosen_node S second_low M.loose_free M.inner_loose C);
            body =
                ap (λ (k : ℕ). formula_at net' (k - 1)) place
                ∙ chosen_same S second_low M.loose_free M.inner_loose C (frames_of n₂ + r₂ - 1) (omega (arith, S.frames-same, M.frames))
                ∙ ap (formula_at n₂) before
                ∙ second_body;
          }

-- ---- the question searched

module _ {s : Sheet} {net : List ℕ} {t loose all some m w : ℕ} {u : List ℕ} {cu : ℕ} {o : List ℕ} {co : ℕ} (A : Asking s net t loose all some m w u cu o co)
    {net' : List ℕ} {own : ℕ} (P : Placed s net t loose all some net' own) where
  -- the values are outside the loose variables
  kept-values : without w loose ≡ w
  kept-values = omega (arith, without-sum w loose, (apart-sub (apart-sym (apart-sub A.fixed A.valued)) (sub-or-right (bit_or some all) loose)).none)

  -- its frames stand for what they stood for
  still_faithful : {φ : ℕ → Formula} → Faithful φ net → Faithful φ net'
  still_faithful B = record {
    each = λ k l q.
        let h : k < frames_of net = rw P.stacked.frames-same at l in
        rw (P.stacked.same k h) (B.each k h (sym (P.stacked.changes k h) ∙ q));
  }

  pub asked_ground : Ground net'
  asked_ground = P.stacked.grounded

  pub asked-room : HasNode net' own
  asked-room = omega (arith, asked_ground.room, P.here, P.stacked.within, P.stacked.frames-same)

  own-some : 0 < own
  own-some = omega (arith, P.here, A.masks.frames)

  -- the question reads the free variables of no mask, which the cube fixes
  covered : (x : ℕ) → free (formula_at net' own) x ≡ true → bit m x ≡ true
  covered x e =
      let f = formula_at net (frames_of net - 1) in
      let p = and_both (free (asked net all some) x) (not (bit loose x))
      (sym (ap (λ (g : Formula). free g x) (at-binds asked_ground.ordered P.node ∙ ap (over (val t) loose) P.body) ∙ over-free (val t) loose (asked net all some) x) ∙ e) in
      let q = and_both (free (over true some f) x) (not (bit all x)) (sym (over-free false all (over true some f) x) ∙ p.0) in
      let r = and_both (free f x) (not (bit some x)) (sym (over-free true some f x) ∙ q.0) in
      A.whole x
      (bit_opens A.masks.net_of x ∙ (root_serves A.masks.net_of).fewer x r.0)
      (bit-or (bit_or some all) loose x ∙ rw (bit-or some all x, not-true (bit some x) r.1, not-true (bit all x) q.1, not-true (bit loose x) p.1))

  same-free : free_of net' ≡ free_of net
  same-free = P.stacked.others 1 (inl (omega arith))

  same_form : net_form net' ≡ net_form net
  same_form = form_same net net' P.stacked.long

  -- in scratch that is all 0 nothing is known
  pub asked-blank : {cells wants : List ℕ} → Scratch net cells wants → Judged net' m w cells
  asked-blank S = judged-none S.words S.empty (omega (arith, P.stacked.long, S.enough))

  pub asked_checked : {cells : List ℕ} → Judged net' m w cells → Checked net' own m w cells
  asked_checked j = record {
    grounded = asked_ground;
    here = omega (arith, P.here, P.stacked.within, P.stacked.frames-same);
    covers = record { all = covered };
    clear = P.stacked.clear A.assigned A.fixed own;
    judged = j;
  }

  pub asked-lent : {cells wants : List ℕ} → Scratch net cells wants → Lent net' wants u cu o co
  asked-lent S = record {
    long = omega (arith, P.stacked.long, S.enough, S.wanted);
    φ = formula s;
    faithful = still_faithful (net_faithful A.masks.net_of);
    tables = rw (P.stacked.frames-same, A.masks.net_of.count, same_form, net-form A.masks.net_of) A.tables;
  }

  module _ {op left right mask : ℕ} (I : Is net' own op left right mask) where
    pub asked_binds : 6 ≤ op
    asked_binds = (is_chosen I P.node).0

    same-mask : mask ≡ loose
    same-mask = (is_chosen I P.node).2

    same_left : left ≡ own - 1
    same_left = (is_chosen I P.node).3

    -- there is a place for its body
    pub asked-body : HasNode net' left
    asked-body = omega (arith, asked-room, same_left)

    same_truth : decides op ≡ t
    same_truth = (is_chosen_val I P.node A.masks.target_some A.masks.target_low).1

    same_body : formula_at net' left ≡ asked net all some
    same_body = ap (formula_at net') same_left ∙ P.body

    -- what is found at the quantifier: its variables are free, so that the word is the least
    pub asked_solved : (found : Bool) (word r : ℕ) → Solved net' left (decides op) mask (without w mask) found word r → Settled (asked net all some) t loose w found word r
    asked_solved true word r h =
        subst (λ (g : Formula). Settled g t loose w true word r) same_body
        (met_found (rw (same-mask, same_truth, kept-values) at h) (rw same-free A.masks.loose_free))
    asked_solved false word r h =
        subst (λ (g : Formula). Settled g t loose w false word r) same_body
        (rw (same-mask, same_truth, kept-values) at h)

  -- and the tables that the search leaves
  pub asked_grown : {u' : List ℕ} {cu' : ℕ} {o' : List ℕ} {co' : ℕ}
      → Growing net' u cu o co u' cu' o' co' → Growing net u cu o co u' cu' o' co'
  asked_grown G = record {
    under = rw same_form at G.under;
    over = rw same_form at G.over;
    true-still = λ φ B T. rw (P.stacked.frames-same, same_form) at (G.true-still φ (still_faithful B) (rw (P.stacked.frames-same, same_form) T));
  }
