-- ASK where every free variable that is not entered is ours to choose: the smallest word from what was found, and the record that document 01 promises.
-- Assumes nothing.
use Rattle.std.specs.Prelude.{ℕ, ◌+◌, ◌-◌, ◌%◌, ◌<◌, ◌≡◌, Bool, not, ◌&&◌, List}
use Rattle.std.proofs.Common.{mod-eq_of_lt, arith, sym, ◌∙◌, ap}
use Rattle.std.proofs.Math.Path.{refl}
use Rattle.std.proofs.Math.Bool.{true, false}
use Rattle.std.specs.Int.Bits.{bit_and}
use Rattle.words.proofs.Logic.{clash}
use Rattle.words.specs.Word.{bit}
use Rattle.words.specs.Mask.{Sub, Apart, without}
use Rattle.words.proofs.Mask.{bit-without, sub-bits, bits_apart, bits_sub, and-sub, bits_masked, sub-lt, sub_refl, sub_trans, or-sum, or-sub, without_sub, without-apart, apart-sub, apart-sym}
use Rattle.cube.specs.Cube.{Made}
use Rattle.cube.proofs.CubeLaws.{made_same}
use Rattle.formula.specs.Assignment.{Assignment}
use Rattle.formula.specs.Formula.{Formula, truth}
use Rattle.formula.specs.Reason.{Explains}
use Rattle.formula.proofs.Reason.{explains_truth}
use Rattle.formula.proofs.ReasonWord.{word-values}
use Rattle.formula.specs.Over.{over}
use Rattle.formula.proofs.Over.{over_none}
use Rattle.formula.specs.Ask.{Verdict, Bounded, free_mask, ask, yes}
use Rattle.formula.proofs.Ask.{free_mask-lt, ask_chosen, ask_explained}
use Rattle.formula.specs.Ask as Question
use Rattle.form.specs.Form.{word_end}
use Rattle.form.proofs.FormLaws.{end_power}
use Rattle.form.specs.declared.Form.{Form}
use Rattle.sheet.specs.Fields.{Sheet, frames, variables}
use Rattle.sheet.specs.Frames.{formula}
use Rattle.records.specs.Table.{Valid, Grown, Kept, matches}
use Rattle.records.proofs.Table.{grown_refl, grown_trans}
use Rattle.records.specs.Put.{Put}
use Rattle.records.proofs.PutLaws.{valid_put, kept_put}
use Rattle.records.specs.Search.{FirstBelow}
use Rattle.records.proofs.SearchLaws.{first-kept}
use Rattle.net.specs.Layout.{net_form, frames_of, free_of, formula_at, val}
use Rattle.net.specs.Sheet.{net-form}
use Rattle.proxies.specs.Growing.{Growing}
use Rattle.search.specs.Search.{Found, Lost}
use Rattle.solver.specs.Contract.{last, root, Ready, TablesGrown, Same}
use Rattle.solver.specs.Across.{found_serves, lost_serves, root_serves, bit_opens, grown_sheet}
use Rattle.solver.specs.Question.{asked}

-- document 01's promise after such an ASK: the table concerned is full, or holds a record of the last frame that agrees with the word (yes), or with the
-- entries and with a mask inside the entered variables (no)
abbrev pub PromisedChosen : Sheet → ℕ → ℕ → Verdict → List ℕ → ℕ → List ℕ → ℕ → Type 0
PromisedChosen s mask values a u cu o co =
    (a.holds ≡ true → Kept s.form u cu (last s) (free_mask (variables s) (root s)) a.word)
    × (a.holds ≡ false → Kept s.form o co (last s) mask values)

-- with no mask, what is asked is the last frame
pub asked-none : (net : List ℕ) → asked net 0 0 ≡ formula_at net (frames_of net - 1)
asked-none net = over_none false (over true 0 (formula_at net (frames_of net - 1))) ∙ over_none true (formula_at net (frames_of net - 1))

-- a record that matches is kept, and the table stays true where the reason holds
pub record Ensured (F : Form) (t : List ℕ) (count : ℕ) (t' : List ℕ) (count' frame assigned setting reason : ℕ) : Type 0 where
  pub grown : Grown F t count t' count'
  pub kept : Sub reason assigned → Kept F t' count' frame assigned setting
  pub valid : (φ : ℕ → Formula) (n : ℕ) (v : Bool) → Valid F φ n v t count → frame < n → Explains (φ frame) v (bit reason) (bit setting) → Valid F φ n v t' count'

pub ensured_found : {F : Form} {t : List ℕ} {count frame assigned setting j : ℕ} (reason : ℕ) → FirstBelow (matches F t frame assigned setting) count j → Ensured F t count t count frame assigned setting reason
ensured_found {F} {t} {count} {frame} {assigned} {setting} reason f = record {
  grown = grown_refl F t count;
  kept = λ i. first-kept F t count frame assigned setting f;
  valid = λ φ n v G l E. G;
}

pub ensured_put : {F : Form} {t : List ℕ} {count : ℕ} {t' : List ℕ} {count' frame : ℕ} (assigned setting : ℕ) {reason : ℕ} → Put F t count t' count' frame reason (bit_and setting reason) → Ensured F t count t' count' frame assigned setting reason
ensured_put assigned setting {reason} p = record {
  grown = p.grown;
  kept = λ i. kept_put assigned setting p i (bits_masked reason setting setting (λ k e. refl));
  valid = λ φ n v G l E. valid_put G p l (and-sub setting reason) (word-values reason setting E);
}

-- ---- a sheet that is ready

module _ {s : Sheet} {net : List ℕ} {mask values : ℕ} {u : List ℕ} {cu : ℕ} {o : List ℕ} {co : ℕ} (R : Ready s net mask values u cu o co) where
  pub ready_some : 0 < frames_of net
  ready_some = omega (arith, R.checked.some, R.net_of.count)

  pub ready_bounded : Bounded (variables s) (root s)
  ready_bounded = R.net_of.bounded

  -- what is found or lost is so of the sheet
  pub ready_found : {v : Bool} {loose w word r : ℕ} → Found (asked net 0 0) v loose w word r → Found (root s) v loose w word r
  ready_found h = found_serves (root_serves R.net_of) (rw (asked-none net) at h)

  pub ready_lost : {v : Bool} {loose w r : ℕ} → Lost (asked net 0 0) v loose w r → Lost (root s) v loose w r
  ready_lost h = lost_serves (root_serves R.net_of) (rw (asked-none net) at h)

  pub ready_grown : {u' : List ℕ} {cu' : ℕ} {o' : List ℕ} {co' : ℕ}
      → Growing net u cu o co u' cu' o' co' → TablesGrown s u cu o co u' cu' o' co'
  ready_grown G = grown_sheet R.net_of R.tables G

  -- ---- reasons and words

  pub reason-free : {r : ℕ} {v : Bool} {w : Assignment} → Explains (root s) v (bit r) w → Sub r (free_of net)
  reason-free {r} E = sub-bits r (free_of net) (λ k e. bit_opens R.net_of k ∙ E.inside k e)

  -- a reason that avoids the free variables off m lies in m
  pub reason-inside : {m r : ℕ} {v : Bool} {w : Assignment} → Explains (root s) v (bit r) w → Apart r (without (free_of net) m) → Sub r m
  reason-inside {m} {r} E a = sub-bits r m (λ k e.
      go (bit (free_of net) k) (bit m k) (bits_sub (reason-free E) k e) (sym (bit-without (free_of net) m k) ∙ bits_apart a k e))
    where
      go : (p q : Bool) → p ≡ true → (p && not q) ≡ false → q ≡ true
      go true true e f = refl
      go true false e f = sym f
      go false q e f = clash false e refl

  -- the word that was found has free variables only
  pub word-free : {v : Bool} {loose w word r : ℕ} → loose ≡ without (free_of net) mask → w ≡ values → Found (root s) v loose w word r → Sub word (free_of net)
  word-free {word = word} e ew h =
      let i = rw e at h.inside in
      let d : values + h.chosen ≡ word = ap (λ (x : ℕ). x + h.chosen) (sym ew) ∙ sym h.is in
      rw (sym d, sym (or-sum (apart-sub (apart-sym (apart-sub (without-apart (free_of net) mask) R.valued)) i)))
      (or-sub (sub_trans R.valued R.entered) (sub_trans i (without_sub (free_of net) mask)))

  -- a word of free variables has no more places than the form, so that records have all of it
  pub low_same : {x y : ℕ} → Sub x (free_of net) → y ≡ x % word_end s.form → y ≡ x
  low_same {x} i e =
      let l : x < word_end s.form = rw (end_power s.form) (sub-lt (variables s) i (rw R.net_of.opens (free_mask-lt (variables s) (root s)))) in
      e ∙ mod-eq_of_lt l

  -- ---- the verdict

  pub ask-found : {loose w word r : ℕ} → loose ≡ without (free_of net) mask → w ≡ values → Found (root s) true loose w word r → ask (variables s) (root s) mask values ≡ yes word
  ask-found {word = word} e ew h =
      let f : without (free_of net) mask ≡ without (free_mask (variables s) (root s)) mask = ap (λ (x : ℕ). without x mask) R.net_of.opens in
      let d : word ≡ values + h.chosen = h.is ∙ ap (λ (x : ℕ). x + h.chosen) ew in
      rw d
      (ask_chosen (variables s) (root s) mask values h.chosen R.valued (rw R.net_of.opens at R.entered) (rw (e, f) at h.inside)
      (ap (λ (x : ℕ). truth (root s) (bit x)) (sym d) ∙ explains_truth h.explains)
      (λ z l i. ap (λ (x : ℕ). truth (root s) (bit (x + z))) (sym ew) ∙ h.least z (rw (e, f) i) (omega (arith, h.is))))

  pub ask-lost : {loose w r : ℕ} → loose ≡ without (free_of net) mask → w ≡ values → Lost (root s) true loose w r → ask (variables s) (root s) mask values ≡ Question.no
  ask-lost {r = r} e ew h =
      ask_explained (variables s) (root s) mask values (rw ew at h.explains) (λ k i. bits_sub (reason-inside h.explains (rw e at h.apart)) k i)

  -- ---- the verdict with its record, as the code has them: f and n are read off the net, and a record is put of the low parts of words

  module _ {F : Form} {f loose m w n : ℕ} {u1 : List ℕ} {c1 : ℕ} {o1 : List ℕ} {d1 : ℕ} (eF : F ≡ net_form net) (ef : f ≡ free_of net) (el : loose ≡ without f mask) (M : Made mask values m w) (en : n ≡ frames_of net)
      (G : Growing net u cu o co u1 c1 o1 d1) where
    loose-is : loose ≡ without (free_of net) mask
    loose-is = rw ef at el

    form-is : F ≡ s.form
    form-is = eF ∙ net-form R.net_of

    values_are : w ≡ values
    values_are = made_same M R.valued

    frame_is : n - 1 ≡ last s
    frame_is = rw (en, R.net_of.count) refl

    pub answered_yes : {word r assigned setting reason : ℕ} {u2 : List ℕ} {c2 : ℕ} → Found (asked net 0 0) (val 2) loose w word r
        → assigned ≡ f % word_end F → setting ≡ word % word_end F → reason ≡ r % word_end F → Ensured F u1 c1 u2 c2 (n - 1) assigned setting reason
        → Same (ask (variables s) (root s) mask values) true word × TablesGrown s u cu o co u2 c2 o1 d1 × PromisedChosen s mask values (ask (variables s) (root s) mask values) u2 c2 o1 d1
    unfolding val
    answered_yes {assigned = assigned} h' ea es er N' =
        let h = ready_found h' in
        let k = ready_grown G in
        let a = ask-found loose-is values_are h in
        let free-is : assigned ≡ free_of net = low_same (sub_refl (free_of net)) (rw (ef, form-is) at ea) in
        let N = rw (frame_is, free-is, low_same (word-free loose-is values_are h) (rw form-is at es), low_same (reason-free h.explains) (rw form-is at er), form-is) at N' in (
          record { holds = rw a; word = rw a },
          record {
            tables = record { under = N.valid (formula s) (frames s) true k.tables.under (omega (arith, R.checked.some)) h.explains; over = k.tables.over };
            under = grown_trans k.under N.grown;
            over = k.over;
          },
          rw (a, ← R.net_of.opens) (λ t. N.kept (reason-free h.explains), λ t. clash true refl t),
        )

    pub answered_no : {r assigned setting reason : ℕ} {o2 : List ℕ} {d2 : ℕ} → Lost (asked net 0 0) (val 2) loose w r
        → assigned ≡ mask % word_end F → setting ≡ values % word_end F → reason ≡ r % word_end F → Ensured F o1 d1 o2 d2 (n - 1) assigned setting reason
        → Same (ask (variables s) (root s) mask values) false 0 × TablesGrown s u cu o co u1 c1 o2 d2 × PromisedChosen s mask values (ask (variables s) (root s) mask values) u1 c1 o2 d2
    unfolding val
    answered_no h' ea es er N' =
        let h = ready_lost h' in
        let k = ready_grown G in
        let a = ask-lost loose-is values_are h in
        let N = rw (frame_is, low_same R.entered (rw form-is at ea), low_same (sub_trans R.valued R.entered) (rw form-is at es), low_same (reason-free h.explains) (rw form-is at er), form-is) at N' in (
          record { holds = rw a; word = rw a },
          record {
            tables = record { under = k.tables.under; over = N.valid (formula s) (frames s) false k.tables.over (omega (arith, R.checked.some)) (rw values_are at h.explains) };
            under = k.under;
            over = grown_trans k.over N.grown;
          },
          rw a (λ t. clash false t refl, λ t. N.kept (reason-inside h.explains (rw loose-is at h.apart))),
        )
