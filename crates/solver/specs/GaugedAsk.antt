-- ASK with gauges: a setting of the unread gauges that fails is looked for first; where there is none, the rest is chosen with those gauges at 0.
-- Assumes nothing.
use Rattle.std.specs.Prelude.{ℕ, ◌+◌, ◌-◌, ◌%◌, ◌≡◌, Bool, ◌&&◌, List}
use Rattle.std.proofs.Common.{arith, add-zero, ◌∙◌}
use Rattle.std.proofs.Math.Path.{refl, sym, ap}
use Rattle.std.proofs.Math.Bool.{true, false, not}
use Rattle.std.specs.Int.Bits.{bit_and, bit_or, or_zero_r}
use Rattle.words.proofs.Logic.{by_bool, clash, or-false}
use Rattle.words.specs.Word.{bit}
use Rattle.words.proofs.Bits.{bit-and, bit-or, bit-none}
use Rattle.words.specs.Mask.{Sub, without}
use Rattle.words.proofs.Mask.{bit-without, sub-bits, bits_apart, apart-bits, none-sub, sub_trans, sub-or-left, or-sub, or-sum, or_apart, apart-sub, apart-sym, agree-split, agree-sum}
use Rattle.cube.specs.Cube.{Made}
use Rattle.cube.proofs.CubeLaws.{made_sub}
use Rattle.formula.specs.Formula.{Formula, truth}
use Rattle.formula.specs.Reason.{Explains}
use Rattle.formula.proofs.Reason.{explains_truth}
use Rattle.formula.specs.Over.{over}
use Rattle.formula.proofs.Over.{over_none}
use Rattle.formula.specs.Ask.{yes, Entries, free_mask, ask}
use Rattle.formula.proofs.Ask as QuestionLaws
use Rattle.formula.specs.Gauges.{unread, ours, possible, assured, no_at}
use Rattle.formula.proofs.GaugeLaws.{unread-free, unread-apart, ours-free, ours-entered, ours-unread, may_free, set_entered, possible-ask, every-assured, assured-every, verdict-yes, verdict-no, verdict-plain}
use Rattle.form.specs.Form.{word_end}
use Rattle.form.specs.declared.Form.{Form}
use Rattle.sheet.specs.Fields.{Sheet, frames, variables}
use Rattle.sheet.specs.Frames.{formula}
use Rattle.sheet.specs.Rules.{gauges}
use Rattle.records.proofs.Table.{grown_trans}
use Rattle.records.proofs.Both.{tables_then}
use Rattle.net.specs.Stands.{Serves, over_serves, mask_below}
use Rattle.net.specs.Layout.{net_form, frames_of, free_of, gauges_of, formula_at, val}
use Rattle.net.specs.Sheet.{NetOf, net-form}
use Rattle.search.specs.Search.{Settled, Found, Lost}
use Rattle.solver.specs.Contract.{last, root, Ready, TablesGrown, verdict_of, unread_of, ours_of, Promised, Same}
use Rattle.solver.specs.Across.{found_serves, lost_serves, root_serves}
use Rattle.solver.specs.Question.{asked, Asking}
use Rattle.solver.specs.Ask.{PromisedChosen, Ensured, ready_some, ready_bounded, low_same}

-- a no by a setting that fails: what is told, and the record
pub record Failed (net : List ℕ) (assigned mask word reason : ℕ) (o : List ℕ) (co : ℕ) (o' : List ℕ) (co' : ℕ) (holds : Bool) (out : ℕ) : Type 0 where
  pub is-no : holds ≡ false
  pub told : out ≡ without word mask
  pub ensured : Ensured (net_form net) o co o' co' (frames_of net - 1) (assigned % word_end (net_form net)) (word % word_end (net_form net)) (reason % word_end (net_form net))

-- ---- the masks, as they are read off the net

module _ {s : Sheet} {net : List ℕ} (N : NetOf s net) (mask : ℕ) where
  pub unread-is : bit_and (without (free_of net) mask) (gauges_of net) ≡ unread_of s mask
  unfolding unread
  unread-is = rw (N.opens, N.gauged)

  pub ours_are : without (without (free_of net) mask) (gauges_of net) ≡ ours_of s mask
  unfolding ours
  ours_are = rw (N.opens, N.gauged)

-- ---- a sheet that is ready

module _ {s : Sheet} {net : List ℕ} {mask values : ℕ} {u : List ℕ} {cu : ℕ} {o : List ℕ} {co : ℕ} (R : Ready s net mask values u cu o co) where
  abbrev n : ℕ
  n = variables s

  abbrev f : Formula
  f = root s

  abbrev g : ℕ
  g = gauges s

  pub ready_entries : Entries n f mask values
  ready_entries = record { bounded = ready_bounded R; opened = rw R.net_of.opens at R.entered; valued = R.valued }

  pub unread_opened : Sub (unread_of s mask) (free_of net)
  unread_opened = rw R.net_of.opens (unread-free n f g mask)

  ours_opened : Sub (ours_of s mask) (free_of net)
  ours_opened = rw R.net_of.opens (ours-free n f g mask)

  -- every free variable is entered, an unread gauge, or ours
  parted : (x : ℕ) → bit (free_of net) x ≡ true → bit (unread_of s mask) x ≡ false → bit (ours_of s mask) x ≡ false → bit mask x ≡ true
  unfolding unread ours
  parted x h a b =
      go (bit (free_mask n f) x) (bit mask x) (bit g x) (ap (λ (z : ℕ). bit z x) (sym R.net_of.opens) ∙ h)
      (sym (bit-and (without (free_mask n f) mask) g x ∙ ap (λ (t : Bool). t && bit g x) (bit-without (free_mask n f) mask x)) ∙ a)
      (sym (bit-without (without (free_mask n f) mask) g x ∙ ap (λ (t : Bool). t && not (bit g x)) (bit-without (free_mask n f) mask x)) ∙ b)
    where
      go : (p q r : Bool) → p ≡ true → (p && not q) && r ≡ false → (p && not q) && not r ≡ false → q ≡ true
      go true true r e h k = refl
      go true false true e h k = sym h
      go true false false e h k = sym k
      go false q r e h k = clash false e refl

  -- the question for a setting of the unread gauges that fails
  pub failing_asking : {loose some m w : ℕ} → loose ≡ unread_of s mask → some ≡ ours_of s mask → Made mask values m w → Asking s net 1 loose 0 some m w u cu o co
  failing_asking {loose} {some} {m} {w} el es M = record {
    masks = record {
      net_of = R.net_of;
      frames = ready_some R;
      target_some = omega arith;
      target_low = omega arith;
      loose_free = rw el unread_opened;
      all-free = none-sub (free_of net);
      some-free = rw es ours_opened;
      some-all = apart-sym (apart-bits 0 some (λ k h. clash (bit 0 k) h (bit-none k)));
      inner_loose = rw (or_zero_r some, es, el) (ours-unread n f g mask);
    };
    assigned = rw M.mask R.entered;
    valued = made_sub M;
    fixed = rw (or_zero_r some, es, el, M.mask) (or_apart (ours-entered n f g mask) (unread-apart n f g mask));
    whole = λ x h k. rw M.mask (whole x h (rw (or_zero_r some, es, el) at k));
    tables = R.tables;
  }
    where
      whole : (x : ℕ) → bit (free_of net) x ≡ true → bit (bit_or (ours_of s mask) (unread_of s mask)) x ≡ false → bit mask x ≡ true
      whole x h k = let p = or-false (bit (ours_of s mask) x) (bit (unread_of s mask) x) (sym (bit-or (ours_of s mask) (unread_of s mask) x) ∙ k) in parted x h p.1 p.0

  -- what the search shows is so of the sheet
  possible_serves : Serves (possible n f g mask) (asked net 0 (ours_of s mask))
  unfolding possible
  possible_serves = rw (over_none false (over true (ours_of s mask) (formula_at net (frames_of net - 1)))) (over_serves true (ours_of s mask) (root_serves R.net_of))

  pub failing_settled : (t : ℕ) {loose some w : ℕ} (found : Bool) (word r : ℕ) → loose ≡ unread_of s mask → some ≡ ours_of s mask → w ≡ values
      → Settled (asked net 0 some) t loose w found word r → Settled (possible n f g mask) t (unread_of s mask) values found word r
  failing_settled t true word r el es ew h = found_serves possible_serves (rw (el, es, ew) at h)
  failing_settled t false word r el es ew h = lost_serves possible_serves (rw (el, es, ew) at h)

  -- ---- nothing is unread: the verdict is the chosen one

  pub answered_plain : {a : Bool} {w : ℕ} {u' : List ℕ} {cu' : ℕ} {o' : List ℕ} {co' : ℕ} → unread_of s mask ≡ 0
      → Same (ask n f mask values) a w × TablesGrown s u cu o co u' cu' o' co' × PromisedChosen s mask values (ask n f mask values) u' cu' o' co'
      → Same (verdict_of s mask values) a w × TablesGrown s u cu o co u' cu' o' co' × Promised s mask values (verdict_of s mask values) u' cu' o' co'
  answered_plain {o' = o'} {co' = co'} q x =
      let e = verdict-plain g ready_entries q in (
        rw e x.0,
        x.1,
        rw e (x.2.0, λ h. rw (q, or_zero_r mask, (QuestionLaws.ask-none n f mask values h).1, add-zero values) (x.2.1 h)),
      )

  -- ---- a setting fails

  module _ {word r : ℕ} (h : Found (possible n f g mask) (val 1) (unread_of s mask) values word r) where
    -- the part of the word that is not entered is the setting
    pub failing_word : without word mask ≡ h.chosen
    failing_word =
        let s = agree-split mask values (values + h.chosen)
        (agree-sum mask values h.chosen R.valued (apart-sym (apart-sub (apart-sym (unread-apart n f g mask)) h.inside))) in
        rw h.is (omega (arith, s))

    failing_verdict : verdict_of s mask values ≡ no_at h.chosen
    unfolding val
    failing_verdict = verdict-no g ready_entries h.chosen h.inside
        (ap (λ (x : ℕ). truth (possible n f g mask) (bit x)) (sym h.is) ∙ explains_truth h.explains)
        (λ y l i. h.least y i (omega (arith, h.is)))

    -- the reason is of entered variables and unread gauges
    failing_inside : Sub r (bit_or mask (unread_of s mask))
    failing_inside = sub-bits r (bit_or mask (unread_of s mask)) (λ k e. bit-or mask (unread_of s mask) k
        ∙ by_bool (bit mask k) (λ m. rw m) (λ m. rw m (may_free g ready_entries k (h.explains.inside k e) m)))

    failing_explains : Explains (root s) false (bit r) (bit word)
    unfolding val possible
    failing_explains = mask_below true (ours_of s mask) r h.explains

    entered-unread : Sub (bit_or mask (unread_of s mask)) (free_of net)
    entered-unread = or-sub R.entered unread_opened

    word_opened : Sub word (free_of net)
    word_opened = rw (h.is, ← or-sum (apart-sub (apart-sym (apart-sub (unread-apart n f g mask) R.valued)) h.inside))
        (or-sub (sub_trans R.valued R.entered) (sub_trans h.inside unread_opened))

    pub answered_failed : {waiting : ℕ} {u1 : List ℕ} {c1 : ℕ} {o1 : List ℕ} {d1 : ℕ} {o2 : List ℕ} {d2 : ℕ} {a : Bool} {out : ℕ} → waiting ≡ unread_of s mask
        → TablesGrown s u cu o co u1 c1 o1 d1 → Failed net (bit_or mask waiting) mask word r o1 d1 o2 d2 a out
        → Same (verdict_of s mask values) a out × TablesGrown s u cu o co u1 c1 o2 d2 × Promised s mask values (verdict_of s mask values) u1 c1 o2 d2
    answered_failed {waiting} {a = a} {out = out} ew G D =
        let e = failing_verdict in
        let form-is = net-form R.net_of in
        let frame_is : frames_of net - 1 ≡ last s = rw R.net_of.count refl in
        let N = rw (ew, form-is, frame_is, low_same R entered-unread refl, low_same R word_opened refl, low_same R (sub_trans failing_inside entered-unread) refl) at D.ensured in (
          record { holds = D.is-no ∙ rw e; word = D.told ∙ failing_word ∙ rw e },
          record {
            tables = record { under = G.tables.under; over = N.valid (formula s) (frames s) false G.tables.over (omega (arith, R.checked.some)) failing_explains };
            under = G.under;
            over = grown_trans G.over N.grown;
          },
          rw e (λ t. clash false t refl, λ t. rw (← h.is) (N.kept failing_inside)),
        )

  -- ---- no setting fails: the rest is chosen

  module _ {r : ℕ} (h : Lost (possible n f g mask) (val 1) (unread_of s mask) values r) where
    none-fails : truth (assured n f g mask) (bit values) ≡ true
    unfolding val
    none-fails = every-assured g ready_entries (λ z i. h.explains.forces (bit (values + z))
        (λ k e. set_entered g ready_entries z i k (by_bool (bit mask k) (λ m. m)
        (λ m. clash (bit (unread_of s mask) k) (may_free g ready_entries k (h.explains.inside k e) m) (bits_apart h.apart k e)))))

    pub ready_chosen : {waiting : ℕ} {u1 : List ℕ} {c1 : ℕ} {o1 : List ℕ} {d1 : ℕ} → waiting ≡ unread_of s mask → TablesGrown s u cu o co u1 c1 o1 d1
        → Ready s net (bit_or mask waiting) values u1 c1 o1 d1
    ready_chosen {waiting} ew G = record {
      checked = R.checked;
      net_of = R.net_of;
      entered = rw ew (or-sub R.entered unread_opened);
      valued = sub_trans R.valued (sub-or-left mask waiting);
      tables = G.tables;
    }

    pub answered_chosen : {waiting : ℕ} {a : Bool} {w : ℕ} {u1 : List ℕ} {c1 : ℕ} {o1 : List ℕ} {d1 : ℕ} {u2 : List ℕ} {c2 : ℕ} {o2 : List ℕ} {d2 : ℕ} → waiting ≡ unread_of s mask
        → TablesGrown s u cu o co u1 c1 o1 d1
        → Same (ask n f (bit_or mask waiting) values) a w × TablesGrown s u1 c1 o1 d1 u2 c2 o2 d2 × PromisedChosen s (bit_or mask waiting) values (ask n f (bit_or mask waiting) values) u2 c2 o2 d2
        → Same (verdict_of s mask values) a w × TablesGrown s u cu o co u2 c2 o2 d2 × Promised s mask values (verdict_of s mask values) u2 c2 o2 d2
    answered_chosen {waiting} ew G x =
        let held : (ask n f (bit_or mask (unread_of s mask)) values).holds ≡ true =
        ap (λ (z : ℕ). (ask n f (bit_or mask (unread_of s mask)) z).holds) (sym (add-zero values))
        ∙ sym (possible-ask g ready_entries 0 (none-sub (unread_of s mask))) ∙ assured-every g ready_entries none-fails 0 (none-sub (unread_of s mask)) in
        let is : ask n f (bit_or mask (unread_of s mask)) values ≡ yes (ask n f (bit_or mask (unread_of s mask)) values).word =
        ap (λ (b : Bool). record { holds = b; word = (ask n f (bit_or mask (unread_of s mask)) values).word }) held in
        let e : verdict_of s mask values ≡ ask n f (bit_or mask (unread_of s mask)) values = verdict-yes g ready_entries none-fails is ∙ sym is in
        let y = rw ew at x in (
          rw e y.0,
          tables_then G y.1,
          rw e (y.2.0, λ t. clash (ask n f (bit_or mask (unread_of s mask)) values).holds held t),
        )

-- as the code has it: form and frames are read off the net, and a record is put of the low parts of words
pub failed_of : {net : List ℕ} {F : Form} {k assigned mask word reason a w r : ℕ} {o : List ℕ} {co : ℕ} {o' : List ℕ} {co' out : ℕ} → F ≡ net_form net → k ≡ frames_of net
    → a ≡ assigned % word_end F → w ≡ word % word_end F → r ≡ reason % word_end F → Ensured F o co o' co' (k - 1) a w r → out ≡ without word mask
    → Failed net assigned mask word reason o co o' co' false out
failed_of eF ek ea ew er N e = record { is-no = refl; told = e; ensured = rw (eF, ek) at (rw (ea, ew, er) at N) }
