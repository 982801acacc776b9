-- From what the search finds to the reason: where WHY starts, without gauges and with them, and that what is left is what the definition says. Assumes nothing.
use Rattle.std.specs.Prelude.{ℕ, ◌<◌, ◌≡◌, Bool, true, List}
use Rattle.std.proofs.Common.{arith, sym, ◌∙◌, ne_eqb}
use Rattle.std.proofs.Math.Path.{refl, ap}
use Rattle.std.proofs.Math.Bool.{false}
use Rattle.words.specs.Word.{bit}
use Rattle.words.specs.Mask.{Sub, Apart, without}
use Rattle.words.proofs.Mask.{sub-bits, sub_refl, bits_apart, without-apart, or_apart, apart-sub, apart-sym}
use Rattle.cube.specs.Cube.{Made}
use Rattle.cube.proofs.CubeLaws.{made_sub, made_same}
use Rattle.formula.specs.Formula.{Formula}
use Rattle.formula.specs.Reason.{Explains}
use Rattle.formula.proofs.Reason.{explains_truth, explains_set}
use Rattle.formula.specs.Why.{reduce, why, start_mask, start_word}
use Rattle.sheet.specs.Fields.{Sheet, variables}
use Rattle.net.specs.Stands.{mask_decided, mask-undecided}
use Rattle.net.specs.Layout.{free_of, val, gauges_of}
use Rattle.search.specs.Search.{Found, Lost}
use Rattle.imply.specs.Halves.{bit_plus, or-none, off-sub}
use Rattle.solver.specs.Contract.{root, Ready, TablesGrown, verdict_of, reason_of, unread_of, ours_of, Same}
use Rattle.solver.specs.Across.{found_serves, lost_serves}
use Rattle.solver.specs.Question.{asked}
use Rattle.solver.specs.Ask.{reason-free, word-free, ask-found, ask-lost}
use Rattle.formula.specs.Gauges.{possible, assured}
use Rattle.formula.proofs.GaugeLaws.{unread-free, unread-apart, ours-free, ours-entered, ours-unread, verdict-holds, assured-entered, reason-plain, reason-is}
use Rattle.sheet.specs.Rules.{gauges}
use Rattle.solver.specs.GaugedAsk.{ready_entries}
use Rattle.solver.specs.Aim.{asked_of, Aimed, aimed_none, asked-none, aimed_serves, aimed_inside, plain_reach}
use Rattle.solver.specs.Why.{Held}

-- a cube of free variables to start from, with the tables that the search left
ready_from : {s : Sheet} {net : List ℕ} {mask values : ℕ} {u : List ℕ} {cu : ℕ} {o : List ℕ} {co : ℕ} → Ready s net mask values u cu o co
    → {m w : ℕ} {u1 : List ℕ} {c1 : ℕ} {o1 : List ℕ} {d1 : ℕ} → Sub m (free_of net) → Sub w m → TablesGrown s u cu o co u1 c1 o1 d1 → Ready s net m w u1 c1 o1 d1
ready_from R i j k = record { checked = R.checked; net_of = R.net_of; entered = i; valued = j; tables = k.tables }

-- the cube of the entries
pub ready_entered : {s : Sheet} {net : List ℕ} {mask values : ℕ} {u : List ℕ} {cu : ℕ} {o : List ℕ} {co : ℕ} → Ready s net mask values u cu o co
    → {m w : ℕ} → Made mask values m w → {u1 : List ℕ} {c1 : ℕ} {o1 : List ℕ} {d1 : ℕ} → TablesGrown s u cu o co u1 c1 o1 d1 → Ready s net m w u1 c1 o1 d1
ready_entered R M k = ready_from R (rw M.mask R.entered) (made_sub M) k

-- ---- on a sheet without gauges

module _ {s : Sheet} {net : List ℕ} {mask values : ℕ} {u : List ℕ} {cu : ℕ} {o : List ℕ} {co : ℕ} (R : Ready s net mask values u cu o co)
    {f loose m w : ℕ} (ef : f ≡ free_of net) (el : loose ≡ without f mask) (M : Made mask values m w) where
  start_loose : loose ≡ without (free_of net) mask
  start_loose = rw ef at el

  start-values : w ≡ values
  start-values = made_same M R.valued

  -- a yes: the free variables, with the word that was found
  module _ {word r n y : ℕ} (h : Found (asked net 0 0) (val 2) loose w word r) (N : Made f word n y) where
    found : Found (asked_of s 0 0) (val 2) loose w word r
    found = found_serves (aimed_serves R (aimed_none net mask)) h

    found-root : Found (root s) (val 2) loose w word r
    found-root = rw (asked-none s) at found

    found_word : y ≡ word
    found_word = made_same N (rw ef (word-free R start_loose start-values found-root))

    pub ready_yes : {u1 : List ℕ} {c1 : ℕ} {o1 : List ℕ} {d1 : ℕ} → TablesGrown s u cu o co u1 c1 o1 d1 → Ready s net n y u1 c1 o1 d1
    ready_yes k = ready_from R (rw (N.mask, ef) (sub_refl (free_of net))) (made_sub N) k

    pub held-yes : Held (asked_of s 0 0) 2 y n y r
    held-yes = record { same = λ k e. refl; explains = rw found_word found.explains; inside = rw (N.mask, ef) (reason-free R found-root.explains) }

    pub why-yes : {m' : ℕ} → m' ≡ reduce (variables s) (asked_of s 0 0) y (val 2) (variables s) n → Same (why (variables s) (root s) mask values) true m'
    unfolding why start_mask start_word val
    why-yes q =
        let e = ask-found R start_loose start-values found-root in
        record { holds = rw e; word = rw (e, q, asked-none s, found_word, N.mask, ef, R.net_of.opens) }

  -- a no: the entries
  module _ {r : ℕ} (h : Lost (asked net 0 0) (val 2) loose w r) where
    lost : Lost (asked_of s 0 0) (val 2) loose w r
    lost = lost_serves (aimed_serves R (aimed_none net mask)) h

    pub held-no : Held (asked_of s 0 0) 1 w m w r
    unfolding val
    held-no = record { same = λ k e. refl; explains = lost.explains; inside = rw M.mask (aimed_inside R (aimed_none net mask) (plain_reach R ef el M) el lost.explains lost.apart) }

    pub why-no : {m' : ℕ} → m' ≡ reduce (variables s) (asked_of s 0 0) w (val 1) (variables s) m → Same (why (variables s) (root s) mask values) false m'
    unfolding why start_mask start_word val
    why-no q =
        let e = ask-lost R start_loose start-values (rw (asked-none s) at lost) in
        record { holds = rw e; word = rw (e, q, asked-none s, start-values, M.mask) }

-- where there is no gauge, document 01's reason is the one that is asked for
pub reason-none : {s : Sheet} {net : List ℕ} {mask values : ℕ} {u : List ℕ} {cu : ℕ} {o : List ℕ} {co : ℕ} → Ready s net mask values u cu o co
    → {v : Bool} {word : ℕ} → gauges_of net ≡ 0 → Same (why (variables s) (root s) mask values) v word → Same (reason_of s mask values) v word
reason-none {s} {mask = mask} {values = values} R e h = rw (sym R.net_of.gauged ∙ e, reason-plain (variables s) (root s) mask values) h

-- ---- on a sheet with gauges: from the entries

module _ {s : Sheet} {net : List ℕ} {mask values : ℕ} {u : List ℕ} {cu : ℕ} {o : List ℕ} {co : ℕ} (R : Ready s net mask values u cu o co)
    {all some m w : ℕ} (ea : all ≡ unread_of s mask) (es : some ≡ ours_of s mask) (M : Made mask values m w) where
  abbrev goal : Formula
  goal = assured (variables s) (root s) (gauges s) mask

  entered-values : w ≡ values
  entered-values = made_same M R.valued

  goal-is : asked_of s all some ≡ goal
  unfolding assured possible
  goal-is = rw (ea, es)

  pub gauged_aimed : Aimed net all some m
  gauged_aimed = record {
    all-free = rw (ea, R.net_of.opens) (unread-free (variables s) (root s) (gauges s) mask);
    some-free = rw (es, R.net_of.opens) (ours-free (variables s) (root s) (gauges s) mask);
    some-all = rw (ea, es) (ours-unread (variables s) (root s) (gauges s) mask);
    fixed = rw (ea, es, M.mask) (or_apart (ours-entered (variables s) (root s) (gauges s) mask) (unread-apart (variables s) (root s) (gauges s) mask));
  }

  -- a reason of what is asked has entered variables only
  held-from : {v q r : ℕ} → q ≡ r → Explains goal (val v) (bit r) (bit values) → Held (asked_of s all some) v w m w q
  held-from {r = r} e E = rw (goal-is, entered-values, M.mask, e) (record { same = λ k i. refl; explains = E; inside = sub-bits r mask (λ k i. assured-entered (gauges s) (ready_entries R) k (E.inside k i)) })

  -- a no: some setting of the unread gauges fails
  pub held-fails : {word r q : ℕ} → Found (possible (variables s) (root s) (gauges s) mask) (val 1) (unread_of s mask) values word r → q ≡ without r all
      → Held (asked_of s all some) 1 w m w q
  unfolding assured val
  held-fails {word} {r} h e = held-from (e ∙ ap (without r) ea)
      (explains_set (mask_decided false (unread_of s mask) r h.explains) (bit values) (λ k i.
      ap (λ (x : ℕ). bit x k) h.is ∙ bit_plus apart_chosen k
      ∙ or-none (bit values k) (bit h.chosen k) (off-sub h.inside k (bits_apart (without-apart r (unread_of s mask)) k i))))
    where
      apart_chosen : Apart values h.chosen
      apart_chosen = apart-sub (apart-sym (apart-sub (unread-apart (variables s) (root s) (gauges s) mask) R.valued)) h.inside

  -- a yes: none does
  pub held-assured : {r : ℕ} → Lost (possible (variables s) (root s) (gauges s) mask) (val 1) (unread_of s mask) values r → Held (asked_of s all some) 2 w m w r
  unfolding assured val
  held-assured {r} h = held-from refl (mask-undecided false (unread_of s mask) r h.explains h.apart)

  -- what is left is the reason
  module _ (g : 0 < gauges_of net) where
    reason-held : {v q m' : ℕ} → Held (asked_of s all some) v w m w q → m' ≡ reduce (variables s) (asked_of s all some) w (val v) (variables s) m → Same (reason_of s mask values) (val v) m'
    reason-held {v} h e =
        let i = reason-is (gauges s) (ne_eqb (gauges s) 0 (λ z. omega (arith, g, R.net_of.gauged))) (ready_entries R) in
        let t : (verdict_of s mask values).holds ≡ val v = verdict-holds (gauges s) (ready_entries R) ∙ explains_truth (rw (goal-is, entered-values) at h.explains) in
        record { holds = rw (i, t); word = rw (i, t, e, goal-is, entered-values, M.mask) }

    pub reason-no : {q m' : ℕ} → Held (asked_of s all some) 1 w m w q → m' ≡ reduce (variables s) (asked_of s all some) w (val 1) (variables s) m → Same (reason_of s mask values) false m'
    unfolding val
    reason-no h e = reason-held h e

    pub reason-yes : {q m' : ℕ} → Held (asked_of s all some) 2 w m w q → m' ≡ reduce (variables s) (asked_of s all some) w (val 2) (variables s) m → Same (reason_of s mask values) true m'
    unfolding val
    reason-yes h e = reason-held h e
