-- From what the functions of each kind of line give to the contract of a line. Assumes nothing.
use Rattle.std.specs.Prelude.{ℕ, suc, ◌+◌, ◌-◌, ◌<◌, ◌≡◌, refl, Bool, true, false, ◌||◌, List, [], ◌∷◌, ◌++◌, length, set, take, eqb, ltb}
use Rattle.std.proofs.Common.{arith, add-one, sym, ap, ◌∙◌, length-append, take-suc, take-suc-set}
use Rattle.words.specs.Logic.{tests}
use Rattle.words.proofs.Logic.{clash, or-false}
use Rattle.words.specs.Word.{bit}
use Rattle.words.proofs.Mask.{without_more}
use Rattle.cube.specs.Cube.{Fixed, Freed}
use Rattle.cube.proofs.CubeLaws.{fixed_mask, fixed_values, freed_one}
use Rattle.formula.specs.Ask.{Verdict}
use Rattle.form.proofs.FormLaws.{few-variables}
use Rattle.sheet.specs.Fields.{Sheet, variables}
use Rattle.sheet.specs.Rules.{spare_set, gauges}
use Rattle.records.proofs.Both.{tables_same}
use Rattle.solver.specs.Contract.{root, TablesGrown, Same}
use Rattle.model.specs.declared.Entry.{Entry}
use Rattle.session.specs.declared.Session.{Session}
use Rattle.model.specs.Model.{Meaning, meaning, Reply, reply, refused, counted, told, judged, no_entry, entered_mask, entered_values, entered, ENTER, TAKE-BACK, READ, ASK, WHY, used, unknown, line_refusal, obeyed, line}
use Rattle.model.specs.Entries.{Words, entry_at}
use Rattle.model.proofs.Entries.{entered-more, entries-at-most, opens_below, mask_snoc, values_snoc, bit-entered_mask, value_none}
use Rattle.model.specs.Line.{Passes}
use Rattle.model.proofs.Line.{refusal-none, line_refused, line_taken}
use Rattle.model.proofs.Invariant.{line-keeps}
use Rattle.session.specs.Sound.{standing_of, sheet_meaning, Shaped, Fresh, Sound}
use Rattle.session.proofs.Sound.{sound_length, sound_opens}
use Rattle.session.specs.declared.script.Line.{Line}
use Rattle.session.specs.Line.{refusal_of}
use Rattle.model.specs.Causes.{Opens}
use Rattle.session.specs.Step.{ask_of, why_of, PromisedFor, Tells, Replies, Recounted, Searches, Untouched, searches, Step}

-- ---- the entries' words, one entry more and one less

module _ {mask values mask' values' : ℕ} (es : List Entry) (e : Entry) (low : e.variable < 64) (absent : entered es e.variable ≡ false) where
  -- no value is replaced: no other entry is of the variable
  pub words_more : Words es mask values → Fixed 64 mask values e.variable (eqb e.value 1) mask' values' → Words (es ++ (e ∷ [])) mask' values'
  words_more w F =
      let wide : e.variable < 64 = omega arith in
      let none : bit values e.variable ≡ false = rw w.values_are (value_none es e.variable absent) in
      record {
        mask_is = rw (mask_snoc es e) (fixed_mask F wide ∙ rw w.mask_is);
        values_are = rw (values_snoc es e) (fixed_values F wide none ∙ rw w.values_are);
      }

  -- both its bits go, and no other
  pub words_less : Words (es ++ (e ∷ [])) mask values → Freed 64 mask values e.variable mask' values' → Words es mask' values'
  words_less w F =
      let G = freed_one (omega arith) F in
      let unmasked : bit (entered_mask es) e.variable ≡ false = bit-entered_mask es e.variable ∙ absent in
      let unvalued : bit (entered_values es) e.variable ≡ false = value_none es e.variable absent in
      record {
        mask_is = G.mask ∙ rw (w.mask_is, mask_snoc es e) (without_more (entered_mask es) e.variable true unmasked);
        values_are = G.values ∙ rw (w.values_are, values_snoc es e) (without_more (entered_values es) e.variable (eqb e.value 1) unvalued);
      }

-- in a session: an entry put last, and the latest one struck
module _ {x : Session} {mask' values' : ℕ} where
  pub words_put : (e : Entry) → Shaped x → x.len < 64 → Fresh x e.variable
      → Fixed 64 x.entered.mask x.entered.values e.variable (eqb e.value 1) mask' values'
      → Words (take (x.len + 1) (set x.entries x.len e)) mask' values'
  words_put e d room f F =
      rw (add-one, take-suc-set x.entries x.len e (omega (arith, d.cells))) (words_more (standing_of x) e f.low f.absent d.words F)

  pub words_struck : Shaped x → 0 < x.len
      → Freed 64 x.entered.mask x.entered.values (entry_at x.entries (x.len - 1)).variable mask' values'
      → Words (take (x.len - 1) x.entries) mask' values'
  words_struck d some F =
      let n = x.len - 1 in
      let h : n < x.len = omega arith in
      let l : suc n ≡ x.len = omega arith in
      let front = take-suc x.entries n no_entry (omega (arith, d.cells, d.within)) in
      let t : standing_of x ≡ take n x.entries ++ (entry_at x.entries n ∷ []) = ap (λ (k : ℕ). take k x.entries) (sym l) ∙ front in
      words_less (take n x.entries) (entry_at x.entries n) (d.low n h) (d.fresh n h) (rw t at d.words) F

-- ---- a verdict told by its two parts

pub same_tells : {a : Verdict} {holds : Bool} {word number v w : ℕ} → Same a holds word
    → Tells (judged (record { holds = holds; word = word })) number v w → Tells (judged a) number v w
same_tells s t = record {
  number_is = t.number_is;
  v-is = t.v-is ∙ rw s.holds;
  word-is = t.word-is ∙ s.word;
}

-- ---- a search, put together

pub searched : {s : Sheet} {u o u' o' : List ℕ} {x x' : Session} {a : Verdict} {holds : Bool} {word cu co number v w : ℕ}
    → Same a holds word → TablesGrown s u x.kept.under o x.kept.over u' cu o' co → Recounted x cu co x'
    → Tells (judged (record { holds = holds; word = word })) number v w → Searches s x u o a x' u' o' number v w
searched e k r t = record {
  tells = same_tells e t;
  entries = r.entries;
  len = r.len;
  entered = r.entered;
  kept = rw (r.under, r.over) k;
}

-- ---- a line that the session takes, for the free variables of its sheet, is one that no cause refuses

pub takes : {s : Sheet} {free f : ℕ} {x : Session} {u o : List ℕ} {line line' : Line} → Sound s free x u o → f ≡ free
    → ((m : Meaning) → Opens m f → 0 ≡ refusal_of m (standing_of x) line) → line ≡ line' → 0 ≡ refusal_of (sheet_meaning s) (standing_of x) line'
takes {s} d e t i = rw i at (t (sheet_meaning s) (sound_opens d e))

-- ---- a line of each kind

module _ {s : Sheet} {free : ℕ} {x : Session} {u o : List ℕ} (d : Sound s free x u o) (k a b c : ℕ) where
  abbrev es : List Entry
  es = standing_of x

  abbrev m : Meaning
  m = sheet_meaning s

  -- a line that is no ASK, or is refused, and leaves the tables
  replies_step : {x' : Session} {number v word : ℕ} → (number ≡ 0 → k ≡ ASK → ⊥)
      → Replies x (line m es k a b c) x' number v word → Step s free x u o k a b c x' u o number v word
  replies_step {x'} quiet r =
      let M = r.moved in
      let t = rw (← M.kept) at d.tables in
      let same : Untouched x u o x' u o = record { under = refl; over = refl; under-count = rw M.kept; over-count = rw M.kept } in
      record {
        tells = r.tells;
        stands = M.stands;
        sound = record {
          sheet = d.sheet;
          cells = M.cells;
          within = M.within;
          entered = rw M.stands (line-keeps m es k a b c d.entered);
          words = M.words;
          tables = t;
        };
        kept = rw M.kept (tables_same d.tables);
        refused-same = λ h. same;
        quiet_same = λ h. same;
        promised = λ z e. absurd (quiet z e);
      }

  pub refused-step : {number : ℕ} → number ≡ line_refusal m es k a b c → (number ≡ 0 → ⊥) → {x' : Session} {n v w : ℕ}
      → Replies x (reply (refused number) es) x' n v w → Step s free x u o k a b c x' u o n v w
  refused-step {number} e f r =
      let l : line m es k a b c ≡ reply (refused number) es = rw e (line_refused m es k a b c (omega arith)) in
      replies_step (λ z y. f (sym r.tells.number_is ∙ z)) (rw l r)

  -- which leaves the session as it is
  pub stays-step : {number : ℕ} → number ≡ line_refusal m es k a b c → (number ≡ 0 → ⊥) → Step s free x u o k a b c x u o number 0 0
  stays-step e f = refused-step e f (record {
    tells = record { number_is = refl; v-is = refl; word-is = refl };
    moved = record { cells = d.cells; within = d.within; stands = refl; words = d.words; kept = refl };
  })

  -- a line that is not refused
  module _ {number : ℕ} (is : number ≡ line_refusal m es k a b c) (none : number ≡ 0) where
    taken : line_refusal m es k a b c ≡ 0
    taken = sym is ∙ none

    passes : Passes m es k a b c
    passes = refusal-none m es k a b c taken

    -- one more entry has its place
    pub enter_room : k ≡ ENTER → x.len < 64
    enter_room e =
        let D = entered-more (record { variable = a; value = b; desk = c }) d.entered (passes.fresh e) (passes.opened e) (passes.valued e) (passes.desked e) in
        omega (arith, simp length-append at (entries-at-most (variables s) (root s) (gauges s) D), sound_length d, few-variables s.form)

    pub enter_fresh : k ≡ ENTER → Fresh x a
    enter_fresh e = record { low = omega (arith, few-variables s.form, opens_below (variables s) (root s) (gauges s) a (passes.opened e)); absent = passes.fresh e }

    pub take_back_some : k ≡ TAKE-BACK → 0 < x.len
    take_back_some e = omega (arith, passes.standing e, sound_length d)

    pub read_there : k ≡ READ → a < x.len
    read_there e = omega (arith, passes.there e, sound_length d)

    -- what a taken line does is given as the reply y, and it is no ASK
    obeys_step : {y : Reply} → obeyed m es k a b c ≡ y → (k ≡ ASK → ⊥) → {x' : Session} {n v w : ℕ}
        → Replies x y x' n v w → Step s free x u o k a b c x' u o n v w
    obeys_step e q r = replies_step (λ z. q) (rw (line_taken m es k a b c taken, e) r)

    pub enter_step : k ≡ ENTER → {x' : Session} {n v w : ℕ}
        → Replies x (reply (counted (length es + 1)) (es ++ (record { variable = a; value = b; desk = c } ∷ []))) x' n v w → Step s free x u o k a b c x' u o n v w
    unfolding obeyed
    enter_step e r = obeys_step (rw e) (λ z. omega arith) r

    pub take_back_step : k ≡ TAKE-BACK → {x' : Session} {n v w : ℕ}
        → Replies x (reply (told (entry_at es (length es - 1))) (take (length es - 1) es)) x' n v w → Step s free x u o k a b c x' u o n v w
    unfolding obeyed
    take_back_step e r = obeys_step (rw e) (λ z. omega arith) r

    pub read_step : k ≡ READ → {x' : Session} {n v w : ℕ}
        → Replies x (reply (told (entry_at es a)) es) x' n v w → Step s free x u o k a b c x' u o n v w
    unfolding obeyed
    read_step e r = obeys_step (rw e) (λ z. omega arith) r

    -- an ASK or a WHY, which tells the verdict g
    searches-step : {g : Verdict} → obeyed m es k a b c ≡ reply (judged g) es → searches k ≡ true → {x' : Session} {u' o' : List ℕ} {n v w : ℕ}
        → Searches s x u o g x' u' o' n v w → (k ≡ ASK → PromisedFor s es u' x'.kept.under o' x'.kept.over) → Step s free x u o k a b c x' u' o' n v w
    searches-step e q {x'} r p =
        let l = line_taken m es k a b c taken ∙ e in
        let same : standing_of x' ≡ es = rw (r.entries, r.len) in
        record {
          tells = rw l r.tells;
          stands = rw l same;
          sound = record {
            sheet = d.sheet;
            cells = rw r.entries d.cells;
            within = rw r.len d.within;
            entered = rw same d.entered;
            words = rw (same, r.entered) d.words;
            tables = r.kept.tables;
          };
          kept = r.kept;
          refused-same = λ h. absurd (omega (arith, r.tells.number_is));
          quiet_same = λ h. clash (searches k) q h;
          promised = λ z. p;
        }

    pub ask-step : k ≡ ASK → {x' : Session} {u' o' : List ℕ} {n v w : ℕ}
        → Searches s x u o (ask_of s es) x' u' o' n v w → PromisedFor s es u' x'.kept.under o' x'.kept.over → Step s free x u o k a b c x' u' o' n v w
    unfolding obeyed meaning
    ask-step e r p = searches-step (rw e) (rw e) r (λ z. p)

    -- the fifth kind is what is left
    why-kind : (k ≡ ENTER → ⊥) → (k ≡ TAKE-BACK → ⊥) → (k ≡ READ → ⊥) → (k ≡ ASK → ⊥) → k ≡ WHY
    unfolding unknown
    why-kind f g h i =
        let p = or-false (ltb k ENTER) (ltb WHY k || spare_set (used k) a b c) passes.known in
        let q = or-false (ltb WHY k) (spare_set (used k) a b c) p.1 in
        omega (tests, p.0, q.0)

    pub why-step : (k ≡ ENTER → ⊥) → (k ≡ TAKE-BACK → ⊥) → (k ≡ READ → ⊥) → (k ≡ ASK → ⊥) → {x' : Session} {u' o' : List ℕ} {n v w : ℕ}
        → Searches s x u o (why_of s es) x' u' o' n v w → Step s free x u o k a b c x' u' o' n v w
    unfolding obeyed meaning
    why-step f g h i r = let e = why-kind f g h i in searches-step (rw e) (rw e) r (λ z. absurd (i z))
