-- For every input some output meets run's contract: the reference model's answers, and for each ASK that is answered the record that its verdict calls for,
-- while there is room; no other line keeps one. Assumes nothing.
use Rattle.std.specs.Prelude.{ℕ, zero, suc, ◌+◌, ◌<◌, ◌≡◌, refl, Bool, true, false, ◌&&◌, List, ◌++◌, length, drop, eqb, ltb}
use Rattle.std.proofs.Common.{arith, add-one, sym, ◌∙◌, subst, eq-eqb, eqb-true}
use Rattle.std.proofs.lemmas.List.Edits.{sets}
use Rattle.std.specs.Int.Bits.{bit_or}
use Rattle.words.specs.Logic.{tests}
use Rattle.words.proofs.Logic.{by_bool, clash, and_both, and_intro}
use Rattle.words.specs.Word.{bit}
use Rattle.words.specs.Mask.{Sub}
use Rattle.words.proofs.Mask.{sub_refl, sub_trans, sub-lt, sub-bits, bits_sub, bits_agree, sub-or-left, sub-or-right}
use Rattle.formula.specs.Formula.{Formula, free}
use Rattle.formula.specs.Reason.{Explains}
use Rattle.formula.proofs.Reason.{explains_all, explains_mask}
use Rattle.formula.specs.Ask.{Verdict, free_mask, Entries}
use Rattle.formula.proofs.Ask.{free_mask-lt, bit-free}
use Rattle.formula.specs.Gauges.{unread, verdict}
use Rattle.formula.proofs.GaugeLaws.{set_entered, set-gauges, set-entries, verdict_smallest, verdict_failing}
use Rattle.form.specs.Form.{room, record_start, word_end, answer_start}
use Rattle.form.proofs.FormLaws.{end_power}
use Rattle.form.specs.declared.Form.{Form}
use Rattle.sheet.specs.Fields.{Sheet, frames, variables}
use Rattle.sheet.specs.Rules.{gauges}
use Rattle.sheet.specs.Keeps.{Keeps}
use Rattle.records.specs.Layout.{numbers}
use Rattle.records.proofs.Table.{grown_refl}
use Rattle.records.proofs.Both.{tables_same}
use Rattle.records.specs.Put.{Put}
use Rattle.records.proofs.PutLaws.{put_next, put_full, valid_put, kept_put}
use Rattle.certificate.specs.Exists.{keeper, is_answered}
use Rattle.solver.specs.Contract.{last, root, verdict_of, unread_of}
use Rattle.model.specs.Model.{entered_mask, entered_values, lines, answers}
use Rattle.session.specs.Step.{searches}
use Rattle.certificate.specs.Run.{refusal, book, before, kind_at, Held, as_lent, Grows, Promised-at, LineRecords, History}
use Rattle.certificate.specs.History.{RecordsTrue}
use Rattle.certificate.proofs.History.{lent-true, history-none, history-next, history-true}
use Rattle.certificate.specs.Call.{Call, Lent, Meets}
use Rattle.certificate.proofs.Accept.{number-proper}
use Rattle.certificate.proofs.Before.{before-entered, book-entries}

-- ---- one record put into a table

record OneMore (F : Form) (t : List ℕ) (count frame mask values : ℕ) : Type 0 where
  table : List ℕ
  count' : ℕ
  put : Put F t count table count' frame mask values

one_more : (F : Form) (t : List ℕ) (count frame mask values : ℕ) → mask < word_end F → values < word_end F → OneMore F t count frame mask values
one_more F t count frame mask values m v = by_bool (ltb count (room F (length t)))
    (λ e. record { table = sets t (record_start F count) (numbers F frame mask values); count' = _; put = put_next F t count frame mask values (omega tests) m v })
    (λ e. record { table = t; count' = count; put = put_full F t count frame mask values (omega tests) })

-- ---- the record that a verdict calls for is true

module _ (n : ℕ) (f : Formula) (g mask values : ℕ) (E : Entries n f mask values) where
  -- ASK's answer, and the gauges that are open and not entered
  abbrev answer : Verdict
  answer = verdict n f g mask values

  abbrev hidden : ℕ
  hidden = unread n f g mask

  yes_explains : answer.holds ≡ true → Explains f true (bit (free_mask n f)) (bit answer.word)
  yes_explains e =
      let w = answer.word in
      explains_mask (subst (λ (v : Bool). Explains f v (free f) (bit w)) (verdict_smallest g E e).holds (explains_all f (bit w)))
      (bit (free_mask n f)) (λ k. sym (bit-free E.bounded k))

  yes-inside : answer.holds ≡ true → Sub answer.word (free_mask n f)
  yes-inside e = sub-bits answer.word (free_mask n f) (λ k h. bit-free E.bounded k ∙ (verdict_smallest g E e).stays k h)

  -- the entries, and the gauges at the setting that fails
  no-entries : answer.holds ≡ false → Entries n f (bit_or mask hidden) (values + answer.word)
  no-entries e = set-entries g E answer.word (verdict_failing g E e).inside

  no_explains : answer.holds ≡ false → Explains f false (bit (bit_or mask hidden)) (bit (values + answer.word))
  no_explains e =
      let W = verdict_failing g E e in
      record {
        inside = λ k h. sym (bit-free E.bounded k) ∙ bits_sub (no-entries e).opened k h;
        forces = λ σ a. W.fails σ
            (λ k h. a k (bits_sub (sub-or-left mask hidden) k h) ∙ set_entered g E answer.word W.inside k h)
            (λ k h. a k (bits_sub (sub-or-right mask hidden) k h) ∙ set-gauges g E answer.word W.inside k h);
      }

-- ---- line i

module _ (sheet : Sheet) (script : List ℕ) (K : Keeps sheet) (i : ℕ) where
  abbrev n : ℕ
  n = variables sheet

  abbrev f : Formula
  f = root sheet

  abbrev mask : ℕ
  mask = entered_mask (before sheet script i)

  abbrev values : ℕ
  values = entered_values (before sheet script i)

  abbrev g : ℕ
  g = gauges sheet

  abbrev asked : Verdict
  asked = verdict_of sheet mask values

  entries : Entries n f mask values
  entries = book-entries sheet (before sheet script i) K (before-entered sheet script i)

  below : last sheet < frames sheet
  below = omega (arith, K.least)

  -- a set of open variables is a word of the form
  word_fits : {w : ℕ} → Sub w (free_mask n f) → w < word_end sheet.form
  word_fits s = rw (end_power sheet.form) (sub-lt n s (free_mask-lt n f))

  -- the records after line i, where they were h before it
  record Next (h : Held) : Type 0 where
    next : Held
    line : LineRecords sheet script i h next

  abbrev is_ask : Bool
  is_ask = eqb (kind_at script i) keeper

  abbrev asks : Bool
  asks = is_ask && is_answered sheet script i

  module _ (h : Held) (t : RecordsTrue sheet h) where
    -- records that grew by the one that the verdict calls for
    asked-next : asks ≡ true → (h' : Held) → Grows sheet h h' → Promised-at sheet script i h' → Next h
    asked-next e h' g p =
        let q = and_both is_ask (is_answered sheet script i) e in
        record {
          next = h';
          line = record {
            grows = g;
            refused = λ r. absurd (omega (tests, q.1));
            quiet = λ z. clash (searches (kind_at script i)) (rw (eqb-true (kind_at script i) keeper q.0)) z;
            promised = λ a. p;
          };
        }

    yes-next : asks ≡ true → asked.holds ≡ true → Next h
    yes-next a e =
        let s = yes-inside n f g mask values entries e in
        let G = one_more sheet.form h.under h.cu (last sheet) (free_mask n f) asked.word (word_fits (sub_refl (free_mask n f))) (word_fits s) in
        let valid = valid_put t.under G.put below s (yes_explains n f g mask values entries e) in
        asked-next a (record { under = G.table; cu = G.count'; over = h.over; co = h.co })
        (record { tables = record { under = valid; over = t.over }; under = G.put.grown; over = grown_refl sheet.form h.over h.co }) (
          λ y. kept_put (free_mask n f) asked.word G.put (sub_refl (free_mask n f)) (bits_agree _ _ _ s (λ k i. refl)),
          λ n. clash asked.holds e n,
        )

    no-next : asks ≡ true → asked.holds ≡ false → Next h
    no-next a e =
        let m = bit_or mask (unread_of sheet mask) in
        let w = values + asked.word in
        let E = no-entries n f g mask values entries e in
        let G = one_more sheet.form h.over h.co (last sheet) m w (word_fits E.opened) (word_fits (sub_trans E.valued E.opened)) in
        let valid = valid_put t.over G.put below E.valued (no_explains n f g mask values entries e) in
        asked-next a (record { under = h.under; cu = h.cu; over = G.table; co = G.count' })
        (record { tables = record { under = t.under; over = valid }; under = grown_refl sheet.form h.under h.cu; over = G.put.grown }) (
          λ y. clash asked.holds y e,
          λ n. kept_put m w G.put (sub_refl m) (bits_agree _ _ _ E.valued (λ k i. refl)),
        )

    other-next : asks ≡ false → Next h
    other-next e = record {
      next = h;
      line = record {
        grows = tables_same t;
        refused = λ r. refl;
        quiet = λ z. refl;
        promised = λ a. clash asks (and_intro is_ask (is_answered sheet script i) (eq-eqb _ _ a.kind) (eq-eqb _ _ a.taken)) e;
      };
    }

    some_next : Next h
    some_next = by_bool asks (λ a. by_bool asked.holds (yes-next a) (no-next a)) other-next

-- ---- the first n lines

record Filled (sheet : Sheet) (script under over : List ℕ) (n : ℕ) : Type 0 where
  exit : Held
  history : History sheet script n (as_lent under over) exit

module _ (sheet : Sheet) (script under over : List ℕ) (K : Keeps sheet) where
  filled-true : {n : ℕ} (F : Filled sheet script under over n) → RecordsTrue sheet F.exit
  filled-true {n} F = rw F.history.ends at (history-true F.history (lent-true sheet under over) n (omega arith))

  filled_next : (n : ℕ) (F : Filled sheet script under over n) → Next sheet script K n F.exit → Filled sheet script under over (n + 1)
  filled_next n F S = record { exit = S.next; history = history-next F.history S.line }

  filled : (n : ℕ) → Filled sheet script under over n
  filled zero = record { exit = as_lent under over; history = history-none (as_lent under over) }
  filled (suc n) = subst (Filled sheet script under over) (add-one n) (filled_next n (filled n) (some_next sheet script K n (filled n).exit (filled-true (filled n))))

-- ---- an output for every input

module _ (sheet : Sheet) (script ans under over : List ℕ) where
  abbrev number : ℕ
  number = (refusal sheet script (length ans)).number

  abbrev place : ℕ
  place = (refusal sheet script (length ans)).place

  refused_call : 0 < number → (o : Call) × Meets sheet script o × Lent o ans under over
  refused_call h = (
    record { ans = ans; under = under; over = over; ans' = ans; under' = under; over' = over; number = number; place = place; cu = 0; co = 0 },
    record {
      answered = record { number_is = refl; place_is = refl; untouched = λ l. (refl, refl, refl, refl, refl); written = λ e. absurd (omega arith) };
      recorded = λ e. absurd (omega arith);
    },
    record { ans-is = refl; under-is = refl; over-is = refl },
  )

  accepted_call : number ≡ 0 → (o : Call) × Meets sheet script o × Lent o ans under over
  accepted_call e =
      let F = filled sheet script under over (number-proper sheet script (length ans) e).sheet-kept (lines script) in (
        record {
          ans = ans;
          under = under;
          over = over;
          ans' = answers sheet.form (book sheet) script ++ drop (answer_start sheet.form (lines script)) ans;
          under' = F.exit.under;
          over' = F.exit.over;
          number = number;
          place = place;
          cu = F.exit.cu;
          co = F.exit.co;
        },
        record {
          answered = record { number_is = refl; place_is = refl; untouched = λ l. absurd (omega arith); written = λ z. refl };
          recorded = λ z. F.history;
        },
        record { ans-is = refl; under-is = refl; over-is = refl },
      )

  pub some_call : (o : Call) × Meets sheet script o × Lent o ans under over
  some_call = by_bool (eqb number 0) (λ t. accepted_call (omega tests)) (λ t. refused_call (omega tests))
