-- The certificate, conditions 1 and 2: what every call that meets run's contract does, over a sheet of either form. Each theorem stands under its sentence. Assumes nothing.
use Rattle.std.specs.Prelude.{ℕ, ◌+◌, ◌≤◌, ◌<◌, ◌≡◌, true, false, ◌↔◌}
use Rattle.std.proofs.Common.{arith, sym, ◌∙◌, length-append, length-drop, drop_at}
use Rattle.std.proofs.Math.Path.{ap}
use mathlib.Core.List.{List, [], ◌++◌}
use Rattle.std.proofs.Math.ListN.{length, drop}
use Rattle.std.proofs.Math.Seq.{take-append-le, drop-append-le}
use Rattle.words.specs.Word.{bit}
use Rattle.words.specs.Mask.{Sub}
use Rattle.formula.specs.Ask.{Verdict, ask}
use Rattle.sheet.specs.Cause.{Refusal, Foremost}
use Rattle.form.specs.Form as Sizes
use Rattle.form.specs.Form.{answer_start}
use Rattle.form.proofs.FormLaws.{answer-before}
use Rattle.form.specs.declared.Form.{Form}
use Rattle.sheet.specs.Fields.{Sheet, frames, variables, kind}
use Rattle.sheet.specs.Rules.{gauges}
use Rattle.sheet.proofs.Gauges.{gauge_named, some_gauge}
use Rattle.sheet.specs.declared.Kind.TheVariants.{Gauge}
use Rattle.solver.specs.Contract.{root, Tables}
use Rattle.model.specs.Model.{entered_mask, entered_values, Reply, answer_bytes, refused, judged, TAKE-BACK, WHY, lines, line_at, answer_at, answers, meaning}
use Rattle.model.proofs.Line.{refused-same, refused-answer}
use Rattle.model.proofs.KindsLaws.{ask-taken, why-taken}
use Rattle.model.proofs.Script.{after_next, length-answers, answer-bytes}
use Rattle.session.specs.Step.{ask_of, why_of, searches}
use Rattle.certificate.specs.Run.{refusal, causes, book, before, kind_at, Taken, Asked, Held, as_lent, Grows, Promised-at}
use Rattle.certificate.specs.History.{RecordsTrue}
use Rattle.certificate.proofs.History.{lent-true, promised_grows, history-true, history_grows}
use Rattle.certificate.specs.Call.{Call, Meets}
use Rattle.certificate.specs.Accept.{Proper}
use Rattle.certificate.proofs.Accept.{number-proper, proper-accepted, refused_foremost}
use Rattle.certificate.proofs.Before.{before-entered}
use Rattle.certificate.specs.Verdicts.{waits, Decides, Chooses, Reason, Gauged, asked_with, Assures, GaugedReason}
use Rattle.certificate.proofs.Verdicts.{asked-decides, asked-with, calm_ask, calm_chooses, ungauged_calm, ungauged-reason, gauged-reason}
use Rattle.certificate.specs.Certificate.{line_bytes}

module _ (sheet : Sheet) (script : List ℕ) (o : Call) (R : Meets sheet script o) where
  -- the form of the sheet
  abbrev F : Form
  F = sheet.form

  -- ---- condition 1

  -- A run is accepted exactly if the sheet keeps document 01's rules, the script is at most 1,000 whole lines, and there is room for an answer a line.
  pub accepted_exactly : (o.number ≡ 0) ↔ Proper sheet script (length o.ans)
  accepted_exactly = (
    λ e. number-proper sheet script (length o.ans) (sym R.answered.number_is ∙ e),
    λ P. R.answered.number_is ∙ ap (λ (r : Refusal). r.number) (proper-accepted sheet script (length o.ans) P),
  )

  -- It is refused by a number at a place exactly if that cause holds there and none before it in document 01's order does.
  pub refused_exactly : (n k : ℕ) → 0 < n → ((o.number ≡ n) × (o.place ≡ k)) ↔ Foremost (causes sheet script (length o.ans)) (record { number = n; place = k })
  refused_exactly n k h =
      let f = refused_foremost sheet script (length o.ans) n k h in (
        λ e. f.0 (both (sym R.answered.number_is ∙ e.0) (sym R.answered.place_is ∙ e.1)),
        λ c. (R.answered.number_is ∙ ap (λ (r : Refusal). r.number) (f.1 c), R.answered.place_is ∙ ap (λ (r : Refusal). r.place) (f.1 c)),
      )
    where
      both : (refusal sheet script (length o.ans)).number ≡ n → (refusal sheet script (length o.ans)).place ≡ k
          → refusal sheet script (length o.ans) ≡ record { number = n; place = k }
      both p q = λ i. record { number = p i; place = q i }

  -- A refused run writes nothing and tells 0 records.
  pub refused_untouched : 0 < o.number → (o.ans' ≡ o.ans) × (o.under' ≡ o.under) × (o.over' ≡ o.over) × (o.cu ≡ 0) × (o.co ≡ 0)
  refused_untouched = R.answered.untouched

  module _ (accepted : o.number ≡ 0) where
    kept : Proper sheet script (length o.ans)
    kept = accepted_exactly.0 accepted

    -- An accepted run writes one answer for each line, the reference model's, from the start of the answer buffer.
    pub one_answer : (i : ℕ) → i < lines script → line_bytes F o i ≡ answer_bytes F (answer_at (book sheet) [] script i)
    unfolding answers
    one_answer i h =
        let x = answers F (book sheet) script in
        let z = drop (answer_start F (lines script)) o.ans in
        let l : answer_start F i ≤ length x = omega (arith, length-answers F (book sheet) script, answer-before F h) in
        let r : Sizes.answer_bytes F ≤ length (drop (answer_start F i) x) = rw (length-drop, length-answers) (omega (arith, answer-before F h)) in
        let e : o.ans' ≡ x ++ z = R.answered.written accepted in
        rw (e, drop-append-le (answer_start F i) x z l, take-append-le (Sizes.answer_bytes F) (drop (answer_start F i) x) z r)
        (answer-bytes F (book sheet) [] script i (lines script) h)

    -- What stands behind the answers in the buffer is as at entry, and so is the buffer's length.
    pub behind_untouched : drop (answer_start F (lines script)) o.ans' ≡ drop (answer_start F (lines script)) o.ans
    behind_untouched = rw (R.answered.written accepted) (drop_at (answers F (book sheet) script) (drop (answer_start F (lines script)) o.ans) (answer_start F (lines script)) (length-answers F (book sheet) script))

    pub same_length : length o.ans' ≡ length o.ans
    same_length = rw (R.answered.written accepted, length-append, length-drop, length-answers) (omega (arith, kept.room))

    -- ---- condition 2

    -- what ASK and WHY mean with the entries that stand before line i
    abbrev verdict_at : ℕ → Verdict
    verdict_at i = ask_of sheet (before sheet script i)

    abbrev reason_at : ℕ → Verdict
    reason_at i = why_of sheet (before sheet script i)

    ask-bytes : (i : ℕ) → Asked sheet script i → line_bytes F o i ≡ answer_bytes F (judged (verdict_at i))
    unfolding answer_at line_at meaning
    ask-bytes i q = one_answer i q.line ∙ ap (λ (r : Reply). answer_bytes F r.answer) (ask-taken (book sheet) (before sheet script i) _ _ _ _ q.taken q.kind)

    why-bytes : (i : ℕ) → Taken WHY sheet script i → line_bytes F o i ≡ answer_bytes F (judged (reason_at i))
    unfolding answer_at line_at meaning
    why-bytes i q = one_answer i q.line ∙ ap (λ (r : Reply). answer_bytes F r.answer) (why-taken (book sheet) (before sheet script i) _ _ _ _ q.taken q.kind)

    -- A variable is a gauge of the sheet exactly if a frame of kind 07 names it, reached or not.
    pub gauge_exactly : (x : ℕ) → (bit (gauges sheet) x ≡ true) ↔ ((j : ℕ) × (j < frames sheet) × (kind sheet j ≡ Gauge x))
    gauge_exactly x = (gauge_named sheet x, λ r. some_gauge sheet kept.sheet-kept r.0 x r.1 r.2)

    -- At every ASK of the script that is not refused, with the entries that then stand: the verdict is yes exactly if, for every setting of the open gauges
    -- that are not entered, some setting of the other open variables that are not entered makes the sheet's formula true. On yes the word is the smallest
    -- with those gauges at 0; on no it holds their smallest failing setting and nothing else.
    pub asked_decided : (i : ℕ) → Asked sheet script i
        → (a : Verdict) × (line_bytes F o i ≡ answer_bytes F (judged a)) × Decides (variables sheet) (root sheet) (gauges sheet) (before sheet script i) a
    asked_decided i q =
        (verdict_at i, ask-bytes i q, asked-decides sheet (before sheet script i) kept.sheet-kept (before-entered sheet script i))

    -- Where no open gauge waits to be entered, ASK is as document 01 has it: the verdict is yes exactly if some assignment that agrees with the entries
    -- makes the sheet's formula true, and the word is the smallest such word; on no it is 0. It is `ask` of formula/specs/Ask.antt.
    pub plain_decided : (i : ℕ) → Asked sheet script i → ((k : ℕ) → waits (root sheet) (gauges sheet) (before sheet script i) k ≡ false)
        → (a : Verdict) × (line_bytes F o i ≡ answer_bytes F (judged a)) × Chooses (variables sheet) (root sheet) (before sheet script i) a
        × (a ≡ ask (variables sheet) (root sheet) (entered_mask (before sheet script i)) (entered_values (before sheet script i)))
    plain_decided i q c =
        let es = before sheet script i in (
          verdict_at i,
          ask-bytes i q,
          calm_chooses sheet es kept.sheet-kept (before-entered sheet script i) c,
          calm_ask sheet es kept.sheet-kept (before-entered sheet script i) c,
        )

    -- On a sheet with no frame of kind 07 no gauge ever waits.
    pub ungauged-plain : (Gauged sheet → ⊥) → (i k : ℕ) → waits (root sheet) (gauges sheet) (before sheet script i) k ≡ false
    ungauged-plain u i = ungauged_calm sheet (before sheet script i) kept.sheet-kept (before-entered sheet script i) u

    -- At every WHY that is not refused, on a sheet with no frame of kind 07: the verdict is that of an ASK there, the variables marked force it, and none of
    -- them is idle.
    pub reason_minimal : (Gauged sheet → ⊥) → (i : ℕ) → Taken WHY sheet script i
        → (a : Verdict) × (r : Verdict) × (line_bytes F o i ≡ answer_bytes F (judged r)) × Chooses (variables sheet) (root sheet) (before sheet script i) a × Reason (root sheet) (before sheet script i) a r
    reason_minimal u i q =
        let es = before sheet script i in (
          verdict_at i,
          reason_at i,
          why-bytes i q,
          calm_chooses sheet es kept.sheet-kept (before-entered sheet script i) (ungauged-plain u i),
          ungauged-reason sheet es kept.sheet-kept (before-entered sheet script i) u,
        )

    -- And on a sheet with such a frame, reached or not: the verdict is that of an ASK there; the variables marked are entered ones, and it is the same for
    -- all values of the other entered variables; none of those marked is idle.
    pub reason-gauged : Gauged sheet → (i : ℕ) → Taken WHY sheet script i
        → (a : Verdict) × (r : Verdict) × (line_bytes F o i ≡ answer_bytes F (judged r)) × Decides (variables sheet) (root sheet) (gauges sheet) (before sheet script i) a
        × GaugedReason (variables sheet) (root sheet) (gauges sheet) (before sheet script i) a r
    reason-gauged g i q =
        let es = before sheet script i in (
          verdict_at i,
          reason_at i,
          why-bytes i q,
          asked-decides sheet es kept.sheet-kept (before-entered sheet script i),
          gauged-reason sheet es kept.sheet-kept (before-entered sheet script i) g,
        )

    -- The verdict with other values entered, of which `GaugedReason` speaks, is yes exactly if, for every assignment with those values, some assignment with
    -- the same waiting gauges has them too and makes the sheet's formula true.
    pub revalued_decided : (i y : ℕ) → Sub y (entered_mask (before sheet script i))
        → (asked_with (variables sheet) (root sheet) (gauges sheet) (before sheet script i) y ≡ true) ↔ Assures (root sheet) (gauges sheet) (before sheet script i) y
    revalued_decided i = asked-with sheet (before sheet script i) kept.sheet-kept (before-entered sheet script i)

    -- ---- the records

    -- Both tables before line i of the script, and how many records of each count; after the last line they are those at exit.
    abbrev pub records : ℕ → Held
    records i = (R.recorded accepted).records i

    -- A run starts from no record, whatever the tables hold, and ends with those that it tells.
    pub records-lent : records 0 ≡ as_lent o.under o.over
    records-lent = (R.recorded accepted).starts

    pub records-left : records (lines script) ≡ record { under = o.under'; cu = o.cu; over = o.over'; co = o.co }
    records-left = (R.recorded accepted).ends

    -- At every moment each counted record is true of its frame: under records of one that is true, over records of one that is false.
    pub always-true : (i : ℕ) → i ≤ lines script → RecordsTrue sheet (records i)
    always-true = history-true (R.recorded accepted) (lent-true sheet o.under o.over)

    pub records-true : Tables sheet o.under' o.cu o.over' o.co
    records-true = rw records-left at (always-true (lines script) (omega arith))

    -- From any line to a later one the counted records stay, and the numbers behind the counts are as found.
    pub records_stay : (i j : ℕ) → i ≤ j → j ≤ lines script → Grows sheet (records i) (records j)
    records_stay = history_grows (R.recorded accepted) (lent-true sheet o.under o.over)

    -- Records survive TAKE BACK: it leaves the tables and the counts as they are, and so do ENTER and READ.
    pub quiet_records : (i : ℕ) → i < lines script → searches (kind_at script i) ≡ false → records (i + 1) ≡ records i
    quiet_records i l e = ((R.recorded accepted).each i (omega arith)).quiet e

    pub back_records : (i : ℕ) → Taken TAKE-BACK sheet script i → records (i + 1) ≡ records i
    back_records i t = quiet_records i t.line (rw t.kind)

    -- After each ASK that is answered the table concerned is full or holds the record that document 01 promises, which on no may use the gauges of the
    -- word, too (document 02); it does so at exit too.
    pub asked_promised : (i : ℕ) → Asked sheet script i → Promised-at sheet script i (records (i + 1))
    asked_promised i a = ((R.recorded accepted).each i (omega (arith, a.line))).promised a

    pub records_promised : (i : ℕ) → Asked sheet script i → Promised-at sheet script i (record { under = o.under'; cu = o.cu; over = o.over'; co = o.co })
    records_promised i a = rw records-left at (promised_grows sheet script i (records_stay (i + 1) (lines script) (omega (arith, a.line)) (omega arith)) (asked_promised i a))

    -- ---- a refused line

    -- A refused line changes nothing: the entries and the records after it are those before it, and its answer is its number with V 0 and word 0.
    pub refused-line : (i : ℕ) → i < lines script → 0 < (answer_at (book sheet) [] script i).number
        → (before sheet script (i + 1) ≡ before sheet script i) × (records (i + 1) ≡ records i)
        × (line_bytes F o i ≡ answer_bytes F (refused (answer_at (book sheet) [] script i).number))
    unfolding answer_at line_at
    refused-line i l h =
        let es = before sheet script i in (
          after_next (book sheet) [] script i ∙ refused-same (book sheet) es _ _ _ _ h,
          ((R.recorded accepted).each i (omega arith)).refused (omega arith),
          one_answer i l ∙ ap (answer_bytes F) (refused-answer (book sheet) es _ _ _ _ h),
        )
