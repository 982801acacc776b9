-- A run after some of its lines: what one more line adds, and what all of them give. Assumes nothing.
use Rattle.std.specs.Prelude.{ℕ, ◌+◌, ◌≤◌, ◌<◌, ◌≡◌, refl, false, List, [], ◌++◌, length, drop}
use Rattle.std.proofs.Common.{arith, sym, ◌∙◌, length-append, length-drop}
use Rattle.std.proofs.Math.Path.{ap}
use Rattle.form.specs.Form.{answers_in, answer_start}
use Rattle.form.proofs.FormLaws.{answer-none, answer-next, answers-fit, fit-answers}
use Rattle.form.specs.declared.Form.{Form}
use Rattle.sheet.specs.Fields.{Sheet, sheet_of}
use Rattle.sheet.specs.Cause.{Refusal, some_holds}
use Rattle.sheet.specs.Rules as Rules
use Rattle.sheet.specs.Check.{Checks}
use Rattle.sheet.proofs.CheckLaws.{checks_none, checks_free, checks_gauges}
use Rattle.net.specs.Layout.{free_of}
use Rattle.net.specs.Sheet.{Checked, NetOf}
use Rattle.session.specs.declared.Session.{Session}
use Rattle.model.specs.Model.{Answer, answer_bytes, lines, line_at, answer_at, answers_to, answers}
use Rattle.model.proofs.Script.{answers-none, answers_next, length-answer_bytes, length-answers_to}
use Rattle.session.specs.Sound.{standing_of, OnNet, Empty}
use Rattle.session.proofs.Sound.{empty_sound}
use Rattle.session.specs.Step.{Step, Tells, Untouched}
use Rattle.certificate.specs.Run.{causes, book, before, as_lent, Grows, LineRecords, Run}
use Rattle.certificate.proofs.History.{lent-true, history-none, history-next, history_grows}
use Rattle.certificate.specs.Course.{begun}
use Rattle.certificate.proofs.Course.{course_next, course_stands}
use Rattle.certificate.specs.Accept.{Proper}
use Rattle.certificate.proofs.Accept.{causes_numbered, number-proper, proper-accepted}
use Rattle.certificate.proofs.Before.{kept-accepted}
use Rattle.certificate.specs.Written.{written}
use Rattle.certificate.proofs.Written.{written_next}
use Rattle.certificate.specs.Progress.{LineIs, LineRun, Progress, Turns, records_of}

-- from what the code has of it, for every sheet of the form F on the net: the line's bytes, the step on them, and the answer that is written
pub line-run : (F : Form) {script net ans u o : List ℕ} {i k a b c : ℕ} {x x' : Session} {net' ans' u' o' : List ℕ} {number v word : ℕ}
    → LineIs script i k a b c
    → (net' ≡ net) × ((s : Sheet) → OnNet s net x u o → Step s (free_of net) x u o k a b c x' u' o' number v word)
    → ans' ≡ written ans (answer_start F i) (answer_bytes F (record { number = number; v = v; word = word }))
    → (net' ≡ net) × ((b : List ℕ) → OnNet (sheet_of F b) net x u o → LineRun (sheet_of F b) script (free_of net) i x ans u o x' ans' u' o')
line-run F {number = number} {v = v} {word = word} l e w = (
  e.0,
  λ b d. record {
    answer = record { number = number; v = v; word = word };
    step = rw (l.k-is, l.a-is, l.b-is, l.c-is) at (e.1 (sheet_of F b) d);
    put = w;
  },
)

-- ---- at the start

pub progress_none : {s : Sheet} {script : List ℕ} {free : ℕ} {x : Session} (ans under over : List ℕ) → Checked s free → Empty x → Progress s script free ans under over 0 x ans under over
progress_none {s} {script} {x = x} ans under over k e =
    let d = empty_sound under over k e in
    record {
      sound = d;
      course = begun e;
      told = rw (answers-none s.form (book s) [] script, answer-none s.form);
      history = rw (e.under, e.over) (history-none (as_lent under over));
    }

-- ---- one line more

-- an answer told by its parts is the answer
told-whole : (b a : Answer) → Tells a b.number b.v b.word → b ≡ a
told-whole b a t =
    ap (λ (n : ℕ). record { number = n; v = b.v; word = b.word }) t.number_is
    ∙ ap (λ (v : ℕ). record { number = a.number; v = v; word = b.word }) t.v-is
    ∙ ap (λ (w : ℕ). record { number = a.number; v = a.v; word = w }) t.word-is

module _ {s : Sheet} {script : List ℕ} {free : ℕ} {ans under over : List ℕ} {i : ℕ} {x x' : Session} {ans₁ u o ans₂ u' o' : List ℕ}
    (g : Progress s script free ans under over i x ans₁ u o) (t : LineRun s script free i x ans₁ u o x' ans₂ u' o') where
  abbrev F : Form
  F = s.form

  stands : standing_of x ≡ before s script i
  stands = course_stands g.course

  -- the answer is the reference model's
  answer-told : t.answer ≡ answer_at (book s) [] script i
  unfolding answer_at line_at
  answer-told = told-whole t.answer _ t.step.tells ∙ rw stands

  next-told : ans₂ ≡ answers_to F (book s) [] script (i + 1) ++ drop (answer_start F (i + 1)) ans
  next-told =
      let p = answers_to F (book s) [] script i in
      let bs = answer_bytes F t.answer in
      let f : answer_start F (i + 1) ≡ answer_start F i + length bs = omega (arith, answer-next F i, length-answer_bytes F t.answer) in
      rw (f, answers_next F (book s) [] script i, ← answer-told)
      (t.put ∙ rw g.told (written_next p bs ans (answer_start F i) (length-answers_to F (book s) [] script i)))

  -- tables and counts that are as they were are the same records
  same-records : Untouched x u o x' u' o' → records_of x' u' o' ≡ records_of x u o
  same-records k = λ j. record { under = k.under j; cu = k.under-count j; over = k.over j; co = k.over-count j }

  number-told : t.answer.number ≡ (answer_at (book s) [] script i).number
  number-told = ap (λ (b : Answer). b.number) answer-told

  line-records : LineRecords s script i (records_of x u o) (records_of x' u' o')
  line-records = record {
    grows = t.step.kept;
    refused = λ h. same-records (t.step.refused-same (omega (arith, number-told)));
    quiet = λ h. same-records (t.step.quiet_same h);
    promised = λ a. rw (← stands) (t.step.promised (number-told ∙ a.taken) a.kind);
  }

  pub progress_next : Progress s script free ans under over (i + 1) x' ans₂ u' o'
  progress_next = record {
    sound = t.step.sound;
    course = course_next g.course (record { under = u; over = o; under' = u'; over' = o'; answer = t.answer; step = t.step });
    told = next-told;
    history = history-next g.history line-records;
  }

-- the buffers keep their lengths
pub progress_length : {s : Sheet} {script : List ℕ} {free : ℕ} {ans under over : List ℕ} {i : ℕ} {x : Session} {ans' u o : List ℕ}
    → Progress s script free ans under over i x ans' u o → i ≤ answers_in s.form (length ans) → length ans' ≡ length ans
progress_length {s} {script} {ans = ans} {i = i} g h =
    rw (g.told, length-append, length-answers_to s.form (book s) [] script i, length-drop) (omega (arith, answers-fit s.form h))

pub progress_grows : {s : Sheet} {script : List ℕ} {free : ℕ} {ans under over : List ℕ} {i : ℕ} {x : Session} {ans' u o : List ℕ}
    → Progress s script free ans under over i x ans' u o → Grows s (as_lent under over) (records_of x u o)
progress_grows {s} {under = under} {over = over} {i = i} g =
    rw (g.history.starts, g.history.ends) at (history_grows g.history (lent-true s under over) 0 i (omega arith) (omega arith))

pub turns_none : {F : Form} {script net : List ℕ} {x : Session} (ans under over : List ℕ) → Empty x → Turns F script net ans under over 0 net x ans under over
turns_none ans under over e = record { same = refl; each = λ b k n. progress_none ans under over k e }

pub turns_next : {F : Form} {script net ans under over : List ℕ} {i : ℕ} {x x' : Session} {net₁ ans₁ u o net₂ ans₂ u' o' : List ℕ}
    → Turns F script net ans under over i net₁ x ans₁ u o
    → net₂ ≡ net₁
    → ((b : List ℕ) → OnNet (sheet_of F b) net₁ x u o → LineRun (sheet_of F b) script (free_of net₁) i x ans₁ u o x' ans₂ u' o')
    → Turns F script net ans under over (i + 1) net₂ x' ans₂ u' o'
turns_next t e l = record {
  same = e ∙ t.same;
  each = λ b k n. let g = t.each b k n in progress_next g ((rw t.same at l) b (record { net_of = n; sound = g.sound }));
}

-- what line i asks
pub turns_asked : {F : Form} {script net ans under over : List ℕ} {i : ℕ} {x : Session} {net' ans' u o : List ℕ}
    → (((b : List ℕ) × Checked (sheet_of F b) (free_of net) × NetOf (sheet_of F b) net) × (lines script ≤ answers_in F (length ans)))
    → i < lines script
    → Turns F script net ans under over i net' x ans' u o
    → ((b : List ℕ) × OnNet (sheet_of F b) net' x u o) × ((i < lines script) × (i < answers_in F (length ans')))
turns_asked k h t =
    let g = t.each k.0.0 k.0.1 k.0.2 in (
      (k.0.0, rw t.same (record { net_of = k.0.2; sound = g.sound })),
      (h, rw (progress_length g (omega (arith, h, k.1))) (omega (arith, h, k.1))),
    )

-- ---- the whole run

module _ (s : Sheet) (script ans : List ℕ) {number place free gauges : ℕ} (c : Checks (causes s script (length ans)) s number place free gauges) where
  -- no cause holds
  module _ (e : number ≡ 0) where
    proper : Proper s script (length ans)
    proper = number-proper s script (length ans) (sym c.number_is ∙ e)

    pub run_room : lines script ≤ answers_in s.form (length ans)
    run_room = fit-answers s.form proper.room

    none : some_holds (causes s script (length ans)) ≡ false
    none = checks_none c (causes_numbered s script (length ans)) e

    pub run_checked : Checked s free
    run_checked =
        let A = kept-accepted s proper.sheet-kept in
        record {
          ordered = A.ordered;
          some = A.sized.least;
          few = A.sized.most;
          opens = checks_free c none;
          once = proper.sheet-kept.once;
          closed = proper.sheet-kept.closed;
        }

    pub run-gauged : gauges ≡ Rules.gauges s
    run-gauged = checks_gauges c none

    pub run-accepted : {open-word : ℕ} {under over : List ℕ} {x : Session} {ans' u o : List ℕ} → Progress s script open-word ans under over (lines script) x ans' u o
        → Run s script ans under over ans' u o 0 0 x.kept.under x.kept.over
    unfolding answers
    run-accepted g =
        let r = proper-accepted s script (length ans) proper in
        record {
          answered = record {
            number_is = ap (λ (q : Refusal). q.number) (sym r);
            place_is = ap (λ (q : Refusal). q.place) (sym r);
            untouched = λ h. absurd (omega arith);
            written = λ z. g.told;
          };
          recorded = λ z. g.history;
        }

  pub run-refused : {under over : List ℕ} → (number ≡ 0 → ⊥) → Run s script ans under over ans under over number place 0 0
  run-refused f = record {
    answered = record {
      number_is = c.number_is;
      place_is = c.place_is;
      untouched = λ h. (refl, refl, refl, refl, refl);
      written = λ z. absurd (f z);
    };
    recorded = λ z. absurd (f z);
  }
