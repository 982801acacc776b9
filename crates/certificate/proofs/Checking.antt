-- The check of a run in parts: an earlier list of causes refuses, or the later one decides. Assumes nothing.
use Rattle.std.specs.Prelude.{ℕ, ◌≤◌, ◌<◌, ◌≡◌, refl, true, false, List, [], ◌∷◌, ◌++◌, ltb}
use Rattle.std.proofs.Common.{arith, sym, ap, ◌∙◌, append_assoc, le-ltb, ltb-false}
use Rattle.words.proofs.Logic.{by_bool}
use Rattle.form.specs.Form.{answers_in, answer_start}
use Rattle.form.proofs.FormLaws.{answers-fit, fit-answers}
use Rattle.form.specs.declared.Form.{Form}
use Rattle.sheet.specs.Cause.{Cause, Refusal, first, some_holds, Numbered}
use Rattle.sheet.proofs.Cause.{some_append, first_earlier, first-later, none_first, first-none}
use Rattle.sheet.specs.Fields.{Sheet}
use Rattle.sheet.specs.Rules.{length_causes, size_causes, frame_causes}
use Rattle.sheet.proofs.RuleLaws.{size_numbered}
use Rattle.sheet.specs.Check.{Checks}
use Rattle.certificate.specs.Run.{script_causes, room_causes, causes}
use Rattle.certificate.proofs.Accept.{run_numbered}
use Rattle.certificate.specs.Checking.{AtZero}

first-at-zero : (cs : List Cause) → AtZero cs → (first cs).place ≡ 0
unfolding first
first-at-zero [] z = refl
first-at-zero (c ∷ cs) z = by_bool c.holds (λ e. rw e z.0) (λ e. rw e (first-at-zero cs z.1))

module _ (cs ds : List Cause) (s : Sheet) where
  -- a cause of the earlier list holds
  earlier_checks : AtZero cs → {number : ℕ} → number ≡ (first cs).number → (number ≡ 0 → ⊥) → Checks (cs ++ ds) s number 0 0 0
  earlier_checks z {number} e f =
      let h = by_bool (some_holds cs) (λ t. t) (λ t. absurd (f (e ∙ ap (λ (r : Refusal). r.number) (none_first cs t)))) in
      let q = first_earlier cs ds h in
      record {
        number_is = e ∙ ap (λ (r : Refusal). r.number) (sym q);
        place_is = sym (first-at-zero cs z) ∙ ap (λ (r : Refusal). r.place) (sym q);
        free-is = rw (some_append cs ds, h);
        gauges_are = rw (some_append cs ds, h);
      }

  -- none of them does
  later_checks : Numbered cs → (first cs).number ≡ 0 → {number place free gauges : ℕ} → Checks ds s number place free gauges → Checks (cs ++ ds) s number place free gauges
  later_checks n e c =
      let h = first-none cs n e in
      let q = first-later cs ds h in
      record {
        number_is = c.number_is ∙ ap (λ (r : Refusal). r.number) (sym q);
        place_is = c.place_is ∙ ap (λ (r : Refusal). r.place) (sym q);
        free-is = c.free-is ∙ rw (some_append cs ds, h);
        gauges_are = c.gauges_are ∙ rw (some_append cs ds, h);
      }

-- there is room for n answers exactly if so many fit
module _ (F : Form) (n bytes : ℕ) {fit : ℕ} (e : fit ≡ answers_in F bytes) where
  pub room-short : fit < n → ltb bytes (answer_start F n) ≡ true
  room-short h = by_bool (ltb bytes (answer_start F n)) (λ t. t) (λ t. absurd (omega (arith, h, fit-answers F (ltb-false bytes (answer_start F n) t))))

  pub room-enough : n ≤ fit → ltb bytes (answer_start F n) ≡ false
  room-enough h = le-ltb bytes (answer_start F n) (answers-fit F (omega arith))

module _ (sheet : Sheet) (script : List ℕ) (room : ℕ) where
  -- of the script and the answer buffer
  abbrev between : List Cause
  between = script_causes script ++ room_causes sheet.form script room

  size-at-zero : AtZero (size_causes sheet)
  unfolding length_causes
  size-at-zero = (refl, (refl, tt))

  script_at_zero : AtZero between
  unfolding script_causes room_causes
  script_at_zero = (refl, (refl, (refl, tt)))

  -- the sheet's size refuses
  pub size_checks : {number : ℕ} → number ≡ (first (size_causes sheet)).number → (number ≡ 0 → ⊥) → Checks (causes sheet script room) sheet number 0 0 0
  size_checks e f = earlier_checks (size_causes sheet) _ sheet size-at-zero e f

  -- it does not
  module _ {size : ℕ} (sized : size ≡ (first (size_causes sheet)).number) (none : size ≡ 0) where
    pub size_none : some_holds (size_causes sheet) ≡ false
    size_none = first-none (size_causes sheet) (size_numbered sheet) (sym sized ∙ none)

    after-size : {number place free gauges : ℕ} → Checks (between ++ frame_causes sheet) sheet number place free gauges
        → Checks (causes sheet script room) sheet number place free gauges
    after-size c = later_checks (size_causes sheet) _ sheet (size_numbered sheet) (sym sized ∙ none) (rw append_assoc at c)

    -- the script or the room refuses
    pub script_checks : {number : ℕ} → number ≡ (first between).number → (number ≡ 0 → ⊥)
        → Checks (causes sheet script room) sheet number 0 0 0
    script_checks e f = after-size (earlier_checks between (frame_causes sheet) sheet script_at_zero e f)

    -- neither does: the frames decide
    pub frames_checks : {fault number place free gauges : ℕ} → fault ≡ (first between).number → fault ≡ 0
        → Checks (frame_causes sheet) sheet number place free gauges → Checks (causes sheet script room) sheet number place free gauges
    frames_checks e z c = after-size (later_checks between (frame_causes sheet) sheet (run_numbered sheet.form script room) (sym e ∙ z) c)
