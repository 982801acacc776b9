-- The certificate, of desks: two scripts that differ in the desks of their ENTER lines alone, all at most 7 (`DesksAlone`). Assumes nothing.
use Rattle.std.specs.Prelude.{ℕ, ◌<◌, ◌≡◌, refl, false, List, [], length, get_or}
use Rattle.std.proofs.Common.{sym, ap, ◌∙◌}
use Rattle.form.specs.declared.Form.{Form}
use Rattle.sheet.specs.Fields.{Sheet}
use Rattle.sheet.specs.Cause.{Refusal}
use Rattle.model.specs.Model.{answer_bytes, lines, answer_at, standing}
use Rattle.model.proofs.Entries.{none-entered}
use Rattle.model.specs.Desks.{DesksAlone, without_desks, tells_entry, SameButDesk, desk_byte}
use Rattle.model.proofs.Desks.{same_bytes, bytes_but_desk, desks_after, desks_answer}
use Rattle.certificate.specs.Run.{script_causes, room_causes, refusal, book, before, kind_at}
use Rattle.certificate.specs.Call.{Call, Meets}
use Rattle.certificate.specs.Certificate.{line_bytes}
use Rattle.certificate.proofs.Certificate.{one_answer}

module _ (sheet : Sheet) (a b : List ℕ) (D : DesksAlone a b) where
  -- the form of the sheet
  abbrev F : Form
  F = sheet.form

  -- Before each line the same variables stand with the same values, in the same order.
  pub desks_before : (i : ℕ) → without_desks (before sheet a i) ≡ without_desks (before sheet b i)
  desks_before = desks_after (book sheet) a b D [] [] (none-entered (book sheet)) (none-entered (book sheet)) refl

  -- And so they do after the last.
  pub desks_standing : without_desks (standing (book sheet) a) ≡ without_desks (standing (book sheet) b)
  unfolding standing
  desks_standing = desks_before (lines a) ∙ rw D.long

  answer : (i : ℕ) → SameButDesk (kind_at a i) (answer_at (book sheet) [] a i) (answer_at (book sheet) [] b i)
  answer = desks_answer (book sheet) a b D [] [] (none-entered (book sheet)) (none-entered (book sheet)) refl

  same-refusal : (n : ℕ) → refusal sheet a n ≡ refusal sheet b n
  unfolding script_causes room_causes
  same-refusal n = rw D.long

  module _ (A B : Call) (R : Meets sheet a A) (S : Meets sheet b B) where
    -- With answer buffers of one length both runs are accepted, or both are refused by the same number at the same place.
    pub desks_refused : length A.ans ≡ length B.ans → (A.number ≡ B.number) × (A.place ≡ B.place)
    desks_refused e =
        let s : refusal sheet a (length A.ans) ≡ refusal sheet b (length B.ans) = same-refusal (length A.ans) ∙ ap (refusal sheet b) e in (
          R.answered.number_is ∙ ap (λ (r : Refusal). r.number) s ∙ sym S.answered.number_is,
          R.answered.place_is ∙ ap (λ (r : Refusal). r.place) s ∙ sym S.answered.place_is,
        )

    module _ (first : A.number ≡ 0) (second : B.number ≡ 0) (i : ℕ) (here : i < lines a) where
      bytes_a : line_bytes F A i ≡ answer_bytes F (answer_at (book sheet) [] a i)
      bytes_a = one_answer sheet a A R first i here

      bytes_b : line_bytes F B i ≡ answer_bytes F (answer_at (book sheet) [] b i)
      bytes_b = one_answer sheet b B S second i (rw (← D.long) here)

      -- Accepted, they answer each line but TAKE BACK and READ by the same bytes: the same verdicts, words of ASK, and reasons.
      pub desks_judged : tells_entry (kind_at a i) ≡ false → line_bytes F A i ≡ line_bytes F B i
      desks_judged t = bytes_a ∙ same_bytes _ _ _ (answer i) F t ∙ sym bytes_b

      -- And every line, TAKE BACK and READ too, by the same bytes but for the last but one, where the desk is told: the same refusal,
      -- variable and value.
      pub desks_told : (j : ℕ) → (j ≡ desk_byte F → ⊥) → get_or (line_bytes F A i) j 0 ≡ get_or (line_bytes F B i) j 0
      desks_told j f = rw (bytes_a, bytes_b) (bytes_but_desk _ _ _ (answer i) F j f)
