-- How large a run's refusal can be: its number is at most 23, and its place is that of a frame. So on a narrow sheet both fit a byte. Assumes nothing.
use Rattle.std.specs.Prelude.{ℕ, ◌≤◌, ◌<◌, List}
use native.Mathlib.Omega.{arith}
use Rattle.words.proofs.Logic.{by_bool}
use Rattle.form.proofs.FormLaws.{some-frames}
use Rattle.form.specs.declared.Form.{Form}
use Rattle.sheet.specs.Cause.{some_holds}
use Rattle.sheet.proofs.Cause.{first_earlier, first-later}
use Rattle.sheet.specs.Fields.{Sheet, most_frames}
use Rattle.sheet.specs.Rules.{size_causes}
use Rattle.sheet.proofs.AcceptedLaws.{none_sized}
use Rattle.sheet.specs.Places.{Within, Small}
use Rattle.sheet.proofs.Places.{within_append, within_first, size-within, frames-within}
use Rattle.certificate.specs.Run.{script_causes, room_causes, refusal}

module _ (p : ℕ) (some : 0 < p) where
  script_within : (script : List ℕ) → Within p (script_causes script)
  unfolding script_causes
  script_within script = (omega arith, (some, (omega arith, (some, tt))))

  room_within : (F : Form) (script : List ℕ) (bytes : ℕ) → Within p (room_causes F script bytes)
  unfolding room_causes
  room_within F script bytes = (omega arith, (some, tt))

module _ (sheet : Sheet) (script : List ℕ) (bytes : ℕ) where
  abbrev most : ℕ
  most = most_frames sheet

  some : 0 < most
  some = some-frames sheet.form

  pub refusal_small : Small most (refusal sheet script bytes)
  refusal_small = by_bool (some_holds (size_causes sheet))
      (λ e. rw (first_earlier (size_causes sheet) _ e) (within_first most (size_causes sheet) some (size-within most some sheet)))
      (λ e. rw (first-later (size_causes sheet) _ e) (within_first most _ some (within_append most (script_causes script) _ (script_within most some script)
      (within_append most (room_causes sheet.form script bytes) _ (room_within most some sheet.form script bytes)
      (frames-within most some sheet (none_sized sheet e).most)))))

  pub number-most : (refusal sheet script bytes).number ≤ 23
  number-most = refusal_small.number

  pub place-below : (refusal sheet script bytes).place < most_frames sheet
  place-below = refusal_small.place
