-- The certificate, of the session that a run keeps: the words of its entries stand in it at every line. Assumes nothing.
use Rattle.std.specs.Prelude.{ℕ, ◌<◌, ◌≡◌, List, []}
use Rattle.std.proofs.Math.Path.{sym, ap}
use Rattle.std.proofs.Common.{◌∙◌}
use Rattle.sheet.specs.Fields.{Sheet}
use Rattle.session.specs.declared.Session.{Session}
use Rattle.model.specs.Model.{entered_mask, entered_values, line_at, answer_at}
use Rattle.model.proofs.Line.{refused-same}
use Rattle.model.specs.Entries.{Words}
use Rattle.session.specs.Sound.{standing_of}
use Rattle.certificate.specs.Run.{book, before}
use Rattle.certificate.specs.Course.{Steps, Course}
use Rattle.certificate.proofs.Course.{course_stands, course_words}

module _ (sheet : Sheet) (script : List ℕ) (free : ℕ) where
  -- In a run from no entry, after every line, refused ones included: the mask and the values that the session keeps are what its list of entries gives,
  -- and that list is the reference model's.
  pub entered_words : (i : ℕ) (x : Session) → Course sheet script free i x
      → (standing_of x ≡ before sheet script i) × Words (standing_of x) x.entered.mask x.entered.values
  entered_words i x c = (course_stands c, course_words c)

  -- A refused line leaves both words as they were.
  pub refused_words : (i : ℕ) (x x' : Session) → Course sheet script free i x → Steps sheet script free i x x' → 0 < (answer_at (book sheet) [] script i).number
      → (x'.entered.mask ≡ x.entered.mask) × (x'.entered.values ≡ x.entered.values)
  unfolding answer_at line_at
  refused_words i x x' c t h =
      let w = course_words c in
      let w' = t.step.sound.words in
      let same : standing_of x' ≡ standing_of x = t.step.stands ∙ refused-same (book sheet) (standing_of x) _ _ _ _ (rw (course_stands c) h) in (
        w'.mask_is ∙ ap entered_mask same ∙ sym w.mask_is,
        w'.values_are ∙ ap entered_values same ∙ sym w.values_are,
      )
