-- The sessions of a run, line by line: each is what the contract of a line makes of the one before. Assumes nothing.
use Rattle.std.specs.Prelude.{ℕ, ◌+◌, ◌≡◌, List}
use Rattle.std.proofs.Common.{add-one, ◌∙◌}
use Rattle.sheet.specs.Fields.{Sheet}
use Rattle.session.specs.declared.Session.{Session}
use Rattle.model.specs.Model.{after, line_at}
use Rattle.session.specs.Sound.{standing_of, WordsKept}
use Rattle.session.proofs.Sound.{empty_standing, empty_words}
use Rattle.certificate.specs.Run.{before}
use Rattle.certificate.specs.Course.{Course, Steps, begun, stepped}

module _ {sheet : Sheet} {script : List ℕ} {free : ℕ} where
  pub course_next : {i : ℕ} {x x' : Session} → Course sheet script free i x → Steps sheet script free i x x' → Course sheet script free (i + 1) x'
  course_next {i} c t = rw (add-one i) (stepped c t)

  -- the entries that stand are the reference model's
  pub course_stands : {i : ℕ} {x : Session} → Course sheet script free i x → standing_of x ≡ before sheet script i
  unfolding line_at after
  course_stands (begun e) = empty_standing e
  course_stands (stepped c t) = t.step.stands ∙ rw (course_stands c)

  -- and their words are kept
  pub course_words : {i : ℕ} {x : Session} → Course sheet script free i x → WordsKept x
  course_words (begun e) = empty_words e
  course_words (stepped c t) = t.step.sound.words
