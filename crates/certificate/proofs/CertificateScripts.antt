-- The certificate, condition 3: one claim about whole scripts, over all calls that meet run's contract. Each theorem stands under its sentence. Assumes nothing.
use Rattle.std.specs.Prelude.{ℕ, ◌<◌, ◌≡◌, ◌↔◌, List}
use Rattle.std.proofs.Common.{⊎_elim}
use Rattle.sheet.specs.Fields.{Sheet}
use Rattle.sheet.specs.Keeps.{Keeps}
use Rattle.model.specs.Model.{standing}
use Rattle.certificate.specs.Run.{book}
use Rattle.certificate.specs.Call.{Call, Lent, Meets}
use Rattle.certificate.proofs.Exists.{some_call}
use Rattle.certificate.specs.Same.{Earlier, Alike, SomeAlike, ReadApart}
use Rattle.certificate.proofs.Same.{same_alike, same-or_read, alike_same, alike_some}

-- For every sheet, script, answer buffer and tables some output meets run's contract.
pub every-input : (sheet : Sheet) (script ans under over : List ℕ) → (o : Call) × Meets sheet script o × Lent o ans under over
every-input = some_call

module _ (sheet : Sheet) (a b : List ℕ) (K : Keeps sheet) (A : Earlier a) (B : Earlier b) where
  -- Two scripts of at most 900 lines over a sheet that keeps the rules. (1) If they leave the same entries standing, then all further scripts of at most
  -- 100 lines get the same answers, byte for byte, in all runs of the one script and then the further one, and of the other and then the further one,
  -- whatever buffers and tables these are lent. (2) If for every further script some two such runs give it the same answers, then the two scripts leave
  -- the same entries standing.
  pub equal_scripts : (standing (book sheet) a ≡ standing (book sheet) b → Alike sheet a b) × (SomeAlike sheet a b → standing (book sheet) a ≡ standing (book sheet) b)
  equal_scripts = (same_alike sheet a b K A B, alike_same sheet a b K A B)

  -- Both directions in one: the same entries stand exactly if no further script tells the two apart.
  pub equal_exactly : (standing (book sheet) a ≡ standing (book sheet) b) ↔ Alike sheet a b
  equal_exactly = (same_alike sheet a b K A B, λ h. alike_same sheet a b K A B (alike_some sheet a b K A B h))

  -- If they leave different entries standing, one READ shows it: there is a place whose READ the two answer differently, in all such runs.
  pub one_read : (standing (book sheet) a ≡ standing (book sheet) b → ⊥) → (i : ℕ) × (i < 256) × ReadApart sheet a b i
  one_read f = ⊎_elim (λ s. absurd (f s)) (λ r. r) (same-or_read sheet a b K A B)
