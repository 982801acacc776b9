-- What a C host gets from one call: the number that is returned, and the answers at exit, for every input. Assumes nothing.
use Rattle.std.specs.Prelude.{ℕ, ◌/◌, ◌%◌, ◌<◌, ◌≡◌, List, length}
use Rattle.std.proofs.Common.{arith, ◌∙◌, ap₂}
use Rattle.form.specs.Form.{answer_start}
use Rattle.form.specs.Form as Sizes
use Rattle.form.specs.declared.Form.{Form}
use Rattle.form.specs.declared.Form.TheVariants.{Narrow, Wide}
use Rattle.sheet.specs.Fields.{Sheet}
use Rattle.certificate.specs.Run.{refusal, Run}
use Rattle.certificate.proofs.Bounds.{place-below}
use Rattle.hammerloom.specs.Host.{Host, result_of, result_unit}

pub host_run : {sheet : Sheet} {script ans under over ans' under' over' : List ℕ} {number place cu co r : ℕ}
    → Run sheet script ans under over ans' under' over' number place cu co → r ≡ result_of sheet.form number place → Host sheet script ans ans' r
host_run {sheet} g e = record {
  told = e ∙ ap₂ (result_of sheet.form) g.answered.number_is g.answered.place_is;
  untouched = λ h. (g.answered.untouched (omega (arith, g.answered.number_is))).0;
  written = λ h. g.answered.written (g.answered.number_is ∙ h);
}

parts : (F : Form) (n k : ℕ) → k < Sizes.most_frames F → (result_of F n k / result_unit F ≡ n) × (result_of F n k % result_unit F ≡ k)
parts Narrow n k h = (omega arith, omega arith)
parts Wide n k h = (omega arith, omega arith)

-- The host's macros give number and place back: the number returned by the unit, and what is left over.
pub host_decodes : {sheet : Sheet} {script ans ans' : List ℕ} {r : ℕ} → Host sheet script ans ans' r
    → (r / result_unit sheet.form ≡ (refusal sheet script (length ans)).number) × (r % result_unit sheet.form ≡ (refusal sheet script (length ans)).place)
host_decodes {sheet} {script} {ans} h = rw h.told (parts sheet.form _ _ (place-below sheet script (length ans)))
