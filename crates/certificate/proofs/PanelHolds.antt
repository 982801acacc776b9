-- The definitions give every panel case what document 01 says, and every case with gauges what document 02 says: computed over each table. Assumes nothing.
use Rattle.std.specs.Prelude.{ℕ, ◌≡◌, refl, ◌&&◌, ltb}
use Rattle.std.proofs.Common.{sym, ap, ◌∙◌}
use Rattle.std.proofs.Math.Path.{fun_ext}
use mathlib.Core.List.{map, flat_map}
use Rattle.words.specs.Word.{bit}
use Rattle.words.specs.Bytes.{bytes_of}
use Rattle.words.specs.Mask.{without, inside, mask_of}
use Rattle.formula.specs.Assignment.{assign, within, join}
use Rattle.formula.specs.Formula.{Formula, free}
use Rattle.formula.specs.Ask.{free_mask}
use Rattle.formula.specs.Why.{overlay, start_mask, start_word}
use Rattle.formula.specs.Gauges.{unread, ours}
use Rattle.formula.specs.Compute.{sweep_over, truth_over, first_over, ask_over, always_over, reduce_over, why_over}
use Rattle.formula.specs.GaugeCompute.{quants_over, possible_over, assured_over, least_over, fails_over, verdict_over, reason_over}
use Rattle.formula.proofs.GaugeCompute.{verdict_over-verdict, reason_over-reason}
use Rattle.form.specs.Form.{variables}
use Rattle.form.specs.declared.Form.TheVariants.{Narrow}
use Rattle.sheet.specs.Fields.{narrow, fields_at, kind_of}
use Rattle.sheet.specs.Frames.{build, tree, formula_of}
use Rattle.sheet.specs.Cause.{first}
use Rattle.sheet.specs.Rules.{some_below, used, spare_set, names, some_late, bad_range, bad_variables, binds, names_input, names_gauge, some_before, gauges, meet, named_both, binds_gauge, length_causes, field_causes, causes_below, frame_causes}
use Rattle.model.specs.Model as Model
use Rattle.model.specs.Model.{Meaning, meaning}
use Rattle.certificate.specs.Run.{script_causes, room_causes}
use Rattle.certificate.specs.Panel.{bytes_of_all, Outcome, Case, panel, gauged, outcome_by, outcome}

-- a formula's meaning through the twins of ASK and WHY that visit only its own variables
unfoldable meaning_over : ℕ → Formula → ℕ → Meaning
meaning_over n f g = record { opens = λ x. ltb x n && free f x; asks = verdict_over n f g; whys = reason_over n f g }

meaning_over-meaning : (n : ℕ) (f : Formula) (g : ℕ) → meaning_over n f g ≡ meaning n f g
unfolding meaning_over meaning
meaning_over-meaning n f g = λ i. record {
  opens = λ x. ltb x n && free f x;
  asks = λ mask values. verdict_over-verdict n f g mask values i;
  whys = λ mask values. reason_over-reason n f g mask values i;
}

unfoldable outcome_over : Case → Outcome
outcome_over c = outcome_by (meaning_over (variables Narrow)) (narrow (bytes_of_all 4 c.sheet)) (bytes_of_all 4 c.script)

outcome-over : (c : Case) → outcome c ≡ outcome_over c
unfolding outcome outcome_over
outcome-over c =
    ap (λ (m : Formula → ℕ → Meaning). outcome_by m (narrow (bytes_of_all 4 c.sheet)) (bytes_of_all 4 c.script))
    (fun_ext (λ f. fun_ext (λ g. sym (meaning_over-meaning (variables Narrow) f g))))

abbrev expected : Case → Outcome
expected c = c.expected

computed : (map outcome_over panel ≡ map expected panel) × (map outcome_over gauged ≡ map expected gauged)
unfolding panel gauged outcome_over outcome_by flat_map bytes_of
    first length_causes script_causes room_causes frame_causes causes_below field_causes
    some_below used spare_set names some_late bad_range bad_variables binds names_input names_gauge some_before gauges meet named_both binds_gauge
    fields_at kind_of build tree formula_of free within
    meaning_over verdict_over reason_over assured_over possible_over quants_over least_over fails_over unread ours
    ask_over why_over first_over truth_over sweep_over always_over reduce_over free_mask mask_of join assign overlay start_mask start_word without inside bit
    Model.entered_mask Model.entered_values Model.entered Model.answer_bytes Model.used Model.unknown Model.line_refusal Model.obeyed Model.line Model.line_at Model.after Model.answer_at Model.answers_to Model.answers
computed = (refl, refl)

-- The definitions give every case of the table what document 01 says: the refusal with its place, or the answers.
pub panel-holds : map outcome panel ≡ map expected panel
panel-holds = ap (λ (g : Case → Outcome). map g panel) (fun_ext outcome-over) ∙ computed.0

-- And every worked case with gauges what document 02 says.
pub gauged-holds : map outcome gauged ≡ map expected gauged
gauged-holds = ap (λ (g : Case → Outcome). map g gauged) (fun_ext outcome-over) ∙ computed.1
