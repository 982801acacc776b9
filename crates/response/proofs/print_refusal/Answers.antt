-- As many bytes as an answer. Assumes nothing.
use Rattle.std.proofs.Common.{◌≡◌, ◌∙◌, ℕ, ◌/◌, ◌%◌, List, get_or, ap, arith}
use Rattle.form.specs.declared.Form.TheVariants.{Narrow, Wide}
use Rattle.sheet.specs.Told.{number_of}
use Rattle.response.proofs.PrintedLaws.{refusal-line, prints-same}
use Rattle.response.proofs.print_refusal.Goals as goal

pub returns-in-Narrow : goal.returns-in-Narrow
returns-in-Narrow c =
    let low : c.args.refused.place % 256 ≡ c.args.refused.place = omega (arith, rw c.in-Narrow.is at c.requires) in
    let l : get_or c.to_be_bytes.result 1 0 ≡ c.args.refused.place = ap (λ (b : List ℕ). get_or b 1 0) c.to_be_bytes.ensures ∙ low in
    rw c.in-Narrow.is (prints-same (refusal-line Narrow (number_of c.args.refused.fault) _) (rw (c.in-Narrow.is, c.number-number.ensures, l) at c.print_answers.ensures))

pub returns-in-Wide : goal.returns-in-Wide
returns-in-Wide c =
    let high : c.args.refused.place / 256 % 256 ≡ c.args.refused.place / 256 = omega (arith, rw c.in-Wide.is at c.requires) in
    let h : get_or c.to_be_bytes.result 0 0 ≡ c.args.refused.place / 256 = ap (λ (b : List ℕ). get_or b 0 0) c.to_be_bytes.ensures ∙ high in
    let l : get_or c.to_be_bytes.result 1 0 ≡ c.args.refused.place % 256 = ap (λ (b : List ℕ). get_or b 1 0) c.to_be_bytes.ensures in
    rw c.in-Wide.is (prints-same (refusal-line Wide (number_of c.args.refused.fault) _) (rw (c.in-Wide.is, c.number-number.ensures, h, l) at c.print_answers-in-Wide.ensures))
