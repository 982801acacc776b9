-- `to_normal::refuse` meets its contract: as many bytes as an answer.
use Rattle.std.proofs.Common.{◌≡◌, ◌/◌, ◌%◌, ◌<◌, arith}
use Rattle.form.specs.declared.Form.TheVariants.{Narrow, Wide}
use Rattle.to_normal.proofs.PrintedLaws.{refusal-begins}
use Rattle.to_normal.proofs.refuse.Goals as goal

pub returns-in-Narrow : goal.returns-in-Narrow
returns-in-Narrow c =
    let h : c.args.refused.place < 200 = (rw c.in-Narrow.is at c.requires.0) in
    let low : c.args.refused.place % 256 ≡ c.args.refused.place = omega (arith, h) in
    rw c.in-Narrow.is (refusal-begins Narrow _ _ c.args.out.now c.requires.1 (rw (c.in-Narrow.is, c.number-number.ensures, c.to_be_bytes.ensures, low) at c.answer_lines.ensures))

pub returns-in-Wide : goal.returns-in-Wide
returns-in-Wide c =
    let h : c.args.refused.place < 3000 = (rw c.in-Wide.is at c.requires.0) in
    let high : c.args.refused.place / 256 % 256 ≡ c.args.refused.place / 256 = omega (arith, h) in
    rw c.in-Wide.is (refusal-begins Wide _ _ c.args.out.now c.requires.1 (rw (c.in-Wide.is, c.number-number.ensures, c.to_be_bytes.ensures, high) at c.answer_lines-in-Wide.ensures))
