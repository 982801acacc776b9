-- `run::answer::write_form` meets its contract.
use Rattle.std.proofs.Common.{arith, ◌∙◌}
use Rattle.words.proofs.Bytes.{four_bytes, eight_bytes}
use Rattle.model.specs.Model.{answer_bytes}
use Rattle.run.proofs.answer.write_form.Goals as goal

pub write_parts-requires : goal.write_parts-requires
write_parts-requires c =
    let h = rw c.in-Narrow.is at c.requires in
    rw c.to_be_bytes-bytes.ensures (omega arith)

pub returns-in-Narrow : goal.returns-in-Narrow
unfolding answer_bytes
returns-in-Narrow c =
    rw c.in-Narrow.is (c.write_parts.ensures ∙ rw (c.to_be_bytes-bytes.ensures, four_bytes c.args.word))

pub returns-in-Wide : goal.returns-in-Wide
unfolding answer_bytes
returns-in-Wide c =
    rw c.in-Wide.is (c.write_parts-in-Wide.ensures ∙ rw (c.to_be_bytes-bytes.ensures, eight_bytes c.args.word))
