-- `to_wide::refuse` meets its contract: as many bytes as an answer.
use Rattle.to_wide.proofs.ConvertedLaws.{refusal-begins}
use Rattle.to_wide.proofs.refuse.Goals as goal

pub returns : goal.returns
returns c = refusal-begins _ _ c.args.first.now c.requires.1 (rw c.number.ensures at c.answer_lines.ensures)
