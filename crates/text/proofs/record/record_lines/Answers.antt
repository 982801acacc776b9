use Rattle.text.proofs.AnswerLaws.{wrote_lines}
use Rattle.text.proofs.record.record_lines.Goals as goal

pub returns : goal.returns
returns c = wrote_lines c.args.size c.args.records.now c.args.out.now _ c.min-n.ensures c.put_lines.ensures
