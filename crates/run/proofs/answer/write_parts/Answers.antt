-- `run::answer::write_parts` meets its contract.
use Rattle.std.proofs.Common.{arith}
use Rattle.run.proofs.WriteLaws.{parts-written}
use Rattle.run.proofs.answer.write_parts.Goals as goal

pub returns : goal.returns
returns c =
    parts-written c.args.answers.now c.args.at c.args.number c.args.v _ c.copy_from_slice.ensures.after (omega arith) c.requires
