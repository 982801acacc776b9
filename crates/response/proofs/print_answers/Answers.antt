-- All lines have room, or nothing is written. Assumes nothing.
use Rattle.response.proofs.PrintedLaws.{no_room_lem, wrote_all}
use Rattle.response.proofs.print_answers.Goals as goal

pub returns-then-out-size : goal.returns-then-out-size
returns-then-out-size c =
    no_room_lem c.args.form c.args.answers.now c.args.out.now (rw c.answer_bytes-size.ensures at c.if-out-size.true)

pub returns : goal.returns
returns c =
    wrote_all c.args.form c.args.answers.now c.args.out.now (rw c.answer_bytes-size.ensures at c.if-out-size.false) c.answer_lines.auto.out c.answer_lines.ensures
