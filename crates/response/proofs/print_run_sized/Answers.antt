-- The answers' part that is handed on holds the reference model's bytes, and a refusal's place is a frame's. Assumes nothing.
use Rattle.std.proofs.Common.{ℕ, ◌/◌, length, refl, arith}
use Rattle.std.proofs.Math.ListN.{length-replicate}
use Rattle.sheet.proofs.ToldLaws.{fault_not-0}
use Rattle.response.proofs.PrintedLaws.{prints-same, answers-end, place-fits, run-refused, end_fits, run_answered}
use Rattle.response.proofs.print_run_sized.Goals as goal

pub print_refusal-requires : goal.print_refusal-requires
print_refusal-requires g c = omega (arith, place-fits c.in-Err.ensures (rw length-replicate c.requires.0))

pub overflow_mul-end : goal.overflow_mul-end
overflow_mul-end g c =
    omega (arith, end_fits c.in-Ok.ensures (rw length-replicate c.requires.0) refl _ c.answer_bytes.ensures, c.run.auto.answers, length-replicate {A = ℕ} g.row.ROOM 0)

pub shared_whole_as_front-print_answers : goal.shared_whole_as_front-print_answers
shared_whole_as_front-print_answers g c = (
  omega (arith, end_fits c.in-Ok.ensures (rw length-replicate c.requires.0) refl _ c.answer_bytes.ensures, c.run.auto.answers, length-replicate {A = ℕ} g.row.ROOM 0),
  omega arith,
)

pub returns-in-Err : goal.returns-in-Err
returns-in-Err g c =
    prints-same (run-refused c.in-Err.ensures (rw length-replicate c.requires.0) (fault_not-0 c.in-Err.refused.fault)) c.print_refusal.ensures

pub returns-in-Ok : goal.returns-in-Ok
returns-in-Ok g c =
    prints-same (run_answered c.in-Ok.ensures (rw length-replicate c.requires.0) refl)
    (rw (answers-end c.args.form (length c.args.script.now / 4) _ c.answer_bytes.ensures) at c.print_answers.ensures)
