-- The loop of `run::run_lines`: before line i the run has come through the first i lines.
use Rattle.certificate.specs.Progress.{Turns}
use Rattle.run.proofs.run_lines.Given as goal

abbrev pub invariant-loop-i : goal.invariant-loop-i
invariant-loop-i l = Turns l.form l.script l.fn.net l.fn.answers l.fn.under l.fn.over l.i l.net l.session l.answers l.under l.over
