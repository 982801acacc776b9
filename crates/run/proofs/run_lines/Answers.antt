-- `run::run_lines` meets its contract. Before the first line no line is run; each turn takes the run one line further, by what `run_line` says; the loop ends at the number of lines.
use Rattle.std.proofs.Common.{◌≡◌, ◌<◌, arith}
use Rattle.model.specs.Model.{lines}
use Rattle.certificate.proofs.Progress.{turns_none, turns_next, turns_asked}
use Rattle.run.proofs.run_lines.Goals as goal

pub loop-i-init : goal.loop-i-init
loop-i-init c =
    turns_none c.args.answers.now c.args.under.now c.args.over.now c.empty-session.ensures

pub run_line-requires : goal.run_line-requires
run_line-requires c =
    let some : c.loop-i.i < lines c.args.script.now = omega arith in
    turns_asked c.requires some c.loop-i.invariant

pub loop-i-preserved : goal.loop-i-preserved
loop-i-preserved c =
    turns_next c.loop-i.invariant c.run_line.ensures.0 c.run_line.ensures.1

pub returns : goal.returns
returns c =
    let last : c.loop-i.i ≡ lines c.args.script.now = omega arith in
    rw last at c.loop-i.invariant.each
