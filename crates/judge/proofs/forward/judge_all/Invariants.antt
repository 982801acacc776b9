-- `judge::forward::judge_all` meets its contract: what is known stays right as each node is judged in turn. Assumes nothing.
use mathlib.Core.Path.{◌≡◌}
use lib.ListN.{length}
use Rattle.judge.specs.Judge.{Judging}
use Rattle.judge.proofs.forward.judge_all.Given as goal

abbrev pub invariant-loop-k : goal.invariant-loop-k
invariant-loop-k l =
    Judging l.net l.cube.mask l.cube.values l.initial.cells l.head l.cells l.at × (length l.cells ≡ length l.initial.cells)
