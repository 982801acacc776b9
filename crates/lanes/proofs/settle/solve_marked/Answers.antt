-- `lanes::settle::solve_marked` meets its contract: the row of node a settles the search. Assumes nothing.
use mathlib.Core.Path.{refl}
use Rattle.lanes.proofs.FillLaws.{seated_none}
use Rattle.lanes.proofs.settle.solve_marked.Goals as goal

pub seat-requires : goal.seat-requires
seat-requires c =
    seated_none _ refl
