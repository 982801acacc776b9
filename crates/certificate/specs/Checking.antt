-- The check of a run in parts: an earlier list of causes refuses, or the later one decides. Assumes nothing.
use Rattle.std.specs.Prelude.{◌≡◌, List, [], ◌∷◌}
use Rattle.sheet.specs.Cause.{Cause}

-- every cause is told at place 0
abbrev pub AtZero : List Cause → Type 0
AtZero [] = Unit {0}
AtZero (c ∷ cs) = (c.place ≡ 0) × AtZero cs
