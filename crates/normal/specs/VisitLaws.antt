-- Why each turn keeps what holds between turns, and that turns come to an end. Assumes nothing.
use Rattle.std.specs.Prelude.{ℕ, ◌≡◌, List, length}
use Rattle.sheet.specs.declared.Kind.{Kind}
use Rattle.normal.specs.Normal.{Placed}
use Rattle.normal.specs.Lists.{Holds}

-- p placed among the frames ks
pub record Held (ks : List Kind) (p : Placed) (number count : ℕ) : Type 0 where
  pub number_is : number ≡ p.number
  pub count-is : count ≡ length p.frames
  pub holds : Holds ks p.frames
