-- The value of a node under a full candidate. Assumes nothing.
use Rattle.std.specs.Prelude.{ℕ, ◌<◌, List}
use Rattle.judge.specs.Judge.{Forced}

-- the value v of node i under the full candidate w, because of the variables of r
pub record Told (net : List ℕ) (m w i v r : ℕ) : Type 0 where
  pub some : 0 < v
  pub forced : Forced net m w i v r
