-- What a search over a net does to the tables of records: they grow, and whatever formulas of the frames they were true of, they still are. The net is faithful to
-- these, the sheet's, so that a search need not know them. Assumes nothing.
use Rattle.std.specs.Prelude.{ℕ, List}
use Rattle.formula.specs.Formula.{Formula}
use Rattle.records.specs.Table.{Grown}
use Rattle.records.specs.Both.{Tables}
use Rattle.net.specs.Layout.{net_form, frames_of}
use Rattle.net.specs.Sheet.{Faithful}

pub record Growing (net u : List ℕ) (cu : ℕ) (o : List ℕ) (co : ℕ) (u' : List ℕ) (cu' : ℕ) (o' : List ℕ) (co' : ℕ) : Type 0 where
  pub under : Grown (net_form net) u cu u' cu'
  pub over : Grown (net_form net) o co o' co'
  pub true-still : (φ : ℕ → Formula) → Faithful φ net → Tables (net_form net) φ (frames_of net) u cu o co → Tables (net_form net) φ (frames_of net) u' cu' o' co'
