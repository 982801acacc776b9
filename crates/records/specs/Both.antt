-- The two tables of a run together. Assumes nothing.
use Rattle.std.specs.Prelude.{ℕ, true, false, List}
use Rattle.formula.specs.Formula.{Formula}
use Rattle.form.specs.declared.Form.{Form}
use Rattle.records.specs.Table.{Valid, Grown}

-- every counted record is true of its frame: under records of a frame that is true, over records of one that is false (φ gives each frame's formula, n is
-- the number of frames)
pub record Tables (F : Form) (φ : ℕ → Formula) (n : ℕ) (u : List ℕ) (cu : ℕ) (o : List ℕ) (co : ℕ) : Type 0 where
  pub under : Valid F φ n true u cu
  pub over : Valid F φ n false o co

-- the tables at exit: true, with every record that was counted, and behind their counts as they were
pub record TablesGrown (F : Form) (φ : ℕ → Formula) (n : ℕ) (u : List ℕ) (cu : ℕ) (o : List ℕ) (co : ℕ) (u' : List ℕ) (cu' : ℕ) (o' : List ℕ) (co' : ℕ) : Type 0 where
  pub tables : Tables F φ n u' cu' o' co'
  pub under : Grown F u cu u' cu'
  pub over : Grown F o co o' co'
