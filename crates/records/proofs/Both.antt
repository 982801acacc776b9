-- The two tables of a run together. Assumes nothing.
use Rattle.std.specs.Prelude.{ℕ, true, false, List}
use Rattle.formula.specs.Formula.{Formula}
use Rattle.form.specs.declared.Form.{Form}
use Rattle.records.proofs.Table.{valid_empty, grown_refl, grown_trans}
use Rattle.records.specs.Both.{Tables, TablesGrown}

-- no record is counted yet
pub tables_none : {F : Form} {φ : ℕ → Formula} {n : ℕ} (u o : List ℕ) → Tables F φ n u 0 o 0
tables_none {F} {φ} {n} u o = record { under = valid_empty F φ n true u; over = valid_empty F φ n false o }

pub tables_same : {F : Form} {φ : ℕ → Formula} {n : ℕ} {u : List ℕ} {cu : ℕ} {o : List ℕ} {co : ℕ} → Tables F φ n u cu o co → TablesGrown F φ n u cu o co u cu o co
tables_same {F} {u = u} {cu = cu} {o = o} {co = co} t = record { tables = t; under = grown_refl F u cu; over = grown_refl F o co }

pub tables_then : {F : Form} {φ : ℕ → Formula} {n : ℕ} {u u' u'' : List ℕ} {cu cu' cu'' : ℕ} {o o' o'' : List ℕ} {co co' co'' : ℕ}
    → TablesGrown F φ n u cu o co u' cu' o' co' → TablesGrown F φ n u' cu' o' co' u'' cu'' o'' co'' → TablesGrown F φ n u cu o co u'' cu'' o'' co''
tables_then g h = record { tables = h.tables; under = grown_trans g.under h.under; over = grown_trans g.over h.over }
