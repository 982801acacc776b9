-- One call of `run`: what was lent to it, and what it left and told. Assumes nothing.
use Rattle.std.specs.Prelude.{ℕ, ◌≤◌, ◌≡◌, List, length}
use Rattle.form.specs.Form.{answer_start}
use Rattle.sheet.specs.Fields.{Sheet}
use Rattle.model.specs.Model.{lines}
use Rattle.certificate.specs.Run.{Run}

-- the answer buffer and the two tables, at entry and at exit, and the four numbers that are told
pub record Call : Type 0 where
  pub ans : List ℕ
  pub under : List ℕ
  pub over : List ℕ
  pub ans' : List ℕ
  pub under' : List ℕ
  pub over' : List ℕ
  pub number : ℕ
  pub place : ℕ
  pub cu : ℕ
  pub co : ℕ

-- these were lent
pub record Lent (o : Call) (ans under over : List ℕ) : Type 0 where
  pub ans-is : o.ans ≡ ans
  pub under-is : o.under ≡ under
  pub over-is : o.over ≡ over

-- the call meets run's contract over this sheet and this script
abbrev pub Meets : Sheet → List ℕ → Call → Type 0
Meets sheet script o = Run sheet script o.ans o.under o.over o.ans' o.under' o.over' o.number o.place o.cu o.co

-- and it was lent an answer buffer that is long enough
pub record Ample (sheet : Sheet) (script : List ℕ) (o : Call) : Type 0 where
  pub meets : Meets sheet script o
  pub room : answer_start sheet.form (lines script) ≤ length o.ans
