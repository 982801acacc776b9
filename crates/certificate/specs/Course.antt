-- The sessions of a run, line by line: each is what the contract of a line makes of the one before. Assumes nothing.
use Rattle.std.specs.Prelude.{ℕ, zero, suc, ◌+◌, ◌*◌, List, get_or}
use Rattle.sheet.specs.Fields.{Sheet}
use Rattle.session.specs.declared.Session.{Session}
use Rattle.model.specs.Model.{Answer}
use Rattle.session.specs.Sound.{Empty}
use Rattle.session.specs.Step.{Step}

-- line i of the script steps session and tables, and gives that answer
abbrev pub StepAt : Sheet → List ℕ → ℕ → ℕ → Session → List ℕ → List ℕ → Session → List ℕ → List ℕ → Answer → Type 0
StepAt sheet script free i x u o x' u' o' a =
    Step sheet free x u o (get_or script (i * 4) 0) (get_or script (i * 4 + 1) 0) (get_or script (i * 4 + 2) 0) (get_or script (i * 4 + 3) 0) x' u' o' a.number a.v a.word

-- line i makes x' of the session x, with some tables before and after it, and some answer
pub record Steps (sheet : Sheet) (script : List ℕ) (free i : ℕ) (x x' : Session) : Type 0 where
  pub under : List ℕ
  pub over : List ℕ
  pub under' : List ℕ
  pub over' : List ℕ
  pub answer : Answer
  pub step : StepAt sheet script free i x under over x' under' over' answer

-- x is a session after the first i lines of a run, refused ones counted: it begins with no entry and no record, and each line steps it
pub data Course (sheet : Sheet) (script : List ℕ) (free : ℕ) : ℕ → Session → Type 0 where
  begun : {x : Session} → Empty x → Course sheet script free zero x
  stepped : {i : ℕ} {x x' : Session} → Course sheet script free i x → Steps sheet script free i x x' → Course sheet script free (suc i) x'
