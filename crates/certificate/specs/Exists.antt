-- Which lines keep a record in the output that is built for every input (proofs/Exists.antt). Assumes nothing.
use Rattle.std.specs.Prelude.{ℕ, Bool, List, [], eqb}
use Rattle.sheet.specs.Fields.{Sheet}
use Rattle.model.specs.Model.{ASK, answer_at}
use Rattle.certificate.specs.Run.{book}

-- the kind of line that keeps a record, if it is answered
abbrev pub keeper : ℕ
keeper = ASK

-- whether line i is answered: no cause refuses it
abbrev pub is_answered : Sheet → List ℕ → ℕ → Bool
is_answered sheet script i = eqb (answer_at (book sheet) [] script i).number 0
