-- The records in the course of a run: no line, one line more, and what holds from one line to a later one. Assumes nothing.
use Rattle.sheet.specs.Fields.{Sheet}
use Rattle.solver.specs.Contract.{Tables}
use Rattle.certificate.specs.Run.{Held}

-- every counted record is true
abbrev pub RecordsTrue : Sheet → Held → Type 0
RecordsTrue sheet h = Tables sheet h.under h.cu h.over h.co
