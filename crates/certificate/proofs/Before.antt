-- The entries that stand before a line of a script, on a sheet that keeps the rules. Assumes nothing.
use Rattle.std.specs.Prelude.{ℕ, List, []}
use Rattle.std.proofs.Common.{ap}
use Rattle.formula.specs.Ask.{Entries}
use Rattle.sheet.specs.Cause.{Refusal}
use Rattle.sheet.specs.Fields.{Sheet, variables}
use Rattle.sheet.specs.Rules.{gauges}
use Rattle.sheet.specs.Keeps.{Keeps}
use Rattle.sheet.specs.Accepted.{Accepted}
use Rattle.sheet.proofs.AcceptedLaws.{accepted_exactly, accepted-sheet}
use Rattle.solver.specs.Contract.{last, root}
use Rattle.model.specs.declared.Entry.{Entry}
use Rattle.model.specs.Model.{entered_mask, entered_values}
use Rattle.model.specs.Entries.{Entered}
use Rattle.model.proofs.Entries.{none-entered, values-mask, mask-free}
use Rattle.model.proofs.Script.{after-keeps}
use Rattle.certificate.specs.Run.{book, before}

pub kept-accepted : (sheet : Sheet) → Keeps sheet → Accepted sheet
kept-accepted sheet K = accepted-sheet sheet (ap (λ (r : Refusal). r.number) ((accepted_exactly sheet).1 K))

-- open, distinct, valued 0 or 1, from desks 0 to 7
pub before-entered : (sheet : Sheet) (script : List ℕ) (i : ℕ) → Entered (book sheet) (before sheet script i)
before-entered sheet script i = after-keeps (book sheet) [] script (none-entered (book sheet)) i

-- as the laws of ASK and WHY want them
pub book-entries : (sheet : Sheet) (es : List Entry) → Keeps sheet → Entered (book sheet) es → Entries (variables sheet) (root sheet) (entered_mask es) (entered_values es)
book-entries sheet es K d = record {
  bounded = (kept-accepted sheet K).bounded (last sheet);
  opened = mask-free (variables sheet) (root sheet) (gauges sheet) d;
  valued = values-mask es;
}
