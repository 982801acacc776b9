-- What an answer of the library tells of a refusal: its number is never 0. Assumes nothing.
use Rattle.std.specs.Prelude.{◌<◌, ◌≡◌}
use Rattle.std.proofs.Common.{arith}
use Rattle.sheet.specs.declared.refusal.Fault.{Fault}
use Rattle.sheet.specs.declared.refusal.Fault.TheVariants.{TextShape, NotWhole, SheetTooLong, ScriptTooLong, NoRoom, KindUnknown, SpareUsed, NotEarlier, RangeBroken, BoundTwice, BoundFree, LineUnknown, EnterNotFree, EnterValue, EnteredTwice, NothingEntered, NoEntryThere, QuestionBroken, QuestionTooLarge, InputAndGauge, GaugeBound, EnterDesk, NormalNoRoom, OtherForm, WideNoRoom}
use Rattle.sheet.specs.Told.{number_of}

pub fault_positive : (f : Fault) → 0 < number_of f
fault_positive TextShape = omega arith
fault_positive NotWhole = omega arith
fault_positive SheetTooLong = omega arith
fault_positive ScriptTooLong = omega arith
fault_positive NoRoom = omega arith
fault_positive KindUnknown = omega arith
fault_positive SpareUsed = omega arith
fault_positive NotEarlier = omega arith
fault_positive RangeBroken = omega arith
fault_positive BoundTwice = omega arith
fault_positive BoundFree = omega arith
fault_positive LineUnknown = omega arith
fault_positive EnterNotFree = omega arith
fault_positive EnterValue = omega arith
fault_positive EnteredTwice = omega arith
fault_positive NothingEntered = omega arith
fault_positive NoEntryThere = omega arith
fault_positive QuestionBroken = omega arith
fault_positive QuestionTooLarge = omega arith
fault_positive InputAndGauge = omega arith
fault_positive GaugeBound = omega arith
fault_positive EnterDesk = omega arith
fault_positive NormalNoRoom = omega arith
fault_positive OtherForm = omega arith
fault_positive WideNoRoom = omega arith

pub fault_not-0 : (f : Fault) → number_of f ≡ 0 → ⊥
fault_not-0 f e = let p = fault_positive f in omega arith
