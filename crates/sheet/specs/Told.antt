-- What an answer of the library tells of a refusal: its number and its place, both 0 where nothing is refused. Assumes nothing.
use Rattle.std.specs.Prelude.{ℕ, Result, Ok, Err}
use Rattle.sheet.specs.Refusal as Number
use Rattle.sheet.specs.declared.refusal.Fault.{Fault}
use Rattle.sheet.specs.declared.refusal.Fault.TheVariants.{TextShape, NotWhole, SheetTooLong, ScriptTooLong, NoRoom, KindUnknown, SpareUsed, NotEarlier, RangeBroken, BoundTwice, BoundFree, LineUnknown, EnterNotFree, EnterValue, EnteredTwice, NothingEntered, NoEntryThere, QuestionBroken, QuestionTooLarge, InputAndGauge, GaugeBound, EnterDesk, NormalNoRoom, OtherForm, WideNoRoom}
use Rattle.sheet.specs.declared.refusal.Refused.{Refused}
use Rattle.sheet.specs.declared.scan.Accepted.{Accepted}

abbrev pub number_of : Fault → ℕ
number_of TextShape = Number.text_shape
number_of NotWhole = Number.not_whole
number_of SheetTooLong = Number.sheet_too_long
number_of ScriptTooLong = Number.script_too_long
number_of NoRoom = Number.no_room
number_of KindUnknown = Number.kind_unknown
number_of SpareUsed = Number.spare_used
number_of NotEarlier = Number.not_earlier
number_of RangeBroken = Number.range_broken
number_of BoundTwice = Number.bound_twice
number_of BoundFree = Number.bound_free
number_of LineUnknown = Number.line_unknown
number_of EnterNotFree = Number.enter_not_free
number_of EnterValue = Number.enter_value
number_of EnteredTwice = Number.entered_twice
number_of NothingEntered = Number.nothing_entered
number_of NoEntryThere = Number.no_entry_there
number_of QuestionBroken = Number.question_broken
number_of QuestionTooLarge = Number.question_too_large
number_of InputAndGauge = Number.input_and_gauge
number_of GaugeBound = Number.gauge_bound
number_of EnterDesk = Number.enter_desk
number_of NormalNoRoom = Number.normal_no_room
number_of OtherForm = Number.other_form
number_of WideNoRoom = Number.wide_no_room

-- of a step that may find a fault
abbrev pub fault_number : {A : Type 0} → Result A Fault → ℕ
fault_number (Ok a) = 0
fault_number (Err f) = number_of f

-- of an answer that may be a refusal
abbrev pub refused_number : {A : Type 0} → Result A Refused → ℕ
refused_number (Ok a) = 0
refused_number (Err r) = number_of r.fault

abbrev pub refused_place : {A : Type 0} → Result A Refused → ℕ
refused_place (Ok a) = 0
refused_place (Err r) = r.place

-- the words of an accepted sheet, both 0 where it is refused
abbrev pub free_told : Result Accepted Refused → ℕ
free_told (Ok a) = a.free
free_told (Err r) = 0

abbrev pub gauges_told : Result Accepted Refused → ℕ
gauges_told (Ok a) = a.gauges
gauges_told (Err r) = 0

-- how many bytes a writer of a sheet tells of, 0 where it refuses
abbrev pub length_told : {E : Type 0} → Result ℕ E → ℕ
length_told (Ok n) = n
length_told (Err e) = 0
