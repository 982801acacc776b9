-- What a script line says, beside its four bytes. Assumes nothing.
use Rattle.std.specs.Prelude.{ℕ, ◌≡◌, true, List, Result, Ok, Err}
use Rattle.sheet.specs.declared.refusal.Fault.{Fault}
use Rattle.sheet.specs.declared.refusal.Fault.TheVariants.{LineUnknown}
use Rattle.model.specs.declared.Entry.{Entry}
use Rattle.session.specs.declared.Session.{Session}
use Rattle.session.specs.declared.Answer.{Answer}
use Rattle.session.specs.declared.Stepped.{Stepped}
use Rattle.session.specs.declared.script.Line.{Line}
use Rattle.session.specs.declared.script.Line.TheVariants.{Enter, TakeBack, Read, Ask, Why}
use Rattle.session.specs.declared.script.LineBytes.{LineBytes}
use Rattle.model.specs.Model.{Meaning, ENTER, TAKE-BACK, READ, ASK, WHY, unknown, line_refusal}

-- the bytes of a line: those that its kind does not use are 0
abbrev pub bytes_of : Line → LineBytes
bytes_of (Enter variable value desk) = record { k = ENTER; a = variable; b = value; c = desk }
bytes_of TakeBack = record { k = TAKE-BACK; a = 0; b = 0; c = 0 }
bytes_of (Read place) = record { k = READ; a = place; b = 0; c = 0 }
bytes_of Ask = record { k = ASK; a = 0; b = 0; c = 0 }
bytes_of Why = record { k = WHY; a = 0; b = 0; c = 0 }

-- the line that bytes say by their kind, or that the kind is none of the five
abbrev pub KindOf : LineBytes → Line → Type 0
KindOf l (Enter variable value desk) = (l.k ≡ ENTER) × (variable ≡ l.a) × (value ≡ l.b) × (desk ≡ l.c)
KindOf l TakeBack = l.k ≡ TAKE-BACK
KindOf l (Read place) = (l.k ≡ READ) × (place ≡ l.a)
KindOf l Ask = l.k ≡ ASK
KindOf l Why = l.k ≡ WHY

abbrev pub Kinds : LineBytes → Result Line Fault → Type 0
Kinds l (Ok line) = KindOf l line
Kinds l (Err fault) = (fault ≡ LineUnknown) × (unknown l.k l.a l.b l.c ≡ true)

-- what four bytes say: a line, whose bytes they are, or nothing
abbrev pub Says : LineBytes → Result Line Fault → Type 0
Says l (Ok line) = l ≡ bytes_of line
Says l (Err fault) = (fault ≡ LineUnknown) × (unknown l.k l.a l.b l.c ≡ true)

-- the number by which a line is refused, or 0
abbrev pub refusal_of : Meaning → List Entry → Line → ℕ
refusal_of m es line = line_refusal m es (bytes_of line).k (bytes_of line).a (bytes_of line).b (bytes_of line).c

-- ---- a line's answer by its parts: its number, or 0, document 01's V, and the word

abbrev pub v_told : Result Answer Fault → ℕ
v_told (Ok answer) = answer.v
v_told (Err fault) = 0

abbrev pub word_told : Result Answer Fault → ℕ
word_told (Ok answer) = answer.word
word_told (Err fault) = 0

-- the answer of a step from the session x, and the session after it: a refused line leaves x
abbrev pub answer_of : Result Stepped Fault → Result Answer Fault
answer_of (Ok next) = Ok next.answer
answer_of (Err fault) = Err fault

abbrev pub session_after : Session → Result Stepped Fault → Session
session_after x (Ok next) = next.session
session_after x (Err fault) = x
