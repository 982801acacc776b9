-- The reference model (document 01's plain book): what each line of a script answers, and which entries stand after it. It is fed what a formula means
-- and the script's bytes, and nothing from the run. Assumes nothing.
use Rattle.std.specs.Prelude.{ℕ, zero, suc, ◌+◌, ◌-◌, ◌*◌, ◌/◌, ◌^◌, Bool, false, not, cond, ◌&&◌, ◌||◌, List, [], ◌∷◌, ◌++◌, length, get_or, take, eqb, leb, ltb}
use Rattle.std.specs.Int.Bits.{bit_or}
use Rattle.words.specs.Bytes.{bytes_of}
use Rattle.form.specs.Form.{word_bytes}
use Rattle.form.specs.declared.Form.{Form}
use Rattle.formula.specs.Formula.{Formula, free}
use Rattle.formula.specs.Ask.{Verdict}
use Rattle.formula.specs.Gauges.{verdict, reason}
use Rattle.sheet.specs.Refusal as Number
use Rattle.sheet.specs.Rules.{spare_set}
use Rattle.model.specs.declared.Entry.{Entry}

-- what the model takes from a formula: which variables are open, and what ASK and WHY say of a mask of entered variables and their values
pub record Meaning : Type 0 where
  pub opens : ℕ → Bool
  pub asks : ℕ → ℕ → Verdict
  pub whys : ℕ → ℕ → Verdict

-- the meaning of f with the gauges of g, over the n variables from 0 on
unfoldable pub meaning : ℕ → Formula → ℕ → Meaning
meaning n f g = record { opens = λ x. ltb x n && free f x; asks = verdict n f g; whys = reason n f g }

-- ---- entries

-- read where no entry stands
abbrev pub no_entry : Entry
no_entry = record { variable = 0; value = 0; desk = 0 }

-- entry i, 0 being the oldest
abbrev pub entry_at : List Entry → ℕ → Entry
entry_at es i = get_or es i no_entry

-- the variables entered, and those of them with value 1, as words
unfoldable pub entered_mask : List Entry → ℕ
entered_mask [] = 0
entered_mask (e ∷ es) = bit_or (2 ^ e.variable) (entered_mask es)

abbrev pub value_part : Entry → ℕ
value_part e = cond (eqb e.value 1) (2 ^ e.variable) 0

unfoldable pub entered_values : List Entry → ℕ
entered_values [] = 0
entered_values (e ∷ es) = bit_or (value_part e) (entered_values es)

-- x is the variable of an entry
unfoldable pub entered : List Entry → ℕ → Bool
entered [] x = false
entered (e ∷ es) x = eqb x e.variable || entered es x

-- ---- answers

-- a refusal number or 0, the table's V, and the word
pub record Answer : Type 0 where
  pub number : ℕ
  pub v : ℕ
  pub word : ℕ

-- the bytes of an answer: two, and a word of the form
unfoldable pub answer_bytes : Form → Answer → List ℕ
answer_bytes F a = a.number ∷ a.v ∷ bytes_of (word_bytes F) a.word

abbrev pub refused : ℕ → Answer
refused number = record { number = number; v = 0; word = 0 }

abbrev pub counted : ℕ → Answer
counted v = record { number = 0; v = v; word = 0 }

-- an entry, as TAKE BACK and READ tell it
abbrev pub told : Entry → Answer
told e = record { number = 0; v = e.variable; word = 256 * e.desk + e.value }

-- a verdict, as ASK and WHY tell it
abbrev pub judged : Verdict → Answer
judged a = record { number = 0; v = cond a.holds 1 0; word = a.word }

-- ---- a line: its kind k and its bytes a, b, c

abbrev pub ENTER : ℕ
ENTER = 0x10

abbrev pub TAKE-BACK : ℕ
TAKE-BACK = 0x11

abbrev pub READ : ℕ
READ = 0x12

abbrev pub ASK : ℕ
ASK = 0x13

abbrev pub WHY : ℕ
WHY = 0x14

-- how many of the bytes a, b, c a kind uses; those behind them are spare
unfoldable pub used : ℕ → ℕ
used k = cond (eqb k ENTER) 3 (cond (eqb k READ) 1 0)

-- the kind is none of the five, or a spare byte is not 0
unfoldable pub unknown : ℕ → ℕ → ℕ → ℕ → Bool
unknown k a b c = ltb k ENTER || (ltb WHY k || spare_set (used k) a b c)

-- the desks that may enter are 0 to 7
abbrev pub last_desk : ℕ
last_desk = 7

-- the number by which a line is refused, or 0: document 01's order for a line, with the desk between the value and the second entry
unfoldable pub line_refusal : Meaning → List Entry → ℕ → ℕ → ℕ → ℕ → ℕ
line_refusal m es k a b c =
    cond (unknown k a b c) Number.line_unknown
    (cond (eqb k ENTER && not (m.opens a)) Number.enter_not_free
    (cond (eqb k ENTER && ltb 1 b) Number.enter_value
    (cond (eqb k ENTER && ltb last_desk c) Number.enter_desk
    (cond (eqb k ENTER && entered es a) Number.entered_twice
    (cond (eqb k TAKE-BACK && eqb (length es) 0) Number.nothing_entered
    (cond (eqb k READ && leb (length es) a) Number.no_entry_there 0))))))

-- what a line answers, and the entries that stand after it
pub record Reply : Type 0 where
  pub answer : Answer
  pub entries : List Entry

abbrev pub reply : Answer → List Entry → Reply
reply a es = record { answer = a; entries = es }

-- a line that no cause refuses
unfoldable pub obeyed : Meaning → List Entry → ℕ → ℕ → ℕ → ℕ → Reply
obeyed m es k a b c =
    let enter = reply (counted (length es + 1)) (es ++ (record { variable = a; value = b; desk = c } ∷ [])) in
    let takeBack = reply (told (entry_at es (length es - 1))) (take (length es - 1) es) in
    let read = reply (told (entry_at es a)) es in
    let ask = reply (judged (m.asks (entered_mask es) (entered_values es))) es in
    let why = reply (judged (m.whys (entered_mask es) (entered_values es))) es in
    cond (eqb k ENTER) enter (cond (eqb k TAKE-BACK) takeBack (cond (eqb k READ) read (cond (eqb k ASK) ask why)))

unfoldable pub line : Meaning → List Entry → ℕ → ℕ → ℕ → ℕ → Reply
line m es k a b c =
    let number = line_refusal m es k a b c in
    let obey = obeyed m es k a b c in
    cond (eqb number 0) obey (reply (refused number) es)

-- ---- a script: its bytes s, four a line

-- how many whole lines the bytes hold
abbrev pub lines : List ℕ → ℕ
lines s = length s / 4

-- line i of the script, where es stand
unfoldable pub line_at : Meaning → List ℕ → List Entry → ℕ → Reply
line_at m s es i = line m es (get_or s (i * 4) 0) (get_or s (i * 4 + 1) 0) (get_or s (i * 4 + 2) 0) (get_or s (i * 4 + 3) 0)

-- the entries that stand after the first i lines, where es stood before them
unfoldable pub after : Meaning → List Entry → List ℕ → ℕ → List Entry
after m es s zero = es
after m es s (suc i) = (line_at m s (after m es s i) i).entries

-- what line i answers
unfoldable pub answer_at : Meaning → List Entry → List ℕ → ℕ → Answer
answer_at m es s i = (line_at m s (after m es s i) i).answer

-- the bytes of the first i answers
unfoldable pub answers_to : Form → Meaning → List Entry → List ℕ → ℕ → List ℕ
answers_to F m es s zero = []
answers_to F m es s (suc i) = answers_to F m es s i ++ answer_bytes F (answer_at m es s i)

-- a whole script, from no entry: the bytes of its answers, and the entries that stand after it
unfoldable pub answers : Form → Meaning → List ℕ → List ℕ
answers F m s = answers_to F m [] s (lines s)

unfoldable pub standing : Meaning → List ℕ → List Entry
standing m s = after m [] s (lines s)
