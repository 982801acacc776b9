-- The two forms of a sheet (document 02, N14), and every size that depends on the form. A product of a number and a size is a function of its own, so
-- that above this file no proof multiplies two unknowns; its laws are the case splits on the form. Assumes nothing.
use Rattle.std.specs.Prelude.{Bool, true, false, ℕ, ◌*◌, ◌/◌, ◌%◌}
use Rattle.form.specs.declared.Form.{Form}
use Rattle.form.specs.declared.Form.TheVariants.{Narrow, Wide}

-- the form that a bool tells
abbrev pub form_of : Bool → Form
form_of false = Narrow
form_of true = Wide

abbrev pub frame_bytes : Form → ℕ
frame_bytes Narrow = 4
frame_bytes Wide = 7

abbrev pub most_frames : Form → ℕ
most_frames Narrow = 200
most_frames Wide = 3000

-- variables are the numbers below
abbrev pub variables : Form → ℕ
variables Narrow = 32
variables Wide = 64

abbrev pub record_numbers : Form → ℕ
record_numbers Narrow = 3
record_numbers Wide = 5

-- the bytes of a word, and of an answer: a number, V and a word
abbrev pub word_bytes : Form → ℕ
word_bytes Narrow = 4
word_bytes Wide = 8

abbrev pub answer_bytes : Form → ℕ
answer_bytes Narrow = 6
answer_bytes Wide = 10

-- words of a form are the numbers below
abbrev pub word_end : Form → ℕ
word_end Narrow = 4294967296
word_end Wide = 18446744073709551616

-- ---- products and quotients by a size

-- how many whole frames n bytes hold
abbrev pub frames : Form → ℕ → ℕ
frames Narrow n = n / 4
frames Wide n = n / 7

-- and how many bytes are behind them
abbrev pub rest : Form → ℕ → ℕ
rest Narrow n = n % 4
rest Wide n = n % 7

-- where frame k starts
abbrev pub frame_start : Form → ℕ → ℕ
frame_start Narrow k = k * 4
frame_start Wide k = k * 7

-- how many records n numbers have room for, and where record j starts
abbrev pub room : Form → ℕ → ℕ
room Narrow n = n / 3
room Wide n = n / 5

abbrev pub record_start : Form → ℕ → ℕ
record_start Narrow j = j * 3
record_start Wide j = j * 5

-- how many answers have room in n bytes, and where answer i starts
abbrev pub answers_in : Form → ℕ → ℕ
answers_in Narrow n = n / 6
answers_in Wide n = n / 10

abbrev pub answer_start : Form → ℕ → ℕ
answer_start Narrow i = i * 6
answer_start Wide i = i * 10
