-- The numbers of all causes of a refusal; src/refusal.rt has the same. 0 is no refusal. Assumes nothing.
use Rattle.std.specs.Prelude.{ℕ}

-- a text line is not eight digits (a wide sheet line: fourteen) or is unended; the empty line is missing or there is a second
abbrev pub text_shape : ℕ
text_shape = 1

-- a sheet of no bytes; a sheet or a script that is not of whole frames
abbrev pub not_whole : ℕ
not_whole = 2

abbrev pub sheet_too_long : ℕ
sheet_too_long = 3

abbrev pub script_too_long : ℕ
script_too_long = 4

-- the answer buffer, or a buffer that a text is read into, is too short
abbrev pub no_room : ℕ
no_room = 5

abbrev pub kind_unknown : ℕ
kind_unknown = 6

abbrev pub spare_used : ℕ
spare_used = 7

-- a frame names one that is not earlier
abbrev pub not_earlier : ℕ
not_earlier = 8

abbrev pub range_broken : ℕ
range_broken = 9

-- an earlier frame binds the variable too
abbrev pub bound_twice : ℕ
bound_twice = 10

-- a bound variable is free (open) in the last frame
abbrev pub bound_free : ℕ
bound_free = 11

-- a script kind is not 10 to 14, or its spare byte is not 0
abbrev pub line_unknown : ℕ
line_unknown = 12

-- ENTER: the variable is not free (open) in the last frame
abbrev pub enter_not_free : ℕ
enter_not_free = 13

-- ENTER: the value is above 1
abbrev pub enter_value : ℕ
enter_value = 14

-- ENTER: the variable is already entered
abbrev pub entered_twice : ℕ
entered_twice = 15

-- TAKE BACK: no entry stands
abbrev pub nothing_entered : ℕ
nothing_entered = 16

-- READ: no entry at that place
abbrev pub no_entry_there : ℕ
no_entry_there = 17

-- a question's text breaks the QDIMACS standard, or its matrix is always true or always false
abbrev pub question_broken : ℕ
question_broken = 18

-- a question has more variables or more frames than a sheet can have
abbrev pub question_too_large : ℕ
question_too_large = 19

-- a variable is named by an INPUT and as a gauge
abbrev pub input_and_gauge : ℕ
input_and_gauge = 22

-- a quantifier binds a gauge
abbrev pub gauge_bound : ℕ
gauge_bound = 23

-- ENTER: the desk is above 7
abbrev pub enter_desk : ℕ
enter_desk = 24

-- a buffer is shorter than the normal sheet
abbrev pub normal_no_room : ℕ
normal_no_room = 25

-- a text: a well shaped sheet line of the other form
abbrev pub other_form : ℕ
other_form = 29

-- a buffer for a widened sheet has under seven bytes a frame
abbrev pub wide_no_room : ℕ
wide_no_room = 31
