-- The two forms of a sheet (document 02, N14), and every size that depends on the form. A product of a number and a size is a function of its own, so
-- that above this file no proof multiplies two unknowns; its laws are the case splits on the form. Assumes nothing.
use Rattle.std.specs.Prelude.{◌≡◌, refl, ℕ, zero, suc, ◌+◌, ◌/◌, ◌%◌, ◌^◌, ◌≤◌, ◌<◌}
use Rattle.std.proofs.Common.{arith}
use Rattle.form.specs.declared.Form.{Form}
use Rattle.form.specs.declared.Form.TheVariants.{Narrow, Wide}
use Rattle.form.specs.Form.{answer_bytes, answer_start, answers_in, frame_start, frames, most_frames, record_numbers, record_start, rest, room, variables, word_bytes, word_end}

-- ---- the case splits

pub most-place : (F : Form) → most_frames F ≤ 3000
most-place Narrow = omega arith
most-place Wide = omega arith

pub some-frames : (F : Form) → 0 < most_frames F
some-frames Narrow = omega arith
some-frames Wide = omega arith

pub few-variables : (F : Form) → variables F ≤ 64
few-variables Narrow = omega arith
few-variables Wide = omega arith

pub end_power : (F : Form) → word_end F ≡ 2 ^ variables F
end_power Narrow = refl
end_power Wide = refl

pub end-most : (F : Form) → word_end F ≤ 18446744073709551616
end-most Narrow = omega arith
end-most Wide = omega arith

pub frames-le : (F : Form) (n : ℕ) → frames F n ≤ n
frames-le Narrow n = omega arith
frames-le Wide n = omega arith

pub whole-frames : (F : Form) (n : ℕ) → (n ≡ 0 → ⊥) → rest F n ≡ 0 → 0 < frames F n
whole-frames Narrow n h e = by_less n h e
  where
    by_less : (n : ℕ) → (n ≡ 0 → ⊥) → n % 4 ≡ 0 → 0 < n / 4
    by_less zero h e = absurd (h refl)
    by_less (suc n) h e = omega arith
whole-frames Wide n h e = by_less n h e
  where
    by_less : (n : ℕ) → (n ≡ 0 → ⊥) → n % 7 ≡ 0 → 0 < n / 7
    by_less zero h e = absurd (h refl)
    by_less (suc n) h e = omega arith

-- nothing is behind the whole frames exactly if they are all
pub rest-whole : (F : Form) (n : ℕ) → rest F n ≡ 0 → frame_start F (frames F n) ≡ n
rest-whole Narrow n e = omega arith
rest-whole Wide n e = omega arith

pub whole-rest : (F : Form) (n : ℕ) → frame_start F (frames F n) ≡ n → rest F n ≡ 0
whole-rest Narrow n e = omega arith
whole-rest Wide n e = omega arith

pub frames-some : (F : Form) (n : ℕ) → 0 < frames F n → (n ≡ 0 → ⊥)
frames-some Narrow n h e = omega arith
frames-some Wide n h e = omega arith

pub start-next : (F : Form) (j : ℕ) → record_start F (j + 1) ≡ record_start F j + record_numbers F
start-next Narrow j = omega arith
start-next Wide j = omega arith

pub start_none : (F : Form) → record_start F 0 ≡ 0
start_none Narrow = refl
start_none Wide = refl

pub start_mono : (F : Form) {i j : ℕ} → i ≤ j → record_start F i ≤ record_start F j
start_mono Narrow h = omega arith
start_mono Wide h = omega arith

-- a record that starts before another also ends before it
pub start-before : (F : Form) {i j : ℕ} → i < j → record_start F i + record_numbers F ≤ record_start F j
start-before Narrow h = omega arith
start-before Wide h = omega arith

-- a count of records fits into n numbers exactly if there is room
pub room_fits : (F : Form) {j n : ℕ} → j ≤ room F n → record_start F j ≤ n
room_fits Narrow h = omega arith
room_fits Wide h = omega arith

pub fits-room : (F : Form) {j n : ℕ} → record_start F j ≤ n → j ≤ room F n
fits-room Narrow h = omega arith
fits-room Wide h = omega arith

pub answer-sum : (F : Form) → suc (suc (word_bytes F)) ≡ answer_bytes F
answer-sum Narrow = refl
answer-sum Wide = refl

pub answer-none : (F : Form) → answer_start F 0 ≡ 0
answer-none Narrow = refl
answer-none Wide = refl

pub answer-next : (F : Form) (i : ℕ) → answer_start F (i + 1) ≡ answer_start F i + answer_bytes F
answer-next Narrow i = omega arith
answer-next Wide i = omega arith

pub answer_mono : (F : Form) {i j : ℕ} → i ≤ j → answer_start F i ≤ answer_start F j
answer_mono Narrow h = omega arith
answer_mono Wide h = omega arith

pub answer-before : (F : Form) {i j : ℕ} → i < j → answer_start F i + answer_bytes F ≤ answer_start F j
answer-before Narrow h = omega arith
answer-before Wide h = omega arith

-- so many answers fit into n bytes exactly if there is room
pub answers-fit : (F : Form) {i n : ℕ} → i ≤ answers_in F n → answer_start F i ≤ n
answers-fit Narrow h = omega arith
answers-fit Wide h = omega arith

pub fit-answers : (F : Form) {i n : ℕ} → answer_start F i ≤ n → i ≤ answers_in F n
fit-answers Narrow h = omega arith
fit-answers Wide h = omega arith

pub answers-whole : (F : Form) (i : ℕ) → answers_in F (answer_start F i) ≡ i
answers-whole Narrow i = omega arith
answers-whole Wide i = omega arith
