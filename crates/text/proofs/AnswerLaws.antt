-- The lines of answers, one after the other: the laws that the code goes by. Assumes nothing.
use Prim.Native.Nat.{ℕ, zero, suc, ◌+◌, ◌*◌, ◌/◌, ◌≤◌, ◌<◌}
use Rattle.std.proofs.Math.Nat.{mul-zero, mul-suc, suc-mul, min-le_left, min-le_right}
use Rattle.std.proofs.Common.{div-mul-le_self, mul-le-mul_right, arith, ◌∙◌, drop-drop, take_at}
use mathlib.Core.List.{List, ◌∷◌}
use Rattle.std.specs.Prelude.{◌≡◌, refl}
use Rattle.std.proofs.Math.Path.{ap}
use Rattle.std.proofs.Math.ListN.{length, take, drop, length-drop}
use Rattle.std.proofs.lemmas.List.Edits.{sets}
use Rattle.std.proofs.Math.Seq.{drop-append-add}
use Rattle.words.specs.Bytes.{bytes_of}
use Rattle.words.proofs.Stores.{sets-start}
use Rattle.form.specs.Form.{word_bytes, answer_bytes}
use Rattle.form.specs.declared.Form.{Form}
use Rattle.form.specs.declared.Form.TheVariants.{Narrow, Wide}
use Rattle.text.specs.Hex.{hex_line, hex_lines}
use Rattle.text.proofs.LineStores.{record_line, lines-length}
use Rattle.text.specs.Answer.{line_bytes, answer_line_bytes, answer_line, answer_lines, with_room, WroteLines}

-- ---- as many records of w bytes as are whole and have room

module _ (w : ℕ) (records out : List ℕ) (n : ℕ) (e : n ≡ with_room w records out) where
  pub whole-records : n * w ≤ length records
  whole-records =
      let x = length records / w in
      let h : n ≤ x = omega (arith, e, min-le_left x (length out / line_bytes w)) in
      omega (arith, mul-le-mul_right w h, div-mul-le_self (length records) w)

  pub room-lines : n * line_bytes w ≤ length out
  room-lines =
      let y = length out / line_bytes w in
      let h : n ≤ y = omega (arith, e, min-le_right (length records / w) y) in
      omega (arith, mul-le-mul_right (line_bytes w) h, div-mul-le_self (length out) (line_bytes w))

  pub wrote_lines : {out' : List ℕ} → out' ≡ sets out 0 (hex_lines w n records) → WroteLines w records out (n * line_bytes w) out'
  wrote_lines f = record {
    count = ap (λ (k : ℕ). k * line_bytes w) e;
    bytes =
        f
        ∙ sets-start (hex_lines w n records) out (omega (arith, lines-length w n records whole-records, room-lines))
        ∙ rw e;
    fits = room-lines;
  }

-- ---- line by line

-- line i is that of record i
module _ (w : ℕ) where
  pub line_at : (i n : ℕ) (l : List ℕ) → i < n → n * w ≤ length l
      → take (line_bytes w) (drop (line_bytes w * i) (hex_lines w n l)) ≡ hex_line (take w (drop (w * i) l))
  unfolding hex_lines
  line_at i zero l h k = absurd (omega arith)
  line_at zero (suc n) l h k =
      let s : n * w + w ≤ length l = rw suc-mul at k in
      rw (mul-zero (line_bytes w), mul-zero w) (take_at (hex_line (take w l)) _ (line_bytes w) (record_line w l (omega (arith, s))))
  line_at (suc i) (suc n) l h k =
      let x = hex_line (take w l) in
      let s : n * w + w ≤ length l = rw suc-mul at k in
      let e : line_bytes w * suc i ≡ length x + line_bytes w * i = mul-suc (line_bytes w) i ∙ omega (arith, record_line w l (omega (arith, s))) in
      let d : w + w * i ≡ w * suc i = omega (arith, mul-suc w i) in
      ap (λ (j : ℕ). take (line_bytes w) (drop j (hex_lines w (suc n) l))) e
      ∙ ap (take (line_bytes w)) (drop-append-add x (hex_lines w n (drop w l)) (line_bytes w * i))
      ∙ line_at i n (drop w l) (omega arith) (omega (arith, s, length-drop w l))
      ∙ ap (λ (m : List ℕ). hex_line (take w m)) (drop-drop (w * i) w l ∙ ap (λ (j : ℕ). drop j l) d)

-- ---- answers

pub answers-length : (F : Form) (n : ℕ) (l : List ℕ) → n * answer_bytes F ≤ length l → length (answer_lines F n l) ≡ n * answer_line_bytes F
answers-length F = lines-length (answer_bytes F)

-- the lines of a single answer's bytes are its line
pub one_answer : (F : Form) (number v word : ℕ) → answer_lines F 1 (number ∷ v ∷ bytes_of (word_bytes F) word) ≡ answer_line F number v word
unfolding hex_line hex_lines answer_line bytes_of
one_answer Narrow number v word = refl
one_answer Wide number v word = refl

pub answer-length : (F : Form) (number v word : ℕ) → length (answer_line F number v word) ≡ answer_line_bytes F
unfolding answer_line hex_line bytes_of
answer-length Narrow number v word = refl
answer-length Wide number v word = refl
