-- From what reading gives to what is printed: the laws that the program goes by. Assumes nothing.
use Rattle.std.specs.Prelude.{ℕ, ◌*◌, ◌/◌, ◌≤◌, ◌<◌, List, [], ◌∷◌, ◌++◌, ◌≡◌, refl, take, drop}
use Rattle.std.proofs.Math.Nat.{min-eq_left}
use Rattle.std.proofs.Common.{arith, ap, subst, ◌∙◌, take_at}
use Rattle.std.proofs.Math.Path.{sym}
use Rattle.std.proofs.Math.ListN.{length}
use Rattle.words.specs.Bytes.{bytes_of}
use Rattle.form.specs.Form.{frame_bytes, answer_bytes}
use Rattle.form.specs.declared.Form.TheVariants.{Narrow}
use Rattle.text.specs.Hex.{hex_lines}
use Rattle.text.specs.Answer.{answer_line, answer_lines, Wrote, WroteFrames, with_room}
use Rattle.text.proofs.AnswerLaws.{one_answer, answer-length}
use Rattle.text.proofs.LineStores.{lines-length}
use Rattle.prenex.specs.Question.{Question, Contingent}
use Rattle.prenex.specs.Kinds.{kinds, sheet_of}
use Rattle.prenex.proofs.SheetLaws.{sheet-length}
use Rattle.dimacs.specs.Page.{Written}
use Rattle.qdimacs.specs.Reading.{sheet_room, Small, Read, short, accepted}
use Rattle.qdimacs.specs.Reading as Reading
use Rattle.from_qdimacs.specs.Converted.{Converted, malformed, large, settled, converted, Prints}
use Rattle.from_qdimacs.specs.ConvertedLaws.{Sheet}

-- ---- a refusal

read_refused : {text sheet sheet' : List ℕ} {n l : ℕ} → sheet_room ≤ length sheet → (n ≡ 0 → ⊥) → Read text sheet n l sheet' → Converted text (answer_line Narrow n 0 0)
read_refused room h (short s) = absurd (omega arith)
read_refused room h (Reading.malformed r w) = malformed w
read_refused room h (Reading.large r w b) = large w b
read_refused room h (Reading.settled r w s c) = settled w s c
read_refused room h (accepted r w s c) = absurd (h refl)

pub read-sheet : {text sheet sheet' : List ℕ} {n l : ℕ} → n ≡ 0 → Read text sheet n l sheet' → Sheet text sheet' l
unfolding sheet_of
read-sheet z (short s) = absurd (omega arith)
read-sheet z (Reading.malformed r w) = absurd (omega arith)
read-sheet z (Reading.large r w b) = absurd (omega arith)
read-sheet z (Reading.settled r w s c) = absurd (omega arith)
read-sheet {sheet = sheet} z (accepted r {q = q} w s c) = record {
  question = q;
  written = w;
  small = s;
  contingent = c;
  size = sheet-length (kinds q);
  taken = take_at (sheet_of q) (drop (length (sheet_of q)) sheet) (length (sheet_of q)) refl;
}

module _ {text sheet' : List ℕ} {l : ℕ} (d : Sheet text sheet' l) where
  pub sheet-fits : l ≤ 800
  sheet-fits = omega (arith, d.size, d.small.few-frames)

  pub sheet-counted : l ≡ length (take l sheet')
  unfolding sheet_of
  sheet-counted = d.size ∙ sym (ap length d.taken ∙ sheet-length (kinds d.question))

-- ---- as lines

-- lines that were written from the buffer's start
begins : {text : List ℕ} (x out : List ℕ) {out' : List ℕ} {r : ℕ} → Converted text x → out' ≡ x ++ drop (length x) out → r ≡ length x → r ≤ length out → length out' ≡ length out → Prints text out' r
begins x out {r = r} c b k f same =
    let front = ap (take r) b ∙ take_at x (drop (length x) out) r (sym k) in
    record { lines = x; is-converted = c; count = k; bytes = front; fits = omega (arith, same, f); counted = k ∙ sym (ap length front) }

pub refusal-printed : {text sheet sheet' : List ℕ} (out : List ℕ) {out' : List ℕ} {n l r : ℕ} → 1800 ≤ length out → length out' ≡ length out → sheet_room ≤ length sheet → (n ≡ 0 → ⊥)
    → Read text sheet n l sheet' → Wrote Narrow (n ∷ 0 ∷ 0 ∷ 0 ∷ 0 ∷ 0 ∷ []) out r out' → Prints text out' r
unfolding bytes_of
refusal-printed out {n = n} room same s h d w =
    let one : with_room (answer_bytes Narrow) (n ∷ 0 ∷ 0 ∷ 0 ∷ 0 ∷ 0 ∷ []) out ≡ 1 = min-eq_left (omega arith) in
    let line : answer_lines Narrow 1 (n ∷ 0 ∷ 0 ∷ 0 ∷ 0 ∷ 0 ∷ []) ≡ answer_line Narrow n 0 0 = one_answer Narrow n 0 0 in
    begins (answer_line Narrow n 0 0) out (read_refused s h d) (w.bytes ∙ rw (one, line)) (w.count ∙ rw (one, answer-length Narrow n 0 0)) w.fits same

pub sheet-printed : {text sheet' : List ℕ} (out : List ℕ) {out' : List ℕ} {l r : ℕ} → 1800 ≤ length out → length out' ≡ length out → (d : Sheet text sheet' l) → WroteFrames Narrow (take l sheet') out r out' → Prints text out' r
unfolding sheet_of
sheet-printed out {out'} {l} {r} room same d w =
    let q = d.question in
    let many = sheet-length (kinds q) in
    let all : with_room (frame_bytes Narrow) (sheet_of q) out ≡ length (kinds q) = min-eq_left (omega (arith, many, d.small.few-frames)) ∙ omega (arith, many) in
    let v : WroteFrames Narrow (sheet_of q) out r out' = rw d.taken at w in
    let count = lines-length 4 (length (kinds q)) (sheet_of q) (omega (arith, many)) in
    begins (hex_lines (frame_bytes Narrow) (length (kinds q)) (sheet_of q)) out (converted d.written d.small d.contingent) (v.bytes ∙ rw all)
    (v.count ∙ rw all (omega (arith, count))) v.fits same
