-- Reading a question, for every text and buffer: theorems about every call that meets `read`'s contract. Assumes nothing.
use Rattle.std.specs.Prelude.{ℕ, List, ◌++◌, ◌↔◌, ◌≡◌, refl, length, drop}
use Rattle.std.proofs.Common.{arith, inl, inr, ap, subst}
use Rattle.prenex.specs.Question.{Question, Contingent}
use Rattle.prenex.specs.Kinds.{sheet_of}
use Rattle.prenex.specs.QuestionLaws.{SheetOf}
use Rattle.prenex.proofs.QuestionLaws.{question_sheet}
use Rattle.dimacs.specs.Page.{Written}
use Rattle.dimacs.proofs.OneQuestion.{written_one}
use Rattle.qdimacs.specs.Reading.{Large, Small, Read, short, malformed, large, settled, accepted}
use Rattle.qdimacs.specs.Certificate.{Acceptable}

small_large : {q : Question} → Small q → Large q → ⊥
small_large s (inl v) = omega (arith, s.few-variables, v)
small_large s (inr f) = omega (arith, s.few-frames, f)

abbrev ContingentOf : Question → Type 0
ContingentOf q = Contingent q.clauses

-- a text is the text of one question
same_question : (P : Question → Type 0) {text : List ℕ} {q r : Question} → Written q text → Written r text → P q → P r
same_question P v w p = subst P (written_one v w) p

-- accepted exactly if it is acceptable
accepted_acceptable : {text sheet sheet' : List ℕ} {n l : ℕ} → n ≡ 0 → Read text sheet n l sheet' → Acceptable text sheet
accepted_acceptable z (short h) = absurd (omega arith)
accepted_acceptable z (malformed r w) = absurd (omega arith)
accepted_acceptable z (large r w b) = absurd (omega arith)
accepted_acceptable z (settled r w s c) = absurd (omega arith)
accepted_acceptable z (accepted r {q = q} w s c) = record { room = r; question = q; written = w; small = s; contingent = c }

acceptable_accepted : {text sheet sheet' : List ℕ} {n l : ℕ} → Acceptable text sheet → Read text sheet n l sheet' → n ≡ 0
acceptable_accepted a (short h) = absurd (omega (arith, a.room))
acceptable_accepted a (malformed r w) = absurd (w (record { question = a.question; written = a.written }))
acceptable_accepted a (large r w b) = absurd (small_large a.small (same_question Large w a.written b))
acceptable_accepted a (settled r w s c) = absurd (c (same_question ContingentOf a.written w a.contingent))
acceptable_accepted a (accepted r w s c) = refl

pub accepted_exactly : {text sheet sheet' : List ℕ} {n l : ℕ} → Read text sheet n l sheet' → (n ≡ 0) ↔ Acceptable text sheet
accepted_exactly d = (λ z. accepted_acceptable z d, λ a. acceptable_accepted a d)

-- then the buffer begins with the question's frames, the rest is as it was, and the length is told
pub accepted-bytes : {text sheet sheet' : List ℕ} {n l : ℕ} {q : Question} → Written q text → n ≡ 0 → Read text sheet n l sheet' → (l ≡ length (sheet_of q)) × (sheet' ≡ sheet_of q ++ drop (length (sheet_of q)) sheet)
accepted-bytes v z (short h) = absurd (omega arith)
accepted-bytes v z (malformed r w) = absurd (omega arith)
accepted-bytes v z (large r w b) = absurd (omega arith)
accepted-bytes v z (settled r w s c) = absurd (omega arith)
accepted-bytes {sheet = sheet} v z (accepted r {q = q} w s c) =
    same_question (λ p. (length (sheet_of q) ≡ length (sheet_of p)) × (sheet_of q ++ drop (length (sheet_of q)) sheet ≡ sheet_of p ++ drop (length (sheet_of p)) sheet)) w v (refl, refl)

-- the frames keep document 01's rules, and the last one has the question's truth and its unquantified variables that occur
pub accepted-sheet : {text sheet sheet' : List ℕ} {n l : ℕ} {q : Question} → Written q text → n ≡ 0 → Read text sheet n l sheet' → SheetOf q
accepted-sheet {q = q} v z d =
    let a = accepted_acceptable z d in
    let s = same_question Small a.written v a.small in
    question_sheet q v.proper s.few-variables s.few-frames

-- refused: nothing is written
pub refused_untouched : {text sheet sheet' : List ℕ} {n l : ℕ} → (n ≡ 0 → ⊥) → Read text sheet n l sheet' → (l ≡ 0) × (sheet' ≡ sheet)
refused_untouched h (short k) = (refl, refl)
refused_untouched h (malformed r w) = (refl, refl)
refused_untouched h (large r w b) = (refl, refl)
refused_untouched h (settled r w s c) = (refl, refl)
refused_untouched h (accepted r w s c) = absurd (h refl)

-- The five cases exclude each other: a text and a buffer have one answer, so that each case gives its number exactly where it holds.
pub read_one : {text sheet s t : List ℕ} {n m l k : ℕ} → Read text sheet n l s → Read text sheet m k t → (n ≡ m) × (l ≡ k) × (s ≡ t)
read_one (short h) (short k) = (refl, refl, refl)
read_one (short h) (malformed r w) = absurd (omega arith)
read_one (short h) (large r w b) = absurd (omega arith)
read_one (short h) (settled r w s c) = absurd (omega arith)
read_one (short h) (accepted r w s c) = absurd (omega arith)
read_one (malformed r w) (short h) = absurd (omega arith)
read_one (malformed r w) (malformed r₂ w₂) = (refl, refl, refl)
read_one (malformed r w) (large r₂ w₂ b) = absurd (w (record { question = _; written = w₂ }))
read_one (malformed r w) (settled r₂ w₂ s c) = (refl, refl, refl)
read_one (malformed r w) (accepted r₂ w₂ s c) = absurd (w (record { question = _; written = w₂ }))
read_one (large r w b) (short h) = absurd (omega arith)
read_one (large r w b) (malformed r₂ w₂) = absurd (w₂ (record { question = _; written = w }))
read_one (large r w b) (large r₂ w₂ b₂) = (refl, refl, refl)
read_one (large r w b) (settled r₂ w₂ s c) = absurd (small_large s (same_question Large w w₂ b))
read_one (large r w b) (accepted r₂ w₂ s c) = absurd (small_large s (same_question Large w w₂ b))
read_one (settled r w s c) (short h) = absurd (omega arith)
read_one (settled r w s c) (malformed r₂ w₂) = (refl, refl, refl)
read_one (settled r w s c) (large r₂ w₂ b) = absurd (small_large s (same_question Large w₂ w b))
read_one (settled r w s c) (settled r₂ w₂ s₂ c₂) = (refl, refl, refl)
read_one (settled r w s c) (accepted r₂ w₂ s₂ c₂) = absurd (c (same_question ContingentOf w₂ w c₂))
read_one (accepted r w s c) (short h) = absurd (omega arith)
read_one (accepted r w s c) (malformed r₂ w₂) = absurd (w₂ (record { question = _; written = w }))
read_one (accepted r w s c) (large r₂ w₂ b) = absurd (small_large s (same_question Large w₂ w b))
read_one (accepted r w s c) (settled r₂ w₂ s₂ c₂) = absurd (c₂ (same_question ContingentOf w w₂ c))
read_one {sheet = sheet} (accepted r w s c) (accepted r₂ w₂ s₂ c₂) =
    let e = written_one w w₂ in
    (ap (λ q. 0) e, ap (λ q. length (sheet_of q)) e, ap (λ q. sheet_of q ++ drop (length (sheet_of q)) sheet) e)
