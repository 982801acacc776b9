-- The reference model over whole scripts: one line more, and two scripts in a row. Assumes nothing.
use Prim.Native.Nat.{ℕ, zero, suc, ◌+◌, ◌-◌, ◌*◌, ◌≤◌, ◌<◌}
use native.Mathlib.Omega.{arith}
use Rattle.std.proofs.Math.Nat.{add-zero}
use Rattle.std.proofs.Common.{add-suc, ◌∙◌, length-append, get_or-append-add, drop_at}
use Rattle.std.proofs.Math.Numerals.{add-one}
use Rattle.std.specs.Prelude.{◌≡◌, length, get_or, take, drop}
use Rattle.std.proofs.Math.Path.{refl, sym, ap}
use mathlib.Core.List.{List, [], ◌∷◌, ◌++◌, append_assoc, append-nil}
use Rattle.std.proofs.Math.ListN.{get_or-append}
use Rattle.std.proofs.Math.Seq.{take_at}
use Rattle.words.specs.Bytes.{bytes_of}
use Rattle.words.proofs.Bytes.{four_bytes, eight_bytes}
use Rattle.form.specs.Form as Sizes
use Rattle.form.specs.Form.{answer_start}
use Rattle.form.proofs.FormLaws.{answer-none, answer-next}
use Rattle.form.specs.declared.Form.{Form}
use Rattle.form.specs.declared.Form.TheVariants.{Narrow, Wide}
use Rattle.model.specs.declared.Entry.{Entry}
use Rattle.model.specs.Model.{Meaning, Answer, answer_bytes, Reply, lines, line_at, after, answer_at, answers_to, answers, standing}
use Rattle.model.specs.Entries.{Entered}
use Rattle.model.proofs.Entries.{none-entered}
use Rattle.model.proofs.Invariant.{line-keeps}
use Rattle.model.specs.Script.{Whole, each_byte}

pub answer_bytes_are : (F : Form) (a : Answer) → answer_bytes F a ≡ each_byte F a
unfolding answer_bytes
answer_bytes_are Narrow a = ap (λ (l : List ℕ). a.number ∷ a.v ∷ l) (four_bytes a.word)
answer_bytes_are Wide a = ap (λ (l : List ℕ). a.number ∷ a.v ∷ l) (eight_bytes a.word)

pub length-answer_bytes : (F : Form) (a : Answer) → length (answer_bytes F a) ≡ Sizes.answer_bytes F
unfolding answer_bytes bytes_of
length-answer_bytes Narrow a = refl
length-answer_bytes Wide a = refl

-- ---- one line more, as code counts

module _ (m : Meaning) (es : List Entry) (s : List ℕ) where
  pub after_none : after m es s 0 ≡ es
  unfolding after
  after_none = refl

  pub after_next : (i : ℕ) → after m es s (i + 1) ≡ (line_at m s (after m es s i) i).entries
  unfolding after
  after_next i = rw add-one

  -- what is always so of the entries is so after every line
  pub after-keeps : Entered m es → (i : ℕ) → Entered m (after m es s i)
  unfolding after line_at
  after-keeps d zero = d
  after-keeps d (suc i) = line-keeps m (after m es s i) _ _ _ _ (after-keeps d i)

module _ (F : Form) (m : Meaning) (es : List Entry) (s : List ℕ) where
  pub answers-none : answers_to F m es s 0 ≡ []
  unfolding answers_to
  answers-none = refl

  pub answers_next : (i : ℕ) → answers_to F m es s (i + 1) ≡ answers_to F m es s i ++ answer_bytes F (answer_at m es s i)
  unfolding answers_to
  answers_next i = rw add-one

  -- an answer's bytes a line
  pub length-answers_to : (i : ℕ) → length (answers_to F m es s i) ≡ answer_start F i
  unfolding answers_to
  length-answers_to zero = sym (answer-none F)
  length-answers_to (suc i) =
      rw (length-append, length-answer_bytes F (answer_at m es s i), length-answers_to i) (sym (answer-next F i) ∙ ap (answer_start F) (add-one i))

  answers-prefix : (i r : ℕ) → (rest : List ℕ) × (answers_to F m es s (i + r) ≡ answers_to F m es s i ++ rest)
  unfolding answers_to
  answers-prefix i zero = ([], rw add-zero (sym (append-nil (answers_to F m es s i))))
  answers-prefix i (suc r) =
      let p = answers-prefix i r in (
        p.0 ++ answer_bytes F (answer_at m es s (i + r)),
        rw (add-suc, p.1) (append_assoc (answers_to F m es s i) p.0 (answer_bytes F (answer_at m es s (i + r)))),
      )

  -- the answer of line i stands at its place
  pub answer-bytes : (i n : ℕ) → i < n → take (Sizes.answer_bytes F) (drop (answer_start F i) (answers_to F m es s n)) ≡ answer_bytes F (answer_at m es s i)
  unfolding answers_to
  answer-bytes i n h =
      let p = answers-prefix (suc i) (n - suc i) in
      let e : suc i + (n - suc i) ≡ n = omega arith in
      let x = answer_bytes F (answer_at m es s i) in
      let f : answers_to F m es s n ≡ answers_to F m es s i ++ (x ++ p.0) = (rw e at p.1) ∙ append_assoc (answers_to F m es s i) x p.0 in
      rw f (ap (take (Sizes.answer_bytes F)) (drop_at (answers_to F m es s i) (x ++ p.0) (answer_start F i) (length-answers_to i))
      ∙ take_at x p.0 (Sizes.answer_bytes F) (length-answer_bytes F (answer_at m es s i)))

-- from no entry
pub standing-keeps : (m : Meaning) (s : List ℕ) → Entered m (standing m s)
unfolding standing
standing-keeps m s = after-keeps m [] s (none-entered m) (lines s)

pub length-answers : (F : Form) (m : Meaning) (s : List ℕ) → length (answers F m s) ≡ answer_start F (lines s)
unfolding answers
length-answers F m s = length-answers_to F m [] s (lines s)

-- ---- two scripts in a row, the first of n whole lines

module _ (m : Meaning) (a b : List ℕ) (n : ℕ) (whole : length a ≡ 4 * n) where
  byte_left : (k : ℕ) → k < 4 * n → get_or (a ++ b) k 0 ≡ get_or a k 0
  byte_left k h = get_or-append a b 0 k (omega arith)

  byte-right : (k j : ℕ) → k ≡ 4 * n + j → get_or (a ++ b) k 0 ≡ get_or b j 0
  byte-right k j e = let f : k ≡ length a + j = omega arith in rw f (get_or-append-add a b j 0)

  line-left : (es : List Entry) (i : ℕ) → i < n → line_at m (a ++ b) es i ≡ line_at m a es i
  unfolding line_at
  line-left es i h =
      rw (byte_left (i * 4) (omega arith), byte_left (i * 4 + 1) (omega arith), byte_left (i * 4 + 2) (omega arith), byte_left (i * 4 + 3) (omega arith))

  line-right : (es : List Entry) (i : ℕ) → line_at m (a ++ b) es (n + i) ≡ line_at m b es i
  unfolding line_at
  line-right es i =
      rw (
        byte-right ((n + i) * 4) (i * 4) (omega arith),
        byte-right ((n + i) * 4 + 1) (i * 4 + 1) (omega arith),
        byte-right ((n + i) * 4 + 2) (i * 4 + 2) (omega arith),
        byte-right ((n + i) * 4 + 3) (i * 4 + 3) (omega arith),
      )

  pub after-left : (es : List Entry) (i : ℕ) → i ≤ n → after m es (a ++ b) i ≡ after m es a i
  unfolding after
  after-left es zero h = refl
  after-left es (suc i) h =
      ap (λ (l : List Entry). (line_at m (a ++ b) l i).entries) (after-left es i (omega arith))
      ∙ ap (λ (r : Reply). r.entries) (line-left (after m es a i) i h)

  pub after-right : (es : List Entry) (i : ℕ) → after m es (a ++ b) (n + i) ≡ after m (after m es a n) b i
  unfolding after
  after-right es zero = rw add-zero (after-left es n (omega arith))
  after-right es (suc i) =
      ap (after m es (a ++ b)) (add-suc n i)
      ∙ ap (λ (l : List Entry). (line_at m (a ++ b) l (n + i)).entries) (after-right es i)
      ∙ ap (λ (r : Reply). r.entries) (line-right (after m (after m es a n) b i) i)

  answer-left : (es : List Entry) (i : ℕ) → i < n → answer_at m es (a ++ b) i ≡ answer_at m es a i
  unfolding answer_at
  answer-left es i h =
      ap (λ (l : List Entry). (line_at m (a ++ b) l i).answer) (after-left es i (omega arith))
      ∙ ap (λ (r : Reply). r.answer) (line-left (after m es a i) i h)

  answer-right : (es : List Entry) (i : ℕ) → answer_at m es (a ++ b) (n + i) ≡ answer_at m (after m es a n) b i
  unfolding answer_at
  answer-right es i =
      ap (λ (l : List Entry). (line_at m (a ++ b) l (n + i)).answer) (after-right es i)
      ∙ ap (λ (r : Reply). r.answer) (line-right (after m (after m es a n) b i) i)

  pub answers-left : (F : Form) (es : List Entry) (i : ℕ) → i ≤ n → answers_to F m es (a ++ b) i ≡ answers_to F m es a i
  unfolding answers_to
  answers-left F es zero h = refl
  answers-left F es (suc i) h = rw (answers-left F es i (omega arith), answer-left es i h)

  pub answers-right : (F : Form) (es : List Entry) (i : ℕ) → answers_to F m es (a ++ b) (n + i) ≡ answers_to F m es a n ++ answers_to F m (after m es a n) b i
  unfolding answers_to
  answers-right F es zero = rw add-zero (answers-left F es n (omega arith) ∙ sym (append-nil (answers_to F m es a n)))
  answers-right F es (suc i) = rw (add-suc, answers-right F es i, answer-right es i)
      (append_assoc (answers_to F m es a n) (answers_to F m (after m es a n) b i) (answer_bytes F (answer_at m (after m es a n) b i)))

module _ (m : Meaning) (a b : List ℕ) (whole : Whole a) where
  whole-lines : length a ≡ 4 * lines a
  whole-lines = omega arith

  pub lines_append : lines (a ++ b) ≡ lines a + lines b
  lines_append = rw length-append (omega arith)

  -- the further script goes on from the entries that stand after the first
  pub standing_append : standing m (a ++ b) ≡ after m (standing m a) b (lines b)
  unfolding standing
  standing_append = ap (after m [] (a ++ b)) lines_append ∙ after-right m a b (lines a) whole-lines [] (lines b)

  pub answers_append : (F : Form) → answers F m (a ++ b) ≡ answers F m a ++ answers_to F m (standing m a) b (lines b)
  unfolding standing answers
  answers_append F = ap (answers_to F m [] (a ++ b)) lines_append ∙ answers-right m a b (lines a) whole-lines F [] (lines b)
