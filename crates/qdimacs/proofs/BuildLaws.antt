-- The frames of a question, from its fields through the two arrays: the laws that `build` goes by. Assumes nothing.
use Rattle.std.specs.Prelude.{ℕ, ◌+◌, ◌*◌, ◌≤◌, ◌<◌, ◌≡◌, length, take, drop}
use Rattle.std.proofs.Common.{zero-add, arith, sym, ◌∙◌, length-append, take_at}
use mathlib.Core.List.{List, ◌++◌, append_assoc}
use Rattle.std.proofs.Math.Path.{ap}
use Rattle.std.proofs.Math.Seq.{sets}
use Rattle.words.proofs.Stores.{sets-start}
use Rattle.sheet.specs.declared.Kind.{Kind}
use Rattle.prenex.specs.Question.{Question, Proper, Contingent}
use Rattle.prenex.specs.Kinds.{kinds, matrix_kinds, sheet_bytes, sheet_of}
use Rattle.prenex.specs.Code.{Codes, clauses_of, codes_of, word_kinds}
use Rattle.prenex.proofs.Every.{every_some}
use Rattle.prenex.specs.CodeLaws.{Words}
use Rattle.prenex.proofs.CodeLaws.{clauses_codes, codes_length, clauses-literals, words_length, words_kinds}
use Rattle.prenex.proofs.CodeLaws as EncodedLaws
use Rattle.prenex.proofs.SheetLaws.{sheet-length, sheet_append, sheet_has}
use Rattle.prenex.proofs.StoreLaws.{store_append}
use Rattle.prenex.proofs.SizeLaws.{many_literals, many_blocks}
use Rattle.prenex.proofs.MatrixLaws.{matrix-stands}
use Rattle.prenex.proofs.QuestionLaws.{clauses-below}
use Rattle.dimacs.specs.Page.{page}
use Rattle.dimacs.specs.Row.{header, codes_from, words_from}
use Rattle.dimacs.proofs.RowLaws.{codes_page, words_page}
use Rattle.dimacs.specs.declared.token.Token.{Token}
use Rattle.qdimacs.specs.Reading.{Arranged, BuiltAll}
use Rattle.qdimacs.specs.MatrixAsked.{Matrix}

-- ---- too many frames

module _ {q : Question} (p : Proper q) (few : q.variables ≤ 32) where
  -- the codes are at most twice as many as the literals
  pub many_codes : (n : ℕ) → n ≡ length (codes_of q.clauses) → 400 < n → 200 < length (kinds q)
  many_codes n e h =
      many_literals p few
      (omega (arith, e, h, codes_length q.clauses, clauses-literals q.clauses (every_some p.clauses-below)))

  pub many_words : {words : List ℕ} (n : ℕ) → n ≡ length words → Words words q.blocks → 200 < n → 200 < length (kinds q)
  many_words n e w h = many_blocks p few (omega (arith, e, h, words_length w))

-- ---- the arrays of a text

-- stored from the start of a buffer with room
stored-take : (vs l : List ℕ) {l' : List ℕ} (n : ℕ) → n ≡ length vs → n ≤ length l → l' ≡ sets l 0 vs → take n l' ≡ vs
stored-take vs l n e h s = ap (take n) (s ∙ sets-start vs l (omega (arith, e, h))) ∙ take_at vs (drop (length vs) l) n (sym e)

pub stored-length : (vs l : List ℕ) {l' : List ℕ} (n : ℕ) → n ≡ length vs → n ≤ length l → l' ≡ sets l 0 vs → n ≡ length (take n l')
stored-length vs l n e h s = e ∙ sym (ap length (stored-take vs l n e h s))

module _ {q : Question} (p : Proper q) (few : q.variables ≤ 32) {ts : List Token} (fields : ts ≡ page q) where
  pub codes_here : codes_from header ts ≡ codes_of q.clauses
  codes_here = ap (codes_from header) fields ∙ codes_page q p.clauses-below few

  pub words_here : Words (words_from header 0 ts) q.blocks
  words_here = rw fields (words_page q p.blocks-below few)

  pub arranged_here : (codes words : List ℕ) {codes' words' : List ℕ} (n m : ℕ)
      → n ≡ length (codes_from header ts) → n ≤ length codes → codes' ≡ sets codes 0 (codes_from header ts)
      → m ≡ length (words_from header 0 ts) → m ≤ length words → words' ≡ sets words 0 (words_from header 0 ts)
      → Arranged q (take n codes') (take m words')
  arranged_here codes words n m ne nl cs me ml ws = record {
    codes_are = stored-take (codes_from header ts) codes n ne nl cs ∙ codes_here;
    words_are = rw (stored-take (words_from header 0 ts) words m me ml ws) words_here;
    proper = p;
    few = few;
  }

-- ---- the frames of the arrays

module _ {q : Question} {codes words : List ℕ} (a : Arranged q codes words) where
  pub clauses_are : clauses_of codes ≡ q.clauses
  clauses_are = ap clauses_of a.codes_are ∙ clauses_codes q.clauses

  pub contingent_here : Contingent q.clauses → Contingent (clauses_of codes)
  contingent_here k = rw clauses_are k

  pub codes_fit : Codes codes
  codes_fit = rw a.codes_are (EncodedLaws.codes_are q.clauses (clauses-below a.few a.proper.clauses-below))

  pub some-frame : {n : ℕ} → n ≡ length (matrix_kinds (clauses_of codes)) → 1 ≤ n
  some-frame e =
      rw (e, clauses_are)
      (matrix-stands q.clauses a.proper.some-clause (clauses-below a.few a.proper.clauses-below) (sheet_has (matrix_kinds q.clauses))).least

  module _ {n : ℕ} (e : n ≡ length (matrix_kinds (clauses_of codes))) where
    kinds_are : matrix_kinds (clauses_of codes) ++ word_kinds words n ≡ kinds q
    unfolding kinds
    kinds_are = rw (e, clauses_are, words_kinds a.proper.alternating a.words_are (length (matrix_kinds q.clauses)))

    pub count-is : {m : ℕ} → m ≡ n + length (word_kinds words n) → m ≡ length (kinds q)
    count-is h = h ∙ omega (arith, e, length-append (matrix_kinds (clauses_of codes)) (word_kinds words n)) ∙ ap length kinds_are

    sheet-parts : sheet_of q ≡ sheet_bytes (matrix_kinds (clauses_of codes)) ++ sheet_bytes (word_kinds words n)
    unfolding sheet_of
    sheet-parts = ap sheet_bytes (sym kinds_are) ∙ sheet_append (matrix_kinds (clauses_of codes)) (word_kinds words n)

    sheet-size : length (sheet_of q) ≡ length (kinds q) * 4
    unfolding sheet_of
    sheet-size = sheet-length (kinds q)

    -- two parts stored one after the other
    both_stored : (f : List ℕ) {f1 f2 : List ℕ} → f1 ≡ sets f 0 (sheet_bytes (matrix_kinds (clauses_of codes))) → f2 ≡ sets f1 (n * 4) (sheet_bytes (word_kinds words n))
        → f2 ≡ sets f 0 (sheet_of q)
    unfolding sheet_of
    both_stored f h k =
        let ms = matrix_kinds (clauses_of codes) in
        k ∙ rw (h, e)
        (sym (store_append ms (word_kinds words (length ms)) f 0 ∙ rw zero-add)
        ∙ ap (λ (ks : List Kind). sets f 0 (sheet_bytes ks)) (rw (← e) kinds_are))

    module _ (f : List ℕ) (room : length f ≡ 800) (few : length (kinds q) ≤ 200) {f1 f2 : List ℕ} (h : f1 ≡ sets f 0 (sheet_bytes (matrix_kinds (clauses_of codes))))
        (k : f2 ≡ sets f1 (n * 4) (sheet_bytes (word_kinds words n))) where
      pub front-is : f2 ≡ sheet_of q ++ drop (length (sheet_of q)) f
      front-is = both_stored f h k ∙ sets-start (sheet_of q) f (omega (arith, sheet-size))

      matrix-front : take (n * 4) f2 ≡ sheet_bytes (matrix_kinds (clauses_of codes))
      matrix-front =
          let m = sheet_bytes (matrix_kinds (clauses_of codes)) in
          let w = sheet_bytes (word_kinds words n) in
          let rest = drop (length (sheet_of q)) f in
          ap (take (n * 4)) (front-is ∙ ap (λ (l : List ℕ). l ++ rest) sheet-parts ∙ append_assoc m w rest)
          ∙ take_at m (w ++ rest) (n * 4) (sheet-length (matrix_kinds (clauses_of codes)) ∙ omega (arith, e))

      pub matrix-here : Matrix codes (take (n * 4) f2)
      matrix-here = record {
        codes_are = codes_fit;
        some-clause = rw clauses_are a.proper.some-clause;
        below = rw clauses_are (clauses-below a.few a.proper.clauses-below);
        frames_are = matrix-front;
        few = omega (arith, ap length kinds_are, length-append (matrix_kinds (clauses_of codes)) (word_kinds words n));
      }

      pub built_all : {m size : ℕ} → m ≡ length (kinds q) → size ≡ m * 4 → Contingent (clauses_of codes) → BuiltAll q f size f2
      built_all u v j = record { few = few; size = omega (arith, u, v, sheet-size); bytes = front-is; contingent = rw clauses_are at j }
