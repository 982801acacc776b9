-- Fields at places of a text: the laws of comments, blanks, words and numbers that the code goes by. Assumes nothing.
use Rattle.std.specs.Prelude.{ℕ, suc, ◌+◌, ◌-◌, ◌≤◌, ◌<◌, Bool, true, not, ◌≡◌}
use Rattle.std.proofs.Math.Numerals.{add-one}
use Rattle.std.proofs.Common.{None, Some, arith, sym, ◌∙◌}
use Rattle.std.proofs.Math.Bool.{false}
use mathlib.Core.List.{List, [], ◌∷◌}
use Rattle.std.proofs.Math.Path.{ap}
use Rattle.std.proofs.Math.Dec.{eqb}
use Rattle.std.proofs.Math.ListN.{length, get_or, drop, drop_of_length-le}
use Rattle.std.proofs.Math.Seq.{slice, drop-cons, drop-drop, slice_empty, slice-cons, length-slice}
use borrow.Author.Tests.{eq-eqb, ne_eqb}
use Rattle.words.proofs.Logic.{by_bool}
use Rattle.dimacs.specs.Token.{line_feed, blank, separates, behind_comments, after_blanks, word, with_digit, decimal_from, token_of, token_here, behind_here, token, behind, Taken}
use Rattle.dimacs.specs.declared.token.Token.{Token}
use Rattle.dimacs.specs.declared.token.Token.TheVariants.{Line, Other}
use Rattle.dimacs.specs.FieldLaws.{SameEnd}

-- ---- comments

pub comments_none : (inside : Bool) (text : List ℕ) (at : ℕ) → length text ≤ at → behind_comments inside (drop at text) ≡ drop at text
unfolding behind_comments
comments_none true text at h = rw (drop_of_length-le text h)
comments_none false text at h = rw (drop_of_length-le text h)

module _ (text : List ℕ) (at : ℕ) (h : at < length text) where
  pub comments_inside : behind_comments true (drop at text) ≡ behind_comments (not (eqb (get_or text at 0) line_feed)) (drop (at + 1) text)
  unfolding behind_comments
  comments_inside = rw (drop-cons text at 0 h, add-one at)

  pub comments_start : get_or text at 0 ≡ 99 → behind_comments false (drop at text) ≡ behind_comments true (drop (at + 1) text)
  unfolding behind_comments
  comments_start e = rw (drop-cons text at 0 h, add-one at, eq-eqb (get_or text at 0) 99 e)

  pub comments_stop : (get_or text at 0 ≡ 99 → ⊥) → behind_comments false (drop at text) ≡ drop at text
  unfolding behind_comments
  comments_stop e = rw (drop-cons text at 0 h, ne_eqb (get_or text at 0) 99 e)

-- ---- blanks

pub blanks_none : (text : List ℕ) (at : ℕ) → length text ≤ at → after_blanks (drop at text) ≡ drop at text
unfolding after_blanks
blanks_none text at h = rw (drop_of_length-le text h)

module _ (text : List ℕ) (at : ℕ) (h : at < length text) where
  pub blanks_stop : blank (get_or text at 0) ≡ false → after_blanks (drop at text) ≡ drop at text
  unfolding after_blanks
  blanks_stop e = rw (drop-cons text at 0 h, e)

  pub blanks_go : blank (get_or text at 0) ≡ true → after_blanks (drop at text) ≡ after_blanks (drop (at + 1) text)
  unfolding after_blanks
  blanks_go e = rw (add-one at, drop-cons text at 0 h, e)

nil_no_cons : (b : ℕ) (m : List ℕ) → [] ≡ b ∷ m → ⊥
nil_no_cons b m e = let z : 0 ≡ suc (length m) = ap (λ (l : List ℕ). length l) e in omega arith

-- what is left behind blanks starts with none
no-blank-left : (l : List ℕ) (b : ℕ) (m : List ℕ) → after_blanks l ≡ b ∷ m → blank b ≡ false
unfolding after_blanks
no-blank-left [] b m e = absurd (nil_no_cons b m e)
no-blank-left (a ∷ l) b m e =
    by_bool (blank a)
    (λ t. no-blank-left l b m (rw t at e))
    (λ f. let k : a ∷ l ≡ b ∷ m = rw f at e in ap (λ (n : List ℕ). blank (get_or n 0 0)) (sym k) ∙ f)

pub word_none : (text : List ℕ) (at : ℕ) → length text ≤ at → slice at at text ≡ word (drop at text)
unfolding word
word_none text at h = rw (slice_empty at text, drop_of_length-le text h)

module _ (text : List ℕ) (at : ℕ) (h : at < length text) where
  pub word_stop : separates (get_or text at 0) ≡ true → slice at at text ≡ word (drop at text)
  unfolding word
  word_stop e = rw (slice_empty at text, drop-cons text at 0 h, e)

  word-longer : (end : ℕ) → at + 1 ≤ end → end ≤ length text → separates (get_or text at 0) ≡ false → slice (at + 1) end text ≡ word (drop (at + 1) text) → slice at end text ≡ word (drop at text)
  unfolding word
  word-longer end k w e q =
      slice-cons at end text 0 (omega arith) w ∙ ap (λ (l : List ℕ). get_or text at 0 ∷ l) (ap (λ (n : ℕ). slice n end text) (sym (add-one at)) ∙ q)
      ∙ rw (drop-cons text at 0 h, e, add-one at)

  pub word-go : (from : ℕ) → SameEnd text from at → separates (get_or text at 0) ≡ false → SameEnd text from (at + 1)
  word-go from s e end k w q = s end (omega arith) w (word-longer end k w e q)

-- ---- numbers

pub digits-none : (v : ℕ) (w : List ℕ) (i : ℕ) → length w ≤ i → decimal_from v (drop i w) ≡ Some v
unfolding decimal_from
digits-none v w i h = rw (drop_of_length-le w h)

module _ (w : List ℕ) (i : ℕ) (h : i < length w) (v : ℕ) where
  pub digits_stop : with_digit v (get_or w i 0) ≡ None → decimal_from v (drop i w) ≡ None
  unfolding decimal_from
  digits_stop e = rw (drop-cons w i 0 h, e)

  pub digits-go : {v' : ℕ} → with_digit v (get_or w i 0) ≡ Some v' → decimal_from v (drop i w) ≡ decimal_from v' (drop (i + 1) w)
  unfolding decimal_from
  digits-go e = rw (drop-cons w i 0 h, e, add-one i)

-- ---- a field taken; from: where the blanks before it end

module _ (text : List ℕ) (at from : ℕ) (e : drop from text ≡ after_blanks (drop at text)) where
  -- nothing but blanks is left
  pub taken_none : at < length text → from ≡ length text → Taken text at Other from
  unfolding token behind token_here behind_here
  taken_none h q =
      let z : drop from text ≡ [] = drop_of_length-le text {i = from} (omega arith) in record {
        token-is = rw (← e, z);
        rest-is = rw (← e, z);
        onward = omega arith;
        within = omega arith;
      }

  module _ (h : at ≤ from) (w : from < length text) where
    pub taken-line : get_or text from 0 ≡ line_feed → Taken text at Line (from + 1)
    unfolding token behind token_here behind_here
    taken-line q =
        record {
          token-is = rw (← e, drop-cons text from 0 w, eq-eqb (get_or text from 0) line_feed q);
          rest-is = rw (← e, drop-cons text from 0 w, eq-eqb (get_or text from 0) line_feed q, add-one from);
          onward = omega arith;
          within = omega arith;
        }

    module _ (q : get_or text from 0 ≡ line_feed → ⊥) (to : ℕ) (k : to ≤ length text) (s : slice from to text ≡ word (drop from text)) where
      word-there : word (drop from text) ≡ get_or text from 0 ∷ word (drop (suc from) text)
      unfolding word separates
      word-there =
          let b = no-blank-left (drop at text) (get_or text from 0) (drop (suc from) text) (sym e ∙ drop-cons text from 0 w) in
          rw (drop-cons text from 0 w, b, ne_eqb (get_or text from 0) line_feed q)

      pub word_some : from < to
      word_some =
          let z : to - from ≡ suc (length (word (drop (suc from) text))) =
          sym (length-slice from to text k) ∙ ap (λ (l : List ℕ). length l) (s ∙ word-there) in
          omega arith

      here-is : token_here (drop from text) ≡ token_of (word (drop from text))
      unfolding token_here
      here-is = rw (drop-cons text from 0 w, ne_eqb (get_or text from 0) line_feed q)

      here-rest : behind_here (drop from text) ≡ drop (length (word (drop from text))) (drop from text)
      unfolding behind_here
      here-rest = rw (drop-cons text from 0 w, ne_eqb (get_or text from 0) line_feed q)

      pub taken_word : {t : Token} → t ≡ token_of (slice from to text) → Taken text at t to
      unfolding token behind
      taken_word g =
          let n : from + length (word (drop from text)) ≡ to = omega (arith, ap (λ (l : List ℕ). length l) s, length-slice from to text k, word_some) in
          record {
            token-is = g ∙ rw (s, ← e, here-is);
            rest-is = rw (← e, here-rest, drop-drop, n);
            onward = omega (arith, word_some);
            within = k;
          }
