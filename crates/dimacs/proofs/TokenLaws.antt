-- The fields of a text one after the other: the laws that the code goes by. Assumes nothing.
use Rattle.std.specs.Prelude.{ℕ, zero, suc, ◌≤◌, ◌<◌, false, List, [], ◌∷◌, ◌≡◌, refl, eqb, length, drop}
use Rattle.std.proofs.Common.{arith, sym, ap, ap₂, ◌∙◌, drop_of_length-le}
use Rattle.std.proofs.Math.ListN.{length-drop}
use Rattle.words.proofs.Logic.{by_bool}
use Rattle.dimacs.specs.Token.{line_feed, blank, separates, after_blanks, word, behind_here, token, behind, tokens_within, tokens, Taken}
use Rattle.dimacs.specs.declared.token.Token.{Token}

-- ---- behind a field less is left

module _ (b : ℕ) (l : List ℕ) where
  -- what starts with neither a blank nor a line's end starts with a word
  here_less : blank b ≡ false → length (behind_here (b ∷ l)) ≤ length l
  unfolding behind_here word separates
  here_less e =
      by_bool (eqb b line_feed) (λ t. rw t (omega arith))
      (λ f. rw (f, e) (omega (arith, length-drop (length (word l)) l)))

pub behind_less : (b : ℕ) (l : List ℕ) → length (behind (b ∷ l)) ≤ length l
unfolding behind after_blanks behind_here
behind_less b [] = by_bool (blank b) (λ t. rw t (omega arith)) (λ f. rw f (here_less b [] f))
behind_less b (c ∷ l) =
    by_bool (blank b)
    (λ t. rw t (omega (arith, behind_less c l)))
    (λ f. rw f (here_less b (c ∷ l) f))

-- ---- how many are asked for makes no difference, where they are enough

within-enough : (n m : ℕ) (l : List ℕ) → length l ≤ n → length l ≤ m → tokens_within n l ≡ tokens_within m l
unfolding tokens_within
within-enough zero zero l h k = refl
within-enough zero (suc m) [] h k = refl
within-enough zero (suc m) (b ∷ l) h k = absurd (omega arith)
within-enough (suc n) zero [] h k = refl
within-enough (suc n) zero (b ∷ l) h k = absurd (omega arith)
within-enough (suc n) (suc m) [] h k = refl
within-enough (suc n) (suc m) (b ∷ l) h k =
    ap {B = List Token} (λ ts. token (b ∷ l) ∷ ts) (within-enough n m (behind (b ∷ l)) (omega (arith, behind_less b l)) (omega (arith, behind_less b l)))

tokens_cons : (b : ℕ) (l : List ℕ) → tokens (b ∷ l) ≡ token (b ∷ l) ∷ tokens (behind (b ∷ l))
unfolding tokens tokens_within
tokens_cons b l =
    ap {B = List Token} (λ ts. token (b ∷ l) ∷ ts) (within-enough (length l) (length (behind (b ∷ l))) (behind (b ∷ l)) (behind_less b l) (omega arith))

pub tokens-some : (l : List ℕ) → 0 < length l → tokens l ≡ token l ∷ tokens (behind l)
tokens-some [] h = absurd (omega arith)
tokens-some (b ∷ l) h = tokens_cons b l

-- ---- as the code takes them

pub tokens_none : (text : List ℕ) (at : ℕ) → length text ≤ at → tokens (drop at text) ≡ []
unfolding tokens tokens_within
tokens_none text at h = rw (drop_of_length-le text h)

module _ {text : List ℕ} {at end : ℕ} {t : Token} (k : Taken text at t end) where
  pub tokens-taken : tokens (drop at text) ≡ t ∷ tokens (drop end text)
  tokens-taken =
      tokens-some (drop at text) (omega (arith, length-drop at text, k.onward, k.within))
      ∙ ap₂ {C = List Token} (λ a (l : List ℕ). a ∷ tokens l) (sym k.token-is) (sym k.rest-is)
