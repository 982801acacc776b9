-- Reasons whose mask and assignment are words, at every width: what a solver does with them. Assumes nothing.
use Rattle.std.specs.Prelude.{ℕ, ◌^◌, ◌≡◌, Bool, true, false, not, eqb}
use Rattle.std.proofs.Common.{sym, ◌∙◌, eqb-true}
use Rattle.std.proofs.Math.Path.{fun_ext}
use Rattle.std.proofs.Math.Bool.{and-true}
use Rattle.std.specs.Int.Bits.{bit_and, bit_or}
use Rattle.words.proofs.Logic.{by_bool, clash}
use Rattle.words.specs.Word.{bit}
use Rattle.words.proofs.Bits.{bit-and, bit-or, bit-none, bit-pow}
use Rattle.words.specs.Mask.{Sub, Apart, without, range_mask, put, agree}
use Rattle.words.proofs.Mask.{sub-bits, bits_apart, bit-without, bit-range_mask, bit-put, agree-bits}
use Rattle.formula.specs.Assignment.{Assignment, assign, within}
use Rattle.formula.proofs.Assignment.{assign_other}
use Rattle.formula.specs.Formula.{Formula, never, input, gate, quant, truth}
use Rattle.formula.specs.Reason.{Explains}
use Rattle.formula.proofs.Reason.{explains_never, explains_input, gate-both, quant_decided, quant-undecided, explains_branch, explains_set, explains_mask, explains_truth}
use Rattle.formula.specs.Ask.{Bounded, free_mask}
use Rattle.formula.proofs.Ask.{bit-free}

pub word-never : (w : Assignment) → Explains never false (bit 0) w
word-never w = explains_mask (explains_never w) (bit 0) (λ k. sym (bit-none k))

pub word-input : (x : ℕ) (w : Assignment) → Explains (input x) (w x) (bit (2 ^ x)) w
word-input x w = explains_mask (explains_input x w) (bit (2 ^ x)) (λ k. sym (bit-pow x k))

pub word-both : {f g : Formula} {v : Bool} {w : Assignment} (d : Bool) (r q : ℕ) → Explains f v (bit r) w → Explains g v (bit q) w → Explains (gate d f g) v (bit (bit_or r q)) w
word-both d r q F G = explains_mask (gate-both d F G) (bit (bit_or r q)) (λ k. sym (bit-or r q k))

-- ---- quantifiers

-- a range, as a word
pub within-range : (b c k : ℕ) → bit (range_mask b c) k ≡ within b c k
unfolding within
within-range b c k = bit-range_mask b c k

module _ {d : Bool} {f : Formula} {w : Assignment} (b c r : ℕ) where
  pub word_decided : Explains f d (bit r) w → Explains (quant d b c f) d (bit (without r (range_mask b c))) w
  word_decided F = explains_mask (quant_decided F) (bit (without r (range_mask b c))) (λ k. simp (bit-without, within-range))

  pub word-undecided : Explains f (not d) (bit r) w → Apart r (range_mask b c) → Explains (quant d b c f) (not d) (bit r) w
  word-undecided F a = quant-undecided F (λ k e. sym (within-range b c k) ∙ bits_apart a k e)

-- ---- branching on x

pub put-assign : (w x : ℕ) (b : Bool) → bit (put w x b) ≡ assign (bit w) x b
unfolding assign
put-assign w x b = fun_ext (λ k. bit-put w x b k)

module _ {f : Formula} {v : Bool} (r w x : ℕ) where
  -- both halves
  pub word_branch : (q : ℕ) → Explains f v (bit r) (bit (put w x false)) → Explains f v (bit q) (bit (put w x true)) → Explains f v (bit (without (bit_or r q) (2 ^ x))) (bit w)
  word_branch q F G =
      explains_mask (explains_branch x (rw (put-assign w x false) at F) (rw (put-assign w x true) at G))
      (bit (without (bit_or r q) (2 ^ x))) (λ k. simp (bit-without, bit-or, bit-pow))

  -- one half, whose reason lacks x
  pub word_skip : (b : Bool) → bit r x ≡ false → Explains f v (bit r) (bit (put w x b)) → Explains f v (bit r) (bit w)
  word_skip b h F =
      explains_set (rw (put-assign w x b) at F) (bit w)
      (λ k e. by_bool (eqb k x) (λ i. clash (bit r k) e (rw (eqb-true k x i) h)) (λ i. assign_other (bit w) x b k i))

-- ---- records: a mask with values

module _ {f : Formula} {v : Bool} (r w : ℕ) (F : Explains f v (bit r) (bit w)) where
  -- the values outside the mask may go
  pub word-values : Explains f v (bit r) (bit (bit_and w r))
  word-values = explains_set F (bit (bit_and w r)) (λ k e. rw (bit-and, e) (sym (and-true (bit w k))))

  -- a setting that agrees
  pub word-agree : (s : ℕ) → agree r w s ≡ true → Explains f v (bit r) (bit s)
  word-agree s a = explains_set F (bit s) (λ k e. sym (agree-bits r w s a k e))

  pub word-truth : (s : ℕ) → agree r w s ≡ true → truth f (bit s) ≡ v
  word-truth s a = explains_truth (word-agree s a)

  -- the mask lies in the free variables
  pub word-sub : (n : ℕ) → Bounded n f → Sub r (free_mask n f)
  word-sub n B = sub-bits r (free_mask n f) (λ k e. bit-free B k ∙ F.inside k e)
