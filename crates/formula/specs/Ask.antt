-- What ASK means: whether the variables that are not entered can be chosen so that f is true, and the smallest choice. Assumes nothing.
use Rattle.std.specs.Prelude.{ℕ, ◌^◌, ◌≤◌, ◌<◌, ◌≡◌, Bool, cond, ◌&&◌, ltb}
use Rattle.std.proofs.Math.Bool.{true, false}
use Rattle.words.specs.Word.{bit}
use Rattle.words.specs.Mask.{Sub, agree, inside, mask_of}
use Rattle.formula.specs.Assignment.{Assignment, On}
use Rattle.formula.specs.Formula.{Formula, truth, free}
use Rattle.formula.specs.Least.{least}

-- a yes (true) or a no, and the word beside it
pub record Verdict : Type 0 where
  pub holds : Bool
  pub word : ℕ

-- f's free variables below n, as a word
unfoldable pub free_mask : ℕ → Formula → ℕ
free_mask n f = mask_of n (free f)

-- the word w agrees with the entries, is 0 outside f's free variables, and makes f true
unfoldable pub fits : ℕ → Formula → ℕ → ℕ → ℕ → Bool
fits n f mask values w = agree mask values w && (inside w (free_mask n f) && truth f (bit w))

unfoldable pub verdict_at : ℕ → ℕ → Verdict
verdict_at n w = cond (ltb w (2 ^ n)) (record { holds = true; word = w }) (record { holds = false; word = 0 })

-- the entries are the variables of mask with their values; the words are those below 2 ^ n
unfoldable pub ask : ℕ → Formula → ℕ → ℕ → Verdict
ask n f mask values = verdict_at n (least (fits n f mask values) 0 (2 ^ n))

-- n is above f's free variables
pub record Bounded (n : ℕ) (f : Formula) : Type 0 where
  pub below : (k : ℕ) → free f k ≡ true → k < n

-- ---- what fits

pub record Fit (n : ℕ) (f : Formula) (mask values w : ℕ) : Type 0 where
  pub agrees : agree mask values w ≡ true
  pub stays : inside w (free_mask n f) ≡ true
  pub holds : truth f (bit w) ≡ true

-- ---- the answer from what fits, and back

-- the first word that fits
pub record First (n : ℕ) (f : Formula) (mask values w : ℕ) : Type 0 where
  pub below : w < 2 ^ n
  pub passes : fits n f mask values w ≡ true
  pub before : (z : ℕ) → z < w → fits n f mask values z ≡ false

abbrev pub yes : ℕ → Verdict
yes w = record { holds = true; word = w }

abbrev pub no : Verdict
no = record { holds = false; word = 0 }

-- ---- the answer in words: some assignment that agrees with every entry makes f true

-- the entries are of free variables, and their values of entered ones
pub record Entries (n : ℕ) (f : Formula) (mask values : ℕ) : Type 0 where
  pub bounded : Bounded n f
  pub opened : Sub mask (free_mask n f)
  pub valued : Sub values mask

-- the word of an assignment: its values of f's free variables
unfoldable pub word_of : ℕ → Formula → Assignment → ℕ
word_of n f σ = mask_of n (λ k. free f k && σ k)

-- yes: the word is such an assignment, is 0 off the free variables, and is at most every word that is such an assignment
pub record Smallest (n : ℕ) (f : Formula) (mask values w : ℕ) : Type 0 where
  pub below : w < 2 ^ n
  pub agrees : On (bit mask) (bit w) (bit values)
  pub stays : (k : ℕ) → bit w k ≡ true → free f k ≡ true
  pub holds : truth f (bit w) ≡ true
  pub least : (z : ℕ) → On (bit mask) (bit z) (bit values) → truth f (bit z) ≡ true → w ≤ z
