-- What a search of a node for a truth is asked and finds. Assumes nothing.
use Rattle.std.specs.Prelude.{ℕ, ◌+◌, ◌<◌, ◌≡◌, Bool, true, false, not, List}
use Rattle.std.specs.Int.Bits.{bit_or}
use Rattle.words.specs.Word.{bit}
use Rattle.words.specs.Mask.{Sub, Apart}
use Rattle.formula.specs.Formula.{Formula, truth, free}
use Rattle.formula.specs.Reason.{Explains}
use Rattle.net.specs.Net.{Clear}
use Rattle.net.specs.Layout.{frames_of, free_of, packed, formula_at, val, Ground}
use Rattle.judge.specs.Judge.{Judged}

-- found: the word gives f the truth v because of the variables of r; it is w and some variables of `loose`, and no smaller one does
pub record Found (f : Formula) (v : Bool) (loose w word r : ℕ) : Type 0 where
  pub explains : Explains f v (bit r) (bit word)
  pub chosen : ℕ
  pub inside : Sub chosen loose
  pub is : word ≡ w + chosen
  pub least : (z : ℕ) → Sub z loose → w + z < word → truth f (bit (w + z)) ≡ not v

-- met: the same, but that no smaller word does is said only where all of `loose` are variables of `free`: of these 0 is tried first
pub record Met (f : Formula) (v : Bool) (free loose w word r : ℕ) : Type 0 where
  pub explains : Explains f v (bit r) (bit word)
  pub chosen : ℕ
  pub inside : Sub chosen loose
  pub is : word ≡ w + chosen
  pub least : Sub loose free → (z : ℕ) → Sub z loose → w + z < word → truth f (bit (w + z)) ≡ not v

-- lost: f has the other truth because of the variables of r, whatever those of `loose` are
pub record Lost (f : Formula) (v : Bool) (loose w r : ℕ) : Type 0 where
  pub explains : Explains f (not v) (bit r) (bit w)
  pub apart : Apart r loose

-- f was searched for the truth t over the variables of `loose`
abbrev pub Searched : Formula → ℕ → ℕ → ℕ → ℕ → Bool → ℕ → ℕ → Type 0
Searched f free t loose w true word r = Met f (val t) free loose w word r
Searched f free t loose w false word r = Lost f (val t) loose w r

-- node a was; the word found is the least where all of `loose` are free in the last frame
abbrev pub Solved : List ℕ → ℕ → ℕ → ℕ → ℕ → Bool → ℕ → ℕ → Type 0
Solved net a t loose w found word r = Searched (formula_at net a) (free_of net) t loose w found word r

-- the cube m, w fixes and sets no variable of `loose`
pub record Free (loose m w : ℕ) : Type 0 where
  pub apart : Apart m loose
  pub clear : Apart w loose

-- every variable that node a reads is a place of z
pub record Covers (net : List ℕ) (a z : ℕ) : Type 0 where
  pub all : (x : ℕ) → free (formula_at net a) x ≡ true → bit z x ≡ true

-- a search of node a for the truth t: the cube m, w fixes and sets no variable of `loose`, all that the node reads is assigned or loose, and no
-- quantifier below binds any of it
pub record Posed (net : List ℕ) (a t loose m w : ℕ) (cells : List ℕ) : Type 0 where
  pub grounded : Ground net
  pub here : a < frames_of net + 2
  pub target_some : 0 < t
  pub target_low : t < 3
  pub free : Free loose m w
  pub covers : Covers net a (bit_or m loose)
  pub clear : Clear (packed net) a (bit_or m loose)
  pub judged : Judged net m w cells
