-- What the search over a net is asked and finds: the contracts of source 000's two functions. Assumes nothing.
use Rattle.std.specs.Prelude.{ℕ, ◌+◌, ◌*◌, ◌≤◌, ◌<◌, ◌^◌, ◌≡◌, Bool, true, false, List, length}
use Rattle.words.specs.Word.{bit}
use Rattle.formula.specs.Formula.{Formula}
use Rattle.records.specs.Both.{Tables}
use Rattle.net.specs.Net.{Clear}
use Rattle.net.specs.Layout.{net_form, frames_of, packed, val, Ground}
use Rattle.net.specs.Sheet.{Faithful}
use Rattle.judge.specs.Judge.{Judged}
pub use Rattle.imply.specs.Posed.{Found, Met, Lost, Solved, Free, Covers, Posed}
pub use Rattle.proxies.specs.Told.{Told}

-- f is searched for the truth t over the variables of `loose`
abbrev pub Settled : Formula → ℕ → ℕ → ℕ → Bool → ℕ → ℕ → Type 0
Settled f t loose w true word r = Found f (val t) loose w word r
Settled f t loose w false word r = Lost f (val t) loose w r

-- the scratch for wants and tables has three words for every node, and the records are true of what the frames stand for, to which the net is faithful
pub record Lent (net wants u : List ℕ) (cu : ℕ) (o : List ℕ) (co : ℕ) : Type 0 where
  pub long : 3 * length net ≤ 201 + 2 * length wants
  pub φ : ℕ → Formula
  pub faithful : Faithful φ net
  pub tables : Tables (net_form net) φ (frames_of net) u cu o co

-- node i under a full candidate, or a quantifier of a question behind the frames
pub record Checked (net : List ℕ) (i m w : ℕ) (cells : List ℕ) : Type 0 where
  pub grounded : Ground net
  pub here : i ≤ frames_of net + 2
  pub covers : Covers net i m
  pub clear : Clear (packed net) i m
  pub judged : Judged net m w cells

-- what a leaf has under the word w
pub record Leaf (op left w v r : ℕ) : Type 0 where
  pub some : 0 < v
  pub low : v < 3
  pub never : op ≡ 0 → (v ≡ 1) × (r ≡ 0)
  pub always : op ≡ 1 → (v ≡ 2) × (r ≡ 0)
  pub reads : op ≡ 2 → (val v ≡ bit w left) × (r ≡ 2 ^ left)
