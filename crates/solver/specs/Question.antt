-- A question to the search: what it needs of a net, and the quantifiers that it puts behind the frames. Assumes nothing.
use Rattle.std.specs.Prelude.{ℕ, ◌+◌, ◌*◌, ◌-◌, ◌≤◌, ◌<◌, ◌≡◌, true, false, List, length, replicate}
use Rattle.std.specs.Int.Bits.{bit_or}
use Rattle.words.specs.Word.{bit}
use Rattle.words.specs.Mask.{Sub, Apart}
use Rattle.formula.specs.Formula.{Formula}
use Rattle.formula.specs.Over.{over}
use Rattle.sheet.specs.Fields.{Sheet}
use Rattle.sheet.specs.Fields as Fields
use Rattle.sheet.specs.Frames.{formula}
use Rattle.records.specs.Both.{Tables}
use Rattle.net.specs.Net.{Binds}
use Rattle.net.specs.Layout.{frames_of, free_of, packed, formula_at, val}
use Rattle.net.specs.Sheet.{NetOf}
use Rattle.net.specs.Own.{Stacked}

-- the scratch of a question: a word for each word of the net's nodes, and nothing is known yet
pub record Scratch (net cells wants : List ℕ) : Type 0 where
  pub words : ℕ
  pub enough : length net ≤ 67 + words
  pub empty : cells ≡ replicate words 0
  pub wanted : 2 * length wants ≡ 3 * words

-- what is asked of the last frame: that for every setting of `all` some setting of `some` makes it true
abbrev pub asked : List ℕ → ℕ → ℕ → Formula
asked net all some = over false all (over true some (formula_at net (frames_of net - 1)))

-- a question for the truth t of that: the variables of `loose` are looked for. Those of the three masks are free, and apart
pub record Masks (s : Sheet) (net : List ℕ) (t loose all some : ℕ) : Type 0 where
  pub net_of : NetOf s net
  pub frames : 0 < frames_of net
  pub target_some : 0 < t
  pub target_low : t < 3
  pub loose_free : Sub loose (free_of net)
  pub all-free : Sub all (free_of net)
  pub some-free : Sub some (free_of net)
  pub some-all : Apart some all
  pub inner_loose : Apart (bit_or some all) loose

-- the cube m, w fixes all other free variables, and the records are true of the sheet
pub record Asking (s : Sheet) (net : List ℕ) (t loose all some m w : ℕ) (u : List ℕ) (cu : ℕ) (o : List ℕ) (co : ℕ) : Type 0 where
  pub masks : Masks s net t loose all some
  pub assigned : Sub m (free_of net)
  pub valued : Sub w m
  pub fixed : Apart (bit_or (bit_or some all) loose) m
  pub whole : (x : ℕ) → bit (free_of net) x ≡ true → bit (bit_or (bit_or some all) loose) x ≡ false → bit m x ≡ true
  pub tables : Tables s.form (formula s) (Fields.frames s) u cu o co

-- one quantifier more, at place i, where its mask has variables: r places are in use then
pub record Layered (net : List ℕ) (i d mask : ℕ) (net' : List ℕ) (r : ℕ) : Type 0 where
  pub low : r ≤ i + 1
  pub each : (s : Sheet) (base : List ℕ) (used : ℕ) → Stacked s base net i used → Sub mask (free_of base) → Apart used mask
      → Stacked s base net' r (bit_or used mask) × (formula_at net' (frames_of base + r - 1) ≡ over (val d) mask (formula_at net (frames_of base + i - 1)))

-- the question stands at node `own` of net', over what is asked
pub record Placed (s : Sheet) (net : List ℕ) (t loose all some : ℕ) (net' : List ℕ) (own : ℕ) : Type 0 where
  pub count : ℕ
  pub stacked : Stacked s net net' (count + 1) (bit_or (bit_or some all) loose)
  pub here : own ≡ frames_of net + count
  pub node : packed net' own ≡ Binds (val t) loose (own - 1)
  pub body : formula_at net' (own - 1) ≡ asked net all some
