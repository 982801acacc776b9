-- A sheet's frames stored as the nodes of a net, one after the other. Assumes nothing.
use Rattle.std.specs.Prelude.{ℕ, ◌<◌, ◌≤◌, ◌≡◌, List, length, get_or, replicate}
use Rattle.words.specs.Mask.{range_mask}
use Rattle.sheet.specs.declared.Kind.{Kind}
use Rattle.sheet.specs.declared.Kind.TheVariants.{Never, Input, Not, And, Or, Exists, Forall, Gauge}
use Rattle.form.specs.declared.Form.{Form}
use Rattle.sheet.specs.Fields.{Sheet, frames, most_frames, variables, kind}
use Rattle.sheet.specs.Frames as Sheets
use Rattle.net.specs.Decode.{node_of_kind}
use Rattle.net.specs.Layout.{net_words, first_word, packed}

-- the variables that a frame binds, as a word
unfoldable pub bound_of : Kind → ℕ
bound_of Never = 0
bound_of (Input x) = 0
bound_of (Not a) = 0
bound_of (And a b) = 0
bound_of (Or a b) = 0
bound_of (Exists a b c) = range_mask b c
bound_of (Forall a b c) = range_mask b c
bound_of (Gauge x) = 0

abbrev pub empty_net : Form → List ℕ
empty_net F = replicate (net_words F) 0

pub record Empty (F : Form) (net : List ℕ) : Type 0 where
  pub is : net ≡ empty_net F

-- the first k frames of s are stored, and behind them the net is empty
pub record Loading (s : Sheet) (net : List ℕ) (k : ℕ) : Type 0 where
  pub ordered : Sheets.Ordered (variables s) (kind s)
  pub few : frames s ≤ most_frames s
  pub long : length net ≡ net_words s.form
  pub within : k ≤ frames s
  pub nodes : (j : ℕ) → j < k → packed net j ≡ node_of_kind (kind s j)
  pub behind : (i : ℕ) → first_word k ≤ i → get_or net i 0 ≡ 0
