-- The net of a sheet: node k stands for frame k, unless it is changed, and the last one serves for the last frame. What a sheet that was checked gives to it.
-- Assumes nothing.
use Rattle.std.specs.Prelude.{ℕ, ◌<◌, ◌≤◌, ◌≡◌, true, false, List, length, get_or}
use Rattle.std.proofs.Common.{sym, subst, ◌∙◌}
use Rattle.formula.specs.Formula.{Formula}
use Rattle.formula.specs.Formula as Truth
use Rattle.formula.specs.Ask.{Bounded, free_mask}
use Rattle.sheet.specs.Fields.{Sheet, frames, most_frames, variables, kind}
use Rattle.sheet.specs.Frames.{formula}
use Rattle.sheet.specs.Frames as Sheets
use Rattle.sheet.specs.Rules.{binds, gauges}
-- the number of the last frame
pub use Rattle.sheet.specs.Rules.{last}
use Rattle.net.specs.Net.{Clear}
use Rattle.net.specs.Layout.{net_words, net_form, form_words, frames_of, free_of, gauges_of, first_word, packed, changed, formula_at, Ground}
use Rattle.net.specs.Stands.{Stands, Serves}

-- the formula of the whole sheet
abbrev pub root : Sheet → Formula
root s = formula s (last s)

-- s is a sheet that was checked, and free are the free (open) variables of its last frame
pub record Checked (s : Sheet) (free : ℕ) : Type 0 where
  pub ordered : Sheets.Ordered (variables s) (kind s)
  pub some : 0 < frames s
  pub few : frames s ≤ most_frames s
  pub opens : free ≡ free_mask (variables s) (root s)
  -- a variable is bound by one frame at most, and none that is bound is free in the last frame
  pub once : (j k v : ℕ) → j < frames s → k < frames s → binds (kind s j) v ≡ true → binds (kind s k) v ≡ true → j ≡ k
  pub closed : (k v : ℕ) → k < frames s → binds (kind s k) v ≡ true → Truth.free (root s) v ≡ false

-- the net of s: every node of a frame stands for it, or is changed, and behind the last frame all is empty
pub record NetOf (s : Sheet) (net : List ℕ) : Type 0 where
  pub grounded : Ground net
  pub long : length net ≡ net_words s.form
  pub count : frames_of net ≡ frames s
  pub opens : free_of net ≡ free_mask (variables s) (root s)
  pub gauged : gauges_of net ≡ gauges s
  pub bounded : Bounded (variables s) (root s)
  pub each : (k : ℕ) → k < frames s → changed net k ≡ false → Stands (formula s k) (formula_at net k)
  pub ends : Serves (root s) (formula_at net (last s))
  pub clear : Clear (packed net) (last s) (free_of net)
  pub empty : (i : ℕ) → first_word (frames_of net) ≤ i → get_or net i 0 ≡ 0

-- φ gives each frame's formula, for which its node stands unless it is changed
pub record Faithful (φ : ℕ → Formula) (net : List ℕ) : Type 0 where
  pub each : (k : ℕ) → k < frames_of net → changed net k ≡ false → Stands (φ k) (formula_at net k)

pub net_faithful : {s : Sheet} {net : List ℕ} → NetOf s net → Faithful (formula s) net
net_faithful {s} {net} N = record { each = λ k l. N.each k (rw N.count at l) }

-- the free variables are those that the net has
pub checked_net : {s : Sheet} {net : List ℕ} {free : ℕ} → Checked s free → NetOf s net → Checked s (free_of net)
checked_net {s} k n = subst (Checked s) (k.opens ∙ sym n.opens) k

-- the net has the form of its sheet
pub net-form : {s : Sheet} {net : List ℕ} → NetOf s net → net_form net ≡ s.form
net-form {s} {net} n = form_words s.form net n.long
