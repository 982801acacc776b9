-- Document 01's rules for a sheet, with document 02's for gauges, one field a sentence, in no order, with the sizes of its form. proofs/AcceptedLaws.antt: a
-- sheet is accepted exactly if it keeps them. Assumes nothing.
use Rattle.std.specs.Prelude.{ℕ, ◌+◌, ◌≤◌, ◌<◌, ◌≡◌, true, false, ◌⊎◌, length}
use mathlib.Core.List.{Memᴰ}
use Rattle.form.specs.Form as Sizes
use Rattle.formula.specs.Formula.{free}
use Rattle.sheet.specs.Fields.{Sheet, frames, most_frames, variables, fields_at, kind}
use Rattle.sheet.specs.Frames.{formula}
use Rattle.sheet.specs.Rules.{last, used, names, binds}
use Rattle.sheet.specs.declared.Kind.{Kind}
use Rattle.sheet.specs.declared.Kind.TheVariants.{Input, Exists, Forall, Gauge}

-- d quantifies the frame a over the c variables from b on
abbrev pub Quantifies : Kind → ℕ → ℕ → ℕ → Type 0
Quantifies d a b c = (d ≡ Exists a b c) ⊎ (d ≡ Forall a b c)

-- d is an INPUT of the variable x, a gauge or not
abbrev pub Reads : Kind → ℕ → Type 0
Reads d x = (d ≡ Input x) ⊎ (d ≡ Gauge x)

pub record Keeps (s : Sheet) : Type 0 where
  -- a sheet is 1 to 200 frames of four bytes, or, wide, 1 to 3,000 of seven
  pub whole : Sizes.frame_start s.form (frames s) ≡ length s.bytes
  pub least : 1 ≤ frames s
  pub most : frames s ≤ most_frames s
  -- the kinds are 00 to 07
  pub known : (k : ℕ) → k < frames s → (fields_at s k).k ≤ 7
  -- spare fields are 0: those of A B C that the kind does not use
  pub spare_a : (k : ℕ) → k < frames s → used (kind s k) < 1 → (fields_at s k).a ≡ 0
  pub spare_b : (k : ℕ) → k < frames s → used (kind s k) < 2 → (fields_at s k).b ≡ 0
  pub spare_c : (k : ℕ) → k < frames s → used (kind s k) < 3 → (fields_at s k).c ≡ 0
  -- a named frame has a smaller number than the frame that names it
  pub earlier : (k a : ℕ) → k < frames s → Memᴰ a (names (kind s k)) → a < k
  -- variables are 0 to 31, or, wide, 0 to 63
  pub variable : (k x : ℕ) → k < frames s → Reads (kind s k) x → x < variables s
  -- a quantifier binds C variables from B on, C is 1 to 32, and B + C is at most 32; wide, 64
  pub range : (k a b c : ℕ) → k < frames s → Quantifies (kind s k) a b c → (1 ≤ c) × (c ≤ variables s) × (b + c ≤ variables s)
  -- no variable is named by an INPUT (01) and as a gauge (07), reached or not
  pub unmixed : (j k x : ℕ) → j < frames s → k < frames s → kind s j ≡ Input x → kind s k ≡ Gauge x → ⊥
  -- no gauge is bound, reached or not
  pub unbound : (j k x : ℕ) → j < frames s → k < frames s → kind s j ≡ Gauge x → binds (kind s k) x ≡ false
  -- a variable is bound by at most one frame of the sheet, reached or not
  pub once : (j k v : ℕ) → j < frames s → k < frames s → binds (kind s j) v ≡ true → binds (kind s k) v ≡ true → j ≡ k
  -- no variable that the sheet binds is free (open) in the last frame
  pub closed : (k v : ℕ) → k < frames s → binds (kind s k) v ≡ true → free (formula s (last s)) v ≡ false
