-- What it means that no cause holds: of a frame, and of the frames below one. Assumes nothing.
use Prim.Native.Nat.{ℕ}
use Rattle.std.specs.Prelude.{◌≡◌, ltb}
use Rattle.std.proofs.Math.Bool.{false}
use Rattle.sheet.specs.Fields.{Sheet, fields_at, kind_of, kind}
use Rattle.sheet.specs.Rules.{used, spare_set, names, some_late, bad_variables, binds, Past, past_of, meet, named_both, binds_gauge}
use Rattle.form.specs.declared.Form.{Form}
use Rattle.sheet.specs.declared.Fields.{Fields}

-- a frame at which no cause holds
pub record Clean (F : Form) (f : Fields) (k : ℕ) (p : Past) : Type 0 where
  pub known : ltb 7 f.k ≡ false
  pub spare : spare_set (used (kind_of f)) f.a f.b f.c ≡ false
  pub earlier : some_late k (names (kind_of f)) ≡ false
  pub variable : bad_variables F (kind_of f) ≡ false
  pub unmixed : named_both F (kind_of f) p ≡ false
  pub unbound : binds_gauge F (kind_of f) p ≡ false
  pub once : meet F (binds (kind_of f)) p.bound ≡ false

abbrev pub CleanAt : Sheet → ℕ → Type 0
CleanAt s k = Clean s.form (fields_at s k) k (past_of (kind s) k)
