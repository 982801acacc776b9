-- The frames of the matrix, one part after the other: inputs, negations, clauses, their conjunction. Assumes nothing.
use Rattle.std.specs.Prelude.{ℕ, List, ◌≡◌, length}
use Rattle.std.proofs.lemmas.List.Edits.{sets}
use Rattle.sheet.specs.declared.Kind.{Kind}
use Rattle.prenex.specs.Kinds.{sheet_bytes}

-- ---- what is written

-- the n frames ks, from the start of out₀ on
pub record Written (out₀ : List ℕ) (ks : List Kind) (n : ℕ) (out : List ℕ) : Type 0 where
  pub frames : n ≡ length ks
  pub bytes : out ≡ sets out₀ 0 (sheet_bytes ks)
