-- Fields at places of a text: the laws of comments, blanks, words and numbers that the code goes by. Assumes nothing.
use Rattle.std.specs.Prelude.{ℕ, ◌≤◌, ◌≡◌}
use mathlib.Core.List.{List}
use Rattle.std.proofs.Math.ListN.{length, drop}
use Rattle.std.proofs.Math.Seq.{slice}
use Rattle.dimacs.specs.Token.{word}

-- ---- words

-- where the word at `at` ends, the word at `from` does
abbrev pub SameEnd : List ℕ → ℕ → ℕ → Type 0
SameEnd text from at = (end : ℕ) → at ≤ end → end ≤ length text → slice at end text ≡ word (drop at text) → slice from end text ≡ word (drop from text)
