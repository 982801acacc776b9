-- Literals, step by step: codes, the variables that occur, and the frames of those with a property. Assumes nothing.
use Rattle.std.specs.Prelude.{ℕ, ◌||◌, List, ◌≡◌}
use Rattle.std.proofs.Math.ListN.{drop}
use Rattle.words.specs.Word.{bit}
use Rattle.prenex.specs.declared.literal.Occurring.{Occurring}
use Rattle.prenex.specs.Question.{occurs, negated}
use Rattle.prenex.specs.Code.{clauses_of}

-- the words have, with the codes that are left, what all codes have
pub record Found (codes : List ℕ) (i : ℕ) (found : Occurring) : Type 0 where
  pub all_found : (x : ℕ) → occurs (clauses_of codes) x ≡ bit found.all x || occurs (clauses_of (drop i codes)) x
  pub negated-found : (x : ℕ) → negated (clauses_of codes) x ≡ bit found.negated x || negated (clauses_of (drop i codes)) x
