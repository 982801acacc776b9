-- What the two arrays of a question give: the clauses from their codes, and the quantifiers from the words of the blocks. Assumes nothing.
use Rattle.std.specs.Prelude.{ℕ, List, [], ◌∷◌, ◌≡◌}
use Rattle.words.specs.Word.{bit}
use Rattle.prenex.specs.Question.{Block, member}

-- ---- the words of the blocks

-- word by word: the bits of a word are the atoms of its block
pub data Words : List ℕ → List Block → Type 0 where
  words_none : Words [] []
  words_one : {m : ℕ} {b : Block} {ms : List ℕ} {bs : List Block} → ((x : ℕ) → bit m x ≡ member b.atoms x) → Words ms bs → Words (m ∷ ms) (b ∷ bs)
