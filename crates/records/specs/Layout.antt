-- The numbers of a record in either form, and how they are read back: all that is known of the layout of a table. Assumes nothing.
use Rattle.std.specs.Prelude.{ℕ, ◌+◌, ◌*◌, ◌/◌, ◌%◌, ◌≡◌, List, [], ◌∷◌, get_or}
use Rattle.std.proofs.lemmas.List.Edits.{sets}
use Rattle.form.specs.Form.{record_start}
use Rattle.form.specs.declared.Form.{Form}
use Rattle.form.specs.declared.Form.TheVariants.{Narrow, Wide}

-- a half of a word is a number below
abbrev pub half : ℕ
half = 4294967296

-- the numbers of a record: a wide one has each word as low then high half
abbrev pub numbers : Form → ℕ → ℕ → ℕ → List ℕ
numbers Narrow frame mask values = frame ∷ mask % half ∷ values % half ∷ []
numbers Wide frame mask values = frame ∷ mask % half ∷ mask / half ∷ values % half ∷ values / half ∷ []

-- a table with record j written
abbrev pub stored : Form → List ℕ → ℕ → ℕ → ℕ → ℕ → List ℕ
stored F t j frame mask values = sets t (record_start F j) (numbers F frame mask values)

-- mask and values of a record whose number i is g i
abbrev pub mask_of : Form → (ℕ → ℕ) → ℕ
mask_of Narrow g = g 1
mask_of Wide g = g 1 + g 2 * half

abbrev pub values_of : Form → (ℕ → ℕ) → ℕ
values_of Narrow g = g 2
values_of Wide g = g 3 + g 4 * half

-- ---- record j of the table t

-- its number i
abbrev pub number_at : Form → List ℕ → ℕ → ℕ → ℕ
number_at F t j i = get_or t (record_start F j + i) 0

abbrev pub frame_at : Form → List ℕ → ℕ → ℕ
frame_at F t j = get_or t (record_start F j) 0

abbrev pub mask_at : Form → List ℕ → ℕ → ℕ
mask_at F t j = mask_of F (number_at F t j)

abbrev pub values_at : Form → List ℕ → ℕ → ℕ
values_at F t j = values_of F (number_at F t j)

pub record Reads (F : Form) (t : List ℕ) (j frame mask values : ℕ) : Type 0 where
  pub frame_is : frame_at F t j ≡ frame
  pub mask_is : mask_at F t j ≡ mask
  pub values_are : values_at F t j ≡ values

-- all its numbers
abbrev pub record_at : Form → List ℕ → ℕ → List ℕ
record_at Narrow t j = frame_at Narrow t j ∷ mask_at Narrow t j ∷ values_at Narrow t j ∷ []
record_at Wide t j = frame_at Wide t j ∷ number_at Wide t j 1 ∷ number_at Wide t j 2 ∷ number_at Wide t j 3 ∷ number_at Wide t j 4 ∷ []
