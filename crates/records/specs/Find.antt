-- What the record finder hands back: which record of which table, the numbers of that part, and its place. Assumes nothing.
use Rattle.std.specs.Prelude.{◌≡◌, Option, None, Some, Bool, cond, ◌&&◌, ◌||◌, ◌⊎◌, List, [], ℕ, ◌+◌, ◌*◌, ◌<◌, ◌≤◌, length, eqb, ltb}
use Rattle.std.specs.Borrow.{Bor}
use Rattle.words.specs.Mask.{agree}
use Rattle.formula.specs.Least.{least}
use Rattle.form.specs.Form.{room, record_start}
use Rattle.form.specs.declared.Form.{Form}
use Rattle.records.specs.declared.Hit.{Hit}
use Rattle.records.specs.declared.Hit.TheVariants.{Under, Over}
use Rattle.records.specs.Layout.{record_at}
use Rattle.records.specs.Table.{frame_at, mask_at, values_at}
use Rattle.records.specs.Search.{FirstBelow, NoneBelow}

-- record j is one of that frame and agrees with the setting
unfoldable pub agrees_at : Form → List ℕ → ℕ → ℕ → ℕ → Bool
agrees_at F t frame setting j = eqb (frame_at F t j) frame && agree (mask_at F t j) (values_at F t j) setting

-- the first of the counted records that agrees, or the count
abbrev pub first_at : Form → List ℕ → ℕ → ℕ → ℕ → ℕ
first_at F t count frame setting = least (agrees_at F t frame setting) 0 count

-- u is the under table with m records, o the over table with n: u is searched first, and nothing is found if a count exceeds its table's room
unfoldable pub hit : Form → List ℕ → ℕ → List ℕ → ℕ → ℕ → ℕ → Option Hit
hit F u m o n frame setting =
    cond (ltb (room F (length u)) m || ltb (room F (length o)) n) None
    (cond (ltb (first_at F u m frame setting) m) (Some (Under (first_at F u m frame setting)))
    (cond (ltb (first_at F o n frame setting) n) (Some (Over (first_at F o n frame setting))) None))

-- the numbers of the part: a record's three or five, or none
unfoldable pub part_of : Form → List ℕ → List ℕ → Option Hit → List ℕ
part_of F u o (Some (Under j)) = record_at F u j
part_of F u o (Some (Over j)) = record_at F o j
part_of F u o None = []

-- the place of record j, from its table's: a block of memory and an offset in it in bytes, of which a number takes 4, and so a record 12 or 20
abbrev pub record_place : Form → ℕ × ℕ → ℕ → ℕ × ℕ
record_place F t j = (t.0, t.1 + record_start F j * 4)

-- the part's, from the places of the tables
unfoldable pub place_of : Form → ℕ × ℕ → ℕ × ℕ → Option Hit → ℕ × ℕ
place_of F u o (Some (Under j)) = record_place F u j
place_of F u o (Some (Over j)) = record_place F o j
place_of F u o None = u

-- r is the part of the under table u or of the over table o that the hit h names
pub record Part (F : Form) (u o r : Bor (List ℕ)) (h : Option Hit) : Type 0 where
  pub numbers : r.now ≡ part_of F u.now o.now h
  pub place : r.ref_ptr ≡ place_of F u.ref_ptr o.ref_ptr h

-- r is the part of t that holds record j
pub record Holding (F : Form) (t r : Bor (List ℕ)) (j : ℕ) : Type 0 where
  pub numbers : r.now ≡ record_at F t.now j
  pub place : r.ref_ptr ≡ record_place F t.ref_ptr j

-- r is the empty part at t's start
pub record Empty (t r : Bor (List ℕ)) : Type 0 where
  pub numbers : r.now ≡ []
  pub place : r.ref_ptr ≡ t.ref_ptr

-- ---- the finder in words: what each outcome says of the two tables

abbrev pub Says : Form → List ℕ → ℕ → List ℕ → ℕ → ℕ → ℕ → Option Hit → Type 0
Says F u m o n frame setting (Some (Under j)) = (m ≤ room F (length u)) × (n ≤ room F (length o)) × FirstBelow (agrees_at F u frame setting) m j
Says F u m o n frame setting (Some (Over j)) =
    (m ≤ room F (length u)) × (n ≤ room F (length o)) × NoneBelow (agrees_at F u frame setting) m × FirstBelow (agrees_at F o frame setting) n j
Says F u m o n frame setting None =
    (room F (length u) < m) ⊎ ((room F (length o) < n) ⊎ (NoneBelow (agrees_at F u frame setting) m × NoneBelow (agrees_at F o frame setting) n))
