-- What the finder's code does, by the finder's definitions: searches with every variable assigned, and the machine's parts. Assumes nothing.
use Rattle.std.specs.Prelude.{◌≡◌, Some, true, List, ℕ, ◌+◌, ◌-◌, ◌*◌, ◌^◌, ◌<◌, get_or}
use Rattle.std.proofs.Common.{◌∙◌, ap, mod-eq_of_lt, lt_of_lt_of_le, arith}
use Rattle.std.proofs.lemmas.Nat.{and_mask}
use Rattle.std.specs.Borrow.{Bor}
use Rattle.words.specs.Mask.{inside}
use Rattle.words.proofs.Mask.{sub-inside}
use Rattle.form.specs.Form.{record_start}
use Rattle.form.proofs.FormLaws.{end-most}
use Rattle.form.specs.declared.Form.{Form}
use Rattle.records.specs.declared.Hit.TheVariants.{Under, Over}
use Rattle.records.specs.Layout.{half, number_at}
use Rattle.records.proofs.LayoutLaws.{mask_word}
use Rattle.records.specs.Table.{mask_at, matches}
use Rattle.records.specs.Search.{FirstBelow, NoneBelow}
use Rattle.records.proofs.SearchLaws.{first-same, none-same}
use Rattle.records.specs.Find.{agrees_at, first_at, part_of, place_of, Holding, Part}
use Rattle.records.proofs.FindLaws.{first-least, none-least}

-- ---- a search with every variable assigned

-- a mask of n variables lies in the mask of all
pub inside-all : (n mask : ℕ) → mask < 2 ^ n → inside mask (2 ^ n - 1) ≡ true
inside-all n mask h = sub-inside (record { inside = and_mask mask n ∙ mod-eq_of_lt h })

-- in a table of numbers of 32 bits, in either form
module _ (F : Form) (t : List ℕ) (count frame setting : ℕ) (small : (i : ℕ) → get_or t i 0 < half) where
  mask-most : (j : ℕ) → mask_at F t j < 2 ^ 64
  mask-most j = lt_of_lt_of_le (mask_word F (number_at F t j) (λ i. small (record_start F j + i))) (end-most F)

  pub matches-agrees : (j : ℕ) → matches F t frame (2 ^ 64 - 1) setting j ≡ agrees_at F t frame setting j
  unfolding matches agrees_at
  matches-agrees j = rw (inside-all 64 (mask_at F t j) (mask-most j))

  pub first-is : {j : ℕ} → FirstBelow (matches F t frame (2 ^ 64 - 1) setting) count j → first_at F t count frame setting ≡ j
  first-is f = first-least (first-same (agrees_at F t frame setting) matches-agrees f)

  pub first-none : NoneBelow (matches F t frame (2 ^ 64 - 1) setting) count → first_at F t count frame setting ≡ count
  first-none f =
      none-least (agrees_at F t frame setting) count
      (none-same (matches F t frame (2 ^ 64 - 1) setting) (agrees_at F t frame setting) count matches-agrees f)

-- ---- the parts that the code hands back

-- their places, as the machine has them
pub part-place : (p : ℕ × ℕ) (i : ℕ) → ◌≡◌ {A = ℕ × ℕ} (p.0, i * 4 + p.1) (p.0, p.1 + i * 4)
part-place p i = ap (λ (z : ℕ). (p.0, z)) (omega arith)

pub start-place : (p : ℕ × ℕ) → ◌≡◌ {A = ℕ × ℕ} (p.0, 0 * 4 + p.1) p
start-place p = ap (λ (z : ℕ). (p.0, z)) (omega arith)

-- a part that holds a record is the one that a hit of that record names
module _ {F : Form} {u o r : Bor (List ℕ)} {j : ℕ} where
  pub part_under : Holding F u r j → Part F u o r (Some (Under j))
  unfolding part_of place_of
  part_under h = record { numbers = h.numbers; place = h.place }

  pub part-over : Holding F o r j → Part F u o r (Some (Over j))
  unfolding part_of place_of
  part-over h = record { numbers = h.numbers; place = h.place }
