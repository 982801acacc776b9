-- The numbers of a record in either form, and how they are read back: all that is known of the layout of a table. Assumes nothing.
use Rattle.std.specs.Prelude.{ℕ, suc, ◌+◌, ◌*◌, ◌<◌, ◌≡◌, refl, List, ◌∷◌, length, get_or, take, drop}
use Rattle.std.proofs.Common.{arith, ap₂, drop-cons}
use Rattle.std.proofs.lemmas.List.Edits.{sets}
use Rattle.form.specs.Form.{room, record_numbers, record_start, word_end}
use Rattle.form.specs.declared.Form.{Form}
use Rattle.form.specs.declared.Form.TheVariants.{Narrow, Wide}
use Rattle.records.specs.Layout.{half, mask_of, numbers, record_at, values_of}

-- ---- the case splits

pub numbers-length : (F : Form) (f m v : ℕ) → length (numbers F f m v) ≡ record_numbers F
numbers-length Narrow f m v = refl
numbers-length Wide f m v = refl

pub some-numbers : (F : Form) → 0 < record_numbers F
some-numbers Narrow = omega arith
some-numbers Wide = omega arith

pub mask-same : (F : Form) (g h : ℕ → ℕ) → ((i : ℕ) → i < record_numbers F → g i ≡ h i) → mask_of F g ≡ mask_of F h
mask-same Narrow g h e = e 1 (omega arith)
mask-same Wide g h e = ap₂ (λ (x y : ℕ). x + y * half) (e 1 (omega arith)) (e 2 (omega arith))

pub values_same : (F : Form) (g h : ℕ → ℕ) → ((i : ℕ) → i < record_numbers F → g i ≡ h i) → values_of F g ≡ values_of F h
values_same Narrow g h e = e 2 (omega arith)
values_same Wide g h e = ap₂ (λ (x y : ℕ). x + y * half) (e 3 (omega arith)) (e 4 (omega arith))

pub frame_read : (F : Form) (f m v : ℕ) → get_or (numbers F f m v) 0 0 ≡ f
frame_read Narrow f m v = refl
frame_read Wide f m v = refl

pub mask_read : (F : Form) (f m v : ℕ) → m < word_end F → mask_of F (λ i. get_or (numbers F f m v) i 0) ≡ m
mask_read Narrow f m v h = omega arith
mask_read Wide f m v h = omega arith

pub values_read : (F : Form) (f m v : ℕ) → v < word_end F → values_of F (λ i. get_or (numbers F f m v) i 0) ≡ v
values_read Narrow f m v h = omega arith
values_read Wide f m v h = omega arith

-- the mask of a record of numbers of 32 bits is a word of its form
pub mask_word : (F : Form) (g : ℕ → ℕ) → ((i : ℕ) → g i < half) → mask_of F g < word_end F
mask_word Narrow g h = h 1
mask_word Wide g h = omega (arith, h 1, h 2)

-- ---- the part of a table that holds record j, from number j * 3 to number j * 3 + 3, or by five

pub part_record : (F : Form) (t : List ℕ) (j : ℕ) {n : ℕ} → j < room F (length t) → n ≡ record_numbers F → take n (drop (record_start F j) t) ≡ record_at F t j
part_record Narrow t j h e = ap₂ (λ (n : ℕ) (l : List ℕ). take n l) e whole
  where
    whole : drop (j * 3) t ≡ get_or t (j * 3) 0 ∷ get_or t (j * 3 + 1) 0 ∷ get_or t (j * 3 + 2) 0 ∷ drop (suc (j * 3 + 2)) t
    whole =
        let a : suc (j * 3) ≡ j * 3 + 1 = omega arith in
        let b : suc (j * 3 + 1) ≡ j * 3 + 2 = omega arith in
        rw (drop-cons t (j * 3) 0 (omega arith), a, drop-cons t (j * 3 + 1) 0 (omega arith), b, drop-cons t (j * 3 + 2) 0 (omega arith))
part_record Wide t j h e = ap₂ (λ (n : ℕ) (l : List ℕ). take n l) e whole
  where
    whole : drop (j * 5) t ≡ get_or t (j * 5) 0 ∷ get_or t (j * 5 + 1) 0 ∷ get_or t (j * 5 + 2) 0 ∷ get_or t (j * 5 + 3) 0 ∷ get_or t (j * 5 + 4) 0 ∷ drop (suc (j * 5 + 4)) t
    whole =
        let a : suc (j * 5) ≡ j * 5 + 1 = omega arith in
        let b : suc (j * 5 + 1) ≡ j * 5 + 2 = omega arith in
        let c : suc (j * 5 + 2) ≡ j * 5 + 3 = omega arith in
        let d : suc (j * 5 + 3) ≡ j * 5 + 4 = omega arith in
        rw (
          drop-cons t (j * 5) 0 (omega arith),
          a,
          drop-cons t (j * 5 + 1) 0 (omega arith),
          b,
          drop-cons t (j * 5 + 2) 0 (omega arith),
          c,
          drop-cons t (j * 5 + 3) 0 (omega arith),
          d,
          drop-cons t (j * 5 + 4) 0 (omega arith),
        )
