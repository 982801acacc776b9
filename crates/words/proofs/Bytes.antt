-- A number as bytes. Assumes nothing.
use Rattle.std.specs.Prelude.{ℕ, ◌/◌, ◌%◌, ◌^◌, ◌≡◌, List, [], ◌∷◌}
use Rattle.std.proofs.Common.{arith, ap}
use Rattle.words.specs.Bytes.{bytes_of}

-- a word's four
pub four_bytes : (w : ℕ) → bytes_of 4 w ≡ w / 2 ^ 24 % 256 ∷ w / 2 ^ 16 % 256 ∷ w / 2 ^ 8 % 256 ∷ w % 256 ∷ []
unfolding bytes_of
four_bytes w =
    let one : w / 2 ^ 0 ≡ w = omega arith in
    ap (λ (x : ℕ). w / 2 ^ 24 % 256 ∷ w / 2 ^ 16 % 256 ∷ w / 2 ^ 8 % 256 ∷ x % 256 ∷ []) one

-- and eight
pub eight_bytes : (w : ℕ) → bytes_of 8 w
    ≡ w / 2 ^ 56 % 256 ∷ w / 2 ^ 48 % 256 ∷ w / 2 ^ 40 % 256 ∷ w / 2 ^ 32 % 256 ∷ w / 2 ^ 24 % 256 ∷ w / 2 ^ 16 % 256 ∷ w / 2 ^ 8 % 256 ∷ w % 256 ∷ []
unfolding bytes_of
eight_bytes w =
    ap (λ (l : List ℕ). w / 2 ^ 56 % 256 ∷ w / 2 ^ 48 % 256 ∷ w / 2 ^ 40 % 256 ∷ w / 2 ^ 32 % 256 ∷ l) (four_bytes w)
