-- An answer's bytes as the code writes them. Assumes nothing.
use Rattle.std.specs.Prelude.{ℕ, ◌+◌, ◌≤◌, ◌≡◌, refl, List, [], ◌∷◌, ◌++◌, length, set, take, drop}
use Rattle.std.proofs.Common.{arith, sym, ap, ◌∙◌, length-set}
use Rattle.std.proofs.lemmas.List.Edits.{sets, sets-eq}
use Rattle.std.proofs.lemmas.Slice.{put_mid-paste}
use borrow.Rule.Slice.PartMut.{put_mid}
use Rattle.std.proofs.Math.Seq.{take-length}
use Rattle.words.proofs.Stores.{sets_append, two_sets}
use Rattle.certificate.specs.Written.{written}
use Rattle.certificate.proofs.Written.{sets-written}

-- two bytes stored, and a list copied behind them
pub parts-written : (l : List ℕ) (at number v k : ℕ) {bytes new : List ℕ} → new ≡ bytes → k ≡ length bytes → at + 2 + length bytes ≤ length l
    → put_mid (at + 2) k (set (set l at number) (at + 1) v) new ≡ written l at (number ∷ v ∷ bytes)
parts-written l at number v k {bytes} {new} e n h =
    let xs = set (set l at number) (at + 1) v in
    let room : at + 2 + length bytes ≤ length xs = simp length-set h in
    put_mid-paste (at + 2) k xs new bytes (length bytes) e (sym n) refl
    ∙ ap (λ (b : List ℕ). take (at + 2) xs ++ b ++ drop (at + 2 + length bytes) xs) (take-length bytes)
    ∙ sym (sets-eq bytes xs (at + 2) room)
    ∙ ap (λ (y : List ℕ). sets y (at + 2) bytes) (two_sets l at number v)
    ∙ sym (sets_append (number ∷ v ∷ []) bytes l at)
    ∙ sets-written (number ∷ v ∷ bytes) l at (omega arith)
