-- An answer's bytes written into a buffer. Assumes nothing.
use Rattle.std.specs.Prelude.{ℕ, ◌+◌, ◌*◌, ◌/◌, ◌%◌, ◌^◌, ◌≤◌, ◌<◌, ◌≡◌, refl, take, drop}
use Rattle.std.proofs.Common.{arith, sym, ◌∙◌, take_at, drop_at, drop-drop}
use Rattle.std.proofs.Math.Path.{ap}
use mathlib.Core.List.{List, [], ◌∷◌, ◌++◌, append_assoc}
use Rattle.std.proofs.Math.ListN.{length}
use Rattle.std.proofs.Math.Seq.{sets}
use Rattle.std.proofs.lemmas.List.Edits.{sets-eq}
use Rattle.words.specs.Bytes.{bytes_of}
use Rattle.words.proofs.Stores.{sets_append}
use Rattle.form.specs.Form.{answers_in, answer_start}
use Rattle.form.specs.declared.Form.TheVariants.{Narrow, Wide}
use Rattle.model.specs.Model.{Answer, answer_bytes}
use Rattle.model.proofs.Script.{length-answer_bytes}
use Rattle.certificate.specs.Written.{written}

-- stores in a row
pub sets-written : (bs l : List ℕ) (at : ℕ) → at + length bs ≤ length l → sets l at bs ≡ written l at bs
sets-written bs l at h = sets-eq bs l at h ∙ append_assoc (take at l) bs (drop (at + length bs) l)

-- ---- an answer's bytes, as the code stores them

-- the eight bytes of a word are the four of its high half and its four lowest
halves : (w : ℕ) → bytes_of 4 (w / 2 ^ 32) ++ bytes_of 4 w ≡ bytes_of 8 w
unfolding bytes_of
halves w =
    let e₇ : w / 2 ^ 32 / 2 ^ 24 % 256 ≡ w / 2 ^ 56 % 256 = omega arith in
    let e₆ : w / 2 ^ 32 / 2 ^ 16 % 256 ≡ w / 2 ^ 48 % 256 = omega arith in
    let e₅ : w / 2 ^ 32 / 2 ^ 8 % 256 ≡ w / 2 ^ 40 % 256 = omega arith in
    let e₄ : w / 2 ^ 32 / 2 ^ 0 % 256 ≡ w / 2 ^ 32 % 256 = omega arith in
    rw (e₇, e₆, e₅, e₄)

length_four : (w : ℕ) → length (bytes_of 4 w) ≡ 4
unfolding bytes_of
length_four w = refl

module _ (a : Answer) (l : List ℕ) (i : ℕ) {l₁ l₂ : List ℕ} where
  pub narrow-written : i < answers_in Narrow (length l) → l₁ ≡ sets l (i * 6) (a.number ∷ a.v ∷ []) → l₂ ≡ sets l₁ (i * 6 + 2) (bytes_of 4 a.word)
      → l₂ ≡ written l (answer_start Narrow i) (answer_bytes Narrow a)
  unfolding answer_bytes
  narrow-written h e g =
      g ∙ rw e (sym (sets_append (a.number ∷ a.v ∷ []) (bytes_of 4 a.word) l (i * 6)))
      ∙ sets-written (answer_bytes Narrow a) l (i * 6) (omega (arith, h, length_four a.word))

  pub wide-written : {l₃ : List ℕ} {high : ℕ} → i < answers_in Wide (length l) → high ≡ a.word / 2 ^ 32 → l₁ ≡ sets l (i * 10) (a.number ∷ a.v ∷ [])
      → l₂ ≡ sets l₁ (i * 10 + 2) (bytes_of 4 high) → l₃ ≡ sets l₂ (i * 10 + 6) (bytes_of 4 a.word) → l₃ ≡ written l (answer_start Wide i) (answer_bytes Wide a)
  unfolding answer_bytes
  wide-written {l₃} h t e g k =
      let hs = bytes_of 4 (a.word / 2 ^ 32) in
      let n = length_four (a.word / 2 ^ 32) in
      let p : l₂ ≡ sets l (i * 10) (a.number ∷ a.v ∷ hs) = g ∙ rw (e, t) (sym (sets_append (a.number ∷ a.v ∷ []) hs l (i * 10))) in
      let six : i * 10 + 6 ≡ i * 10 + length (a.number ∷ a.v ∷ hs) = omega (arith, n) in
      let s : l₃ ≡ sets l (i * 10) ((a.number ∷ a.v ∷ hs) ++ bytes_of 4 a.word) = k ∙ rw (p, six) (sym (sets_append (a.number ∷ a.v ∷ hs) (bytes_of 4 a.word) l (i * 10))) in
      let b : (a.number ∷ a.v ∷ hs) ++ bytes_of 4 a.word ≡ answer_bytes Wide a = ap (λ (r : List ℕ). a.number ∷ a.v ∷ r) (halves a.word) in
      s ∙ ap (sets l (i * 10)) b ∙ sets-written (answer_bytes Wide a) l (i * 10) (omega (arith, h, length-answer_bytes Wide a))

-- what was written before, and then bs, with what was there behind
pub written_next : (p bs l : List ℕ) (at : ℕ) → length p ≡ at → written (p ++ drop at l) at bs ≡ (p ++ bs) ++ drop (at + length bs) l
written_next p bs l at e =
    rw (take_at p (drop at l) at e, ← drop-drop (length bs) at (p ++ drop at l), drop_at p (drop at l) at e, drop-drop (length bs) at l)
    (sym (append_assoc p bs (drop (at + length bs) l)))
