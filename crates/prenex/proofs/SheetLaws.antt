-- The bytes of a list of kinds are a sheet of these kinds; and what it is that kinds stand in a sheet from some frame on. Assumes nothing.
use Rattle.std.specs.Prelude.{ℕ, zero, suc, ◌+◌, ◌*◌, ◌<◌, ◌≡◌, refl, List, [], ◌∷◌, ◌++◌, length, get_or, ltb}
use Rattle.std.proofs.Common.{arith, sym, ap, ◌∙◌, append_assoc, length-append, get_or-append-add}
use Rattle.std.proofs.Math.ListN.{get_or-append, get_or-eq_default}
use Rattle.words.specs.Logic.{tests}
use Rattle.words.proofs.Logic.{by_bool}
use Rattle.form.specs.declared.Form.TheVariants.{Narrow}
use Rattle.sheet.specs.Fields.{narrow, frames, laid, fields_at, kind_of, kind}
use Rattle.sheet.proofs.FieldsLaws.{fields-at}
use Rattle.sheet.proofs.Frames.{kind-past}
use Rattle.sheet.specs.declared.Kind.{Kind}
use Rattle.sheet.specs.declared.Kind.TheVariants.{Never, Input, Not, And, Or, Exists, Forall, Gauge}
use Rattle.prenex.specs.Kinds.{frame_bytes, sheet_bytes}
use Rattle.prenex.specs.SheetLaws.{Has, fields_of}

-- ---- the bytes

pub frame-length : (d : Kind) → length (frame_bytes d) ≡ 4
unfolding frame_bytes
frame-length Never = refl
frame-length (Input x) = refl
frame-length (Not a) = refl
frame-length (And a b) = refl
frame-length (Or a b) = refl
frame-length (Exists a b c) = refl
frame-length (Forall a b c) = refl
frame-length (Gauge x) = refl

pub sheet-length : (ks : List Kind) → length (sheet_bytes ks) ≡ length ks * 4
unfolding sheet_bytes
sheet-length [] = refl
sheet-length (d ∷ ks) = length-append (frame_bytes d) (sheet_bytes ks) ∙ omega (arith, frame-length d, sheet-length ks)

pub sheet-frames : (ks : List Kind) → frames (narrow (sheet_bytes ks)) ≡ length ks
sheet-frames ks = omega (arith, sheet-length ks)

pub sheet_append : (xs ys : List Kind) → sheet_bytes (xs ++ ys) ≡ sheet_bytes xs ++ sheet_bytes ys
unfolding sheet_bytes
sheet_append [] ys = refl
sheet_append (d ∷ xs) ys = ap (λ (l : List ℕ). frame_bytes d ++ l) (sheet_append xs ys) ∙ sym (append_assoc (frame_bytes d) (sheet_bytes xs) (sheet_bytes ys))

behind : (d : Kind) (s : List ℕ) (i j : ℕ) → j ≡ 4 + i → get_or (frame_bytes d ++ s) j 0 ≡ get_or s i 0
behind d s i j e = rw (e, ← (frame-length d)) (get_or-append-add (frame_bytes d) s i 0)

first-laid : (d : Kind) (s : List ℕ) → laid Narrow (frame_bytes d ++ s) 0 ≡ fields_of d
unfolding frame_bytes
first-laid Never s = refl
first-laid (Input x) s = refl
first-laid (Not a) s = refl
first-laid (And a b) s = refl
first-laid (Or a b) s = refl
first-laid (Exists a b c) s = refl
first-laid (Forall a b c) s = refl
first-laid (Gauge x) s = refl

laid-at : (ks : List Kind) (k : ℕ) → k < length ks → laid Narrow (sheet_bytes ks) k ≡ fields_of (get_or ks k Never)
unfolding sheet_bytes
laid-at [] k h = absurd (omega arith)
laid-at (d ∷ ks) zero h = first-laid d (sheet_bytes ks)
laid-at (d ∷ ks) (suc k) h =
    rw (
      behind d (sheet_bytes ks) (k * 4) (suc k * 4) (omega arith),
      behind d (sheet_bytes ks) (k * 4 + 1) (suc k * 4 + 1) (omega arith),
      behind d (sheet_bytes ks) (k * 4 + 2) (suc k * 4 + 2) (omega arith),
      behind d (sheet_bytes ks) (k * 4 + 3) (suc k * 4 + 3) (omega arith),
    )
    (laid-at ks k (omega arith))

pub sheet-fields : (ks : List Kind) (k : ℕ) → k < length ks → fields_at (narrow (sheet_bytes ks)) k ≡ fields_of (get_or ks k Never)
sheet-fields ks k h = fields-at (narrow (sheet_bytes ks)) k (omega (arith, sheet-frames ks)) ∙ laid-at ks k h

fields-kind : (d : Kind) → kind_of (fields_of d) ≡ d
unfolding frame_bytes kind_of
fields-kind Never = refl
fields-kind (Input x) = refl
fields-kind (Not a) = refl
fields-kind (And a b) = refl
fields-kind (Or a b) = refl
fields-kind (Exists a b c) = refl
fields-kind (Forall a b c) = refl
fields-kind (Gauge x) = refl

pub sheet-kind : (ks : List Kind) (k : ℕ) → kind (narrow (sheet_bytes ks)) k ≡ get_or ks k Never
sheet-kind ks k =
    by_bool (ltb k (length ks))
    (λ e. ap kind_of (sheet-fields ks k (omega tests)) ∙ fields-kind (get_or ks k Never))
    (λ e. kind-past (narrow (sheet_bytes ks)) k (omega (tests, sheet-frames ks)) ∙ sym (get_or-eq_default ks Never (omega tests)))

pub has_left : {κ : ℕ → Kind} {n : ℕ} (xs ys : List Kind) → Has κ n (xs ++ ys) → Has κ n xs
has_left xs ys h = record { at = λ i e. h.at i (omega (arith, length-append xs ys)) ∙ get_or-append xs ys Never i e }

pub has_right : {κ : ℕ → Kind} {n : ℕ} (xs ys : List Kind) → Has κ n (xs ++ ys) → Has κ (n + length xs) ys
has_right {κ} {n} xs ys h = record {
  at = λ i e.
      ap κ (omega arith)
      ∙ h.at (length xs + i) (omega (arith, length-append xs ys))
      ∙ get_or-append-add xs ys i Never;
}

pub has_head : {κ : ℕ → Kind} {n : ℕ} {d : Kind} {ks : List Kind} → Has κ n (d ∷ ks) → κ n ≡ d
has_head {κ} h = ap κ (omega arith) ∙ h.at 0 (omega arith)

pub has_tail : {κ : ℕ → Kind} {n : ℕ} {d : Kind} {ks : List Kind} → Has κ n (d ∷ ks) → Has κ (suc n) ks
has_tail {κ} h = record { at = λ i e. ap κ (omega arith) ∙ h.at (suc i) (omega arith) }

pub sheet_has : (ks : List Kind) → Has (kind (narrow (sheet_bytes ks))) 0 ks
sheet_has ks = record { at = λ i e. ap (kind (narrow (sheet_bytes ks))) (omega arith) ∙ sheet-kind ks i }
