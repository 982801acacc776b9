-- Stores of frames: one frame after the other, and past the end of a buffer. Assumes nothing.
use Rattle.std.specs.Prelude.{ℕ, suc, ◌+◌, ◌*◌, ◌≤◌, List, [], ◌∷◌, ◌++◌, ◌≡◌, refl, length}
use Rattle.std.proofs.Common.{arith, append-nil, ap, ◌∙◌}
use Rattle.std.proofs.lemmas.List.Edits.{sets}
use Rattle.std.proofs.Math.Seq.{set_out}
use Rattle.words.proofs.Stores.{sets_append}
use Rattle.sheet.specs.declared.Kind.{Kind}
use Rattle.prenex.specs.Kinds.{frame_bytes, sheet_bytes}
use Rattle.prenex.proofs.SheetLaws.{sheet-length, sheet_append}

-- past the end nothing changes
pub sets_out : (vs l : List ℕ) (i : ℕ) → length l ≤ i → sets l i vs ≡ l
sets_out [] l i h = refl
sets_out (a ∷ vs) l i h = ap (λ (r : List ℕ). sets r (suc i) vs) (set_out l i a h) ∙ sets_out vs l (suc i) (omega arith)

-- ---- the bytes of frames

pub sheet-none : sheet_bytes [] ≡ []
unfolding sheet_bytes
sheet-none = refl

pub sheet-one : (k : Kind) → sheet_bytes (k ∷ []) ≡ frame_bytes k
unfolding sheet_bytes
sheet-one k = append-nil (frame_bytes k)

-- ---- stores of frames from frame n on

pub store_append : (ks js : List Kind) (out : List ℕ) (n : ℕ)
    → sets out (n * 4) (sheet_bytes (ks ++ js)) ≡ sets (sets out (n * 4) (sheet_bytes ks)) ((n + length ks) * 4) (sheet_bytes js)
store_append ks js out n =
    let e : n * 4 + length (sheet_bytes ks) ≡ (n + length ks) * 4 = omega (arith, sheet-length ks) in
    rw sheet_append (sets_append (sheet_bytes ks) (sheet_bytes js) out (n * 4) ∙ rw e)

pub store_frame : (k : Kind) (ks : List Kind) (out : List ℕ) (n : ℕ)
    → sets out (n * 4) (sheet_bytes (k ∷ ks)) ≡ sets (sets out (n * 4) (frame_bytes k)) ((n + 1) * 4) (sheet_bytes ks)
store_frame k ks out n = store_append (k ∷ []) ks out n ∙ rw sheet-one
