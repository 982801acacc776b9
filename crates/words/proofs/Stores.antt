-- Runs of stores: one after the other, what is read at them and beside them, and as what is left of a buffer behind them. Assumes nothing.
use Rattle.std.specs.Prelude.{ℕ, zero, suc, ◌+◌, ◌≤◌, ◌<◌, List, [], ◌∷◌, ◌++◌, ◌≡◌, refl, length, get_or, set, take, drop}
use Rattle.std.proofs.Common.{append_assoc, add-zero, zero-add, add-suc, suc-add, add-one, arith, sym, ap, ◌∙◌, length-set, drop-cons, get_or-set_other, get_or-set_same}
use Rattle.std.proofs.lemmas.List.{drop-drop}
use Rattle.std.proofs.lemmas.List.Edits.{sets, sets-eq}
use borrow.Rule.Slice.PartMut.{put_mid}

pub sets_append : (vs ws l : List ℕ) (i : ℕ) → sets l i (vs ++ ws) ≡ sets (sets l i vs) (i + length vs) ws
sets_append [] ws l i = rw add-zero
sets_append (a ∷ vs) ws l i =
    sets_append vs ws (set l i a) (suc i)
    ∙ ap (λ (k : ℕ). sets (sets (set l i a) (suc i) vs) k ws) (suc-add i (length vs) ∙ sym (add-suc i (length vs)))

-- one more element of a list that is copied
pub sets-next : (vs l : List ℕ) (i to : ℕ) → i < length vs → sets l to (drop i vs) ≡ sets (set l to (get_or vs i 0)) (to + 1) (drop (i + 1) vs)
sets-next vs l i to h = rw (add-one to, add-one i, drop-cons vs i 0 h)

-- a buffer behind what is stored from its start
pub sets-start : (vs l : List ℕ) → length vs ≤ length l → sets l 0 vs ≡ vs ++ drop (length vs) l
sets-start vs l h = sets-eq vs l 0 (rw zero-add h) ∙ rw zero-add

-- a part of a buffer written over by a list of its length
pub stored : (at : ℕ) (out vs : List ℕ) {new : List ℕ} {k : ℕ} → new ≡ vs → k ≡ length vs → at + length vs ≤ length out → put_mid at k out new ≡ sets out at vs
stored at out vs e n h = rw (e, n, drop-drop) (sym (sets-eq vs out at h ∙ append_assoc (take at out) vs (drop (at + length vs) out)))

-- beside them
pub sets-before : (vs l : List ℕ) (at k : ℕ) → k < at → get_or (sets l at vs) k 0 ≡ get_or l k 0
sets-before [] l at k h = refl
sets-before (v ∷ vs) l at k h = sets-before vs (set l at v) (suc at) k (omega arith) ∙ get_or-set_other l at k v 0 (λ e. omega arith)

pub sets_behind : (vs l : List ℕ) (at k : ℕ) → at + length vs ≤ k → get_or (sets l at vs) k 0 ≡ get_or l k 0
sets_behind [] l at k h = refl
sets_behind (v ∷ vs) l at k h = sets_behind vs (set l at v) (suc at) k (omega arith) ∙ get_or-set_other l at k v 0 (λ e. omega arith)

-- at them
pub sets-at : (vs l : List ℕ) (at i : ℕ) → at + length vs ≤ length l → i < length vs → get_or (sets l at vs) (at + i) 0 ≡ get_or vs i 0
sets-at [] l at i h b = absurd (omega arith)
sets-at (v ∷ vs) l at zero h b =
    let e : at + zero ≡ at = omega arith in
    rw e (sets-before vs (set l at v) (suc at) at (omega arith) ∙ get_or-set_same l at v 0 (omega arith))
sets-at (v ∷ vs) l at (suc i) h b =
    let e : at + suc i ≡ suc at + i = omega arith in
    rw e (sets-at vs (set l at v) (suc at) i (simp length-set (omega arith)) (omega arith))

-- ---- as code stores them, one place after the other

pub two_sets : (l : List ℕ) (at x₀ x₁ : ℕ) → set (set l at x₀) (at + 1) x₁ ≡ sets l at (x₀ ∷ x₁ ∷ [])
two_sets l at x₀ x₁ = rw (add-one at)

pub three_sets : (l : List ℕ) (at x₀ x₁ x₂ : ℕ) → set (set (set l at x₀) (at + 1) x₁) (at + 2) x₂ ≡ sets l at (x₀ ∷ x₁ ∷ x₂ ∷ [])
three_sets l at x₀ x₁ x₂ = let e₂ : at + 2 ≡ suc (suc at) = omega arith in rw (add-one at, e₂)

pub four_sets : (l : List ℕ) (at x₀ x₁ x₂ x₃ : ℕ) → set (set (set (set l at x₀) (at + 1) x₁) (at + 2) x₂) (at + 3) x₃ ≡ sets l at (x₀ ∷ x₁ ∷ x₂ ∷ x₃ ∷ [])
four_sets l at x₀ x₁ x₂ x₃ =
    let e₂ : at + 2 ≡ suc (suc at) = omega arith in
    let e₃ : at + 3 ≡ suc (suc (suc at)) = omega arith in
    rw (add-one at, e₂, e₃)

-- two more behind three, and three more behind four
pub five_sets : (l : List ℕ) (at x₀ x₁ x₂ x₃ x₄ : ℕ)
    → set (set (sets l at (x₀ ∷ x₁ ∷ x₂ ∷ [])) (at + 3) x₃) (at + 4) x₄ ≡ sets l at (x₀ ∷ x₁ ∷ x₂ ∷ x₃ ∷ x₄ ∷ [])
five_sets l at x₀ x₁ x₂ x₃ x₄ =
    let e₃ : at + 3 ≡ suc (suc (suc at)) = omega arith in
    let e₄ : at + 4 ≡ suc (suc (suc (suc at))) = omega arith in
    rw (e₃, e₄)

pub seven_sets : (l : List ℕ) (at x₀ x₁ x₂ x₃ x₄ x₅ x₆ : ℕ)
    → set (set (set (set (set (set (set l at x₀) (at + 1) x₁) (at + 2) x₂) (at + 3) x₃) (at + 4) x₄) (at + 5) x₅) (at + 6) x₆
    ≡ sets l at (x₀ ∷ x₁ ∷ x₂ ∷ x₃ ∷ x₄ ∷ x₅ ∷ x₆ ∷ [])
seven_sets l at x₀ x₁ x₂ x₃ x₄ x₅ x₆ =
    let e₄ : at + 4 ≡ suc (suc (suc (suc at))) = omega arith in
    let e₅ : at + 5 ≡ suc (suc (suc (suc (suc at)))) = omega arith in
    let e₆ : at + 6 ≡ suc (suc (suc (suc (suc (suc at))))) = omega arith in
    rw (four_sets l at x₀ x₁ x₂ x₃, e₄, e₅, e₆)
