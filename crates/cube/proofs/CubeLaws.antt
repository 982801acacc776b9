-- Cubes of n variables: a mask m, the variables that are fixed, and their values w. What the operations do to the two words, and what that
-- means variable by variable. Assumes nothing.
use Rattle.std.specs.Prelude.{◌≡◌, refl, Bool, false, cond, ℕ, ◌^◌, ◌≤◌, ◌<◌, eqb}
use Rattle.std.proofs.Common.{sym, ◌∙◌, eqb-true}
use Rattle.std.proofs.Math.Bool.{true}
use Rattle.std.specs.Int.Bits.{bit_or}
use Rattle.words.proofs.Logic.{by_bool}
use Rattle.words.specs.Word.{bit}
use Rattle.words.specs.Mask.{Sub, put, agree, Agree}
use Rattle.words.proofs.Mask.{and-sub, without_mono, put-more, placed_at, placed-other, placed_past, placed-put, placed-lt, placed-sub, agree-bits, bits_agree, masked-bits, bits_masked}
use Rattle.cube.specs.Cube.{Elsewhere, Fixed, Freed, FreedAll, Made, Replaced}

-- ---- fixed or freed, variable by variable

module _ {n m w v : ℕ} {t b : Bool} {m' w' : ℕ} (r : Replaced n m w v t b m' w') where
  -- at v the new value replaces the old
  pub replaced_at : v < n → (bit m' v ≡ t) × (bit w' v ≡ b)
  replaced_at h = (rw r.mask (placed_at n m v t h), rw r.values (placed_at n w v b h))

  -- no other variable changes
  pub replaced_other : (k : ℕ) → eqb k v ≡ false → (bit m' k ≡ bit m k) × (bit w' k ≡ bit w k)
  replaced_other k e = (rw r.mask (placed-other n m v t k e), rw r.values (placed-other n w v b k e))

  -- past the last variable the cube is unchanged
  pub replaced_past : n ≤ v → (m' ≡ m) × (w' ≡ w)
  replaced_past h = (r.mask ∙ placed_past n m v t h, r.values ∙ placed_past n w v b h)

  -- it stays a cube of n variables
  pub replaced_lt : m < 2 ^ n → w < 2 ^ n → (m' < 2 ^ n) × (w' < 2 ^ n)
  replaced_lt h k = (rw r.mask (placed-lt n m v t h), rw r.values (placed-lt n w v b k))

  -- the values stay inside the mask
  pub replaced_sub : (b ≡ true → t ≡ true) → Sub w m → Sub w' m'
  replaced_sub i s = rw (r.mask, r.values) (placed-sub n v b t i s)

pub fixed_sub : {n m w v : ℕ} {b : Bool} {m' w' : ℕ} → Fixed n m w v b m' w' → Sub w m → Sub w' m'
fixed_sub r s = replaced_sub r (λ e. refl) s

pub freed_sub : {n m w v m' w' : ℕ} → Freed n m w v m' w' → Sub w m → Sub w' m'
freed_sub r s = replaced_sub r (λ e. e) s

pub freed_all_sub : {m w o m' w' : ℕ} → FreedAll m w o m' w' → Sub w m → Sub w' m'
freed_all_sub {o = o} r s = rw (r.mask, r.values) (without_mono o s)

-- ---- where the variable is one of the n

module _ {n m w v : ℕ} {b : Bool} {m' w' : ℕ} (r : Fixed n m w v b m' w') (h : v < n) where
  pub fixed_mask : m' ≡ bit_or m (2 ^ v)
  unfolding put
  fixed_mask = r.mask ∙ placed-put m true h

  -- a variable without a value so far
  pub fixed_values : bit w v ≡ false → w' ≡ bit_or w (cond b (2 ^ v) 0)
  fixed_values e = r.values ∙ placed-put w b h ∙ put-more w v b e

-- one variable freed is the word of that variable freed
pub freed_one : {n m w v m' w' : ℕ} → v < n → Freed n m w v m' w' → FreedAll m w (2 ^ v) m' w'
unfolding put
freed_one {m = m} {w = w} h r = record { mask = r.mask ∙ placed-put m false h; values = r.values ∙ placed-put w false h }

-- the fixed (t true) or freed (t false) cube agrees with the settings that match the old one elsewhere, and at v, if it is fixed, have its value
module _ {n m w v : ℕ} {t b : Bool} {m' w' : ℕ} (r : Replaced n m w v t b m' w') (h : v < n) (s : ℕ) where
  pub replaced_agree : agree m' w' s ≡ true → (t ≡ true → bit s v ≡ b) × Elsewhere v m w s
  replaced_agree e =
      let a = agree-bits m' w' s e in
      let here = replaced_at r h in
      (λ i. a v (here.0 ∙ i) ∙ here.1, λ k o i. let q = replaced_other r k o in a k (q.0 ∙ i) ∙ q.1)

  pub agree_replaced : (b ≡ true → t ≡ true) → Sub w m → (t ≡ true → bit s v ≡ b) → Elsewhere v m w s → agree m' w' s ≡ true
  agree_replaced i u x y = bits_agree m' w' s (replaced_sub r i u) (λ k e. by_bool (eqb k v) (at k e) (other k e))
    where
      at : (k : ℕ) → bit m' k ≡ true → eqb k v ≡ true → bit s k ≡ bit w' k
      at k e o =
          let q = eqb-true k v o in
          let here = replaced_at r h in
          rw q (x (sym here.0 ∙ rw q at e) ∙ sym here.1)

      other : (k : ℕ) → bit m' k ≡ true → eqb k v ≡ false → bit s k ≡ bit w' k
      other k e o = let q = replaced_other r k o in y k o (sym q.0 ∙ e) ∙ sym q.1

-- the made cube's values lie in its mask, and it agrees exactly with the settings that match the word on the mask
module _ {f x m w : ℕ} (r : Made f x m w) where
  pub made_sub : Sub w m
  made_sub = rw (r.mask, r.values) (and-sub x f)

  pub made_agree : (s : ℕ) → agree m w s ≡ true → Agree f x s
  made_agree s e = masked-bits f x s (rw (r.mask, r.values) at e)

  pub agree_made : (s : ℕ) → Agree f x s → agree m w s ≡ true
  agree_made s a = rw (r.mask, r.values) (bits_masked f x s a)

  -- values that lie in the mask are kept
  pub made_same : Sub x f → w ≡ x
  made_same s = r.values ∙ s.inside
