-- What the formulas of frames have in common with them: their parts, the variables that they bind and read, and that a formula's frame is the last one.
-- Assumes nothing.
use Rattle.std.specs.Prelude.{ℕ, zero, suc, ◌+◌, ◌≤◌, ◌<◌, ◌≡◌, Bool, true, not, length, ltb}
use Rattle.std.proofs.Common.{arith, sym, ◌∙◌, subst}
use Rattle.std.proofs.Math.Path.{refl, ap}
use Rattle.std.proofs.Math.Bool.{false}
use mathlib.Core.List.{List, []}
use borrow.Author.Tests.{eqb-true, eq-eqb}
use Rattle.words.specs.Logic.{tests}
use Rattle.words.proofs.Logic.{by_bool, clash, or_cases, or_left, or_right, and_both, and_intro}
use Rattle.formula.specs.Assignment.{within}
use Rattle.formula.specs.Formula.{Formula, never, input, neg, gate, quant, free}
use Rattle.sheet.specs.Frames.{build, formula_of}
use Rattle.sheet.specs.Rules as Rules
use Rattle.sheet.specs.declared.Kind.{Kind}
use Rattle.sheet.specs.declared.Kind.TheVariants.{Not}
use Rattle.normal.specs.Normal.{Placed, index, put, reading, gate_of, quant_of, place}
use Rattle.normal.specs.PlaceLaws.{Frames, Formed, nothing, reads, denies, joins, binds, Written, formula_at, Every, Below}
use Rattle.normal.proofs.PlaceLaws.{formed, formula-at, index-le, index-hit, put-new, length_snoc, joined, none_written, place-places, place-every, build-quant}
use Rattle.normal.specs.FormulaLaws.{binder, occurs}

-- ---- frames in order

module _ {γ : ℕ → Bool} {w : ℕ} {κ : ℕ → Kind} {n : ℕ} (S : Frames γ w κ n) where
  -- what every frame's formula has, its parts have
  module _ (P : Formula → Type 0) (h : (k : ℕ) → k < n → P (formula_of κ k)) where
    every_as : (k : ℕ) → Formed γ w κ k → P (formula_of κ k) → ((a : ℕ) → a < k → Every P (formula_of κ a)) → Every P (formula_of κ k)
    every_as k (nothing e q) p s = subst (Every P) (sym q) (subst P q p)
    every_as k (reads x i e q) p s = subst (Every P) (sym q) (subst P q p)
    every_as k (denies a i e q) p s = subst (Every P) (sym q) (subst P q p, s a i)
    every_as k (joins d a b i j e q) p s = subst (Every P) (sym q) (subst P q p, s a i, s b j)
    every_as k (binds d b c a i l m e q) p s = subst (Every P) (sym q) (subst P q p, s a i)

    every-below : (m k : ℕ) → k < m → k < n → Every P (formula_of κ k)
    every-below zero k i j = absurd (omega arith)
    every-below (suc m) k i j = every_as k (formed S k j) (h k j) (λ a l. every-below m a (omega arith) (omega arith))

    pub every-part : (k : ℕ) → k < n → Every P (formula_of κ k)
    every-part k i = every-below (suc k) k (omega arith) i

  below_as : (k : ℕ) → Formed γ w κ k → Below w (formula_of κ k)
  below_as k (nothing e q) = subst (Below w) (sym q) tt
  below_as k (reads x i e q) = subst (Below w) (sym q) i
  below_as k (denies a i e q) = subst (Below w) (sym q) tt
  below_as k (joins d a b i j e q) = subst (Below w) (sym q) tt
  below_as k (binds d b c a i l m e q) = subst (Below w) (sym q) (l, m)

  pub all-below : (k : ℕ) → k < n → Every (Below w) (formula_of κ k)
  all-below k h = every-part (Below w) (λ j i. below_as j (formed S j i)) k h

binds-reading : (g : Bool) (x v : ℕ) → Rules.binds (reading g x) v ≡ false
unfolding Rules.binds
binds-reading true x v = refl
binds-reading false x v = refl

binds-gate : (d : Bool) (a b v : ℕ) → Rules.binds (gate_of d a b) v ≡ false
unfolding Rules.binds
binds-gate true a b v = refl
binds-gate false a b v = refl

binds-quant : (d : Bool) (b c a v : ℕ) → Rules.binds (quant_of d b c a) v ≡ within b c v
unfolding Rules.binds
binds-quant true b c a v = refl
binds-quant false b c a v = refl

-- a frame binds what its formula does
pub frame-binds : {γ : ℕ → Bool} {w : ℕ} {κ : ℕ → Kind} (k v : ℕ) → Formed γ w κ k → Rules.binds (κ k) v ≡ binder (formula_of κ k) v
unfolding binder Rules.binds
frame-binds k v (nothing e q) = ap (λ (d : Kind). Rules.binds d v) e ∙ sym (ap (λ (f : Formula). binder f v) q)
frame-binds {γ} k v (reads x i e q) = ap (λ (d : Kind). Rules.binds d v) e ∙ binds-reading (γ x) x v ∙ sym (ap (λ (f : Formula). binder f v) q)
frame-binds k v (denies a i e q) = ap (λ (d : Kind). Rules.binds d v) e ∙ sym (ap (λ (f : Formula). binder f v) q)
frame-binds k v (joins d a b i j e q) = ap (λ (d : Kind). Rules.binds d v) e ∙ binds-gate d a b v ∙ sym (ap (λ (f : Formula). binder f v) q)
frame-binds k v (binds d b c a i l m e q) = ap (λ (d : Kind). Rules.binds d v) e ∙ binds-quant d b c a v ∙ sym (ap (λ (f : Formula). binder f v) q)

pub free-occurs : (f : Formula) (x : ℕ) → free f x ≡ true → occurs f x ≡ true
unfolding free occurs
free-occurs never x e = e
free-occurs (input y) x e = e
free-occurs (neg f) x e = free-occurs f x e
free-occurs (gate d f g) x e = or_cases (free f x) (free g x) e
    (λ h. or_left (occurs f x) (occurs g x) (free-occurs f x h))
    (λ h. or_right (occurs f x) (occurs g x) (free-occurs g x h))
free-occurs (quant d b c f) x e = free-occurs f x (and_both (free f x) (not (within b c x)) e).0

-- one that no part binds is free
pub occurs-free : (f : Formula) (x : ℕ) → Every (λ g. binder g x ≡ false) f → occurs f x ≡ true → free f x ≡ true
unfolding free occurs binder
occurs-free never x h e = e
occurs-free (input y) x h e = e
occurs-free (neg f) x h e = occurs-free f x h.1 e
occurs-free (gate d f g) x h e = or_cases (occurs f x) (occurs g x) e
    (λ l. or_left (free f x) (free g x) (occurs-free f x h.1 l))
    (λ l. or_right (free f x) (free g x) (occurs-free g x h.2 l))
occurs-free (quant d b c f) x h e = and_intro (free f x) (not (within b c x)) (occurs-free f x h.1 e) (ap not h.0)

-- what is placed hangs on γ at these variables only
pub place-reads : (γ δ : ℕ → Bool) (f : Formula) (l : List Kind) → ((x : ℕ) → occurs f x ≡ true → γ x ≡ δ x) → place γ f l ≡ place δ f l
unfolding place occurs
place-reads γ δ never l h = refl
place-reads γ δ (input x) l h = ap (λ (g : Bool). put (reading g x) l) (h x (eq-eqb x x refl))
place-reads γ δ (neg f) l h = ap (λ (p : Placed). put (Not p.number) p.frames) (place-reads γ δ f l h)
place-reads γ δ (gate d f g) l h =
    ap (λ (p : Placed). let q = place γ g p.frames in put (gate_of d p.number q.number) q.frames)
    (place-reads γ δ f l (λ x e. h x (or_left (occurs f x) (occurs g x) e)))
    ∙ ap (λ (q : Placed). put (gate_of d (place δ f l).number q.number) q.frames)
    (place-reads γ δ g (place δ f l).frames (λ x e. h x (or_right (occurs f x) (occurs g x) e)))
place-reads γ δ (quant d b c f) l h = ap (λ (p : Placed). put (quant_of d b c p.number) p.frames) (place-reads γ δ f l h)

-- each is read by a frame
module _ {γ : ℕ → Bool} {w : ℕ} {κ : ℕ → Kind} {n : ℕ} (S : Frames γ w κ n) (x : ℕ) where
  abbrev Reader : Type 0
  Reader = (j : ℕ) × (j < n) × (κ j ≡ reading (γ x) x)

  reader_as : (k : ℕ) → k < n → Formed γ w κ k → ((a : ℕ) → a < k → occurs (formula_of κ a) x ≡ true → Reader) → occurs (formula_of κ k) x ≡ true → Reader
  unfolding occurs
  reader_as k h (nothing e q) s o = clash false (ap (λ (f : Formula). occurs f x) (sym q) ∙ o) refl
  reader_as k h (reads y i e q) s o =
      let t : x ≡ y = eqb-true x y (ap (λ (f : Formula). occurs f x) (sym q) ∙ o) in
      (k, h, e ∙ ap (λ (z : ℕ). reading (γ z) z) (sym t))
  reader_as k h (denies a i e q) s o = s a i (ap (λ (f : Formula). occurs f x) (sym q) ∙ o)
  reader_as k h (joins d a b i j e q) s o =
      or_cases (occurs (formula_of κ a) x) (occurs (formula_of κ b) x) (ap (λ (f : Formula). occurs f x) (sym q) ∙ o) (λ t. s a i t) (λ t. s b j t)
  reader_as k h (binds d b c a i l m e q) s o = s a i (ap (λ (f : Formula). occurs f x) (sym q) ∙ o)

  reader_below : (m k : ℕ) → k < m → k < n → occurs (formula_of κ k) x ≡ true → Reader
  reader_below zero k i h o = absurd (omega arith)
  reader_below (suc m) k i h o = reader_as k h (formed S k h) (λ a j p. reader_below m a (omega arith) (omega arith) p) o

  pub occurs_read : (k : ℕ) → k < n → occurs (formula_of κ k) x ≡ true → Reader
  occurs_read k h o = reader_below (suc k) k (omega arith) h o

-- ---- a formula is larger than its parts, so its frame is the last

unfoldable size : Formula → ℕ
size never = 0
size (input x) = 0
size (neg f) = suc (size f)
size (gate d f g) = suc (size f + size g)
size (quant d b c f) = suc (size f)

every_smaller : (m : ℕ) (f : Formula) → size f ≤ m → Every (λ g. size g ≤ m) f
unfolding size
every_smaller m never h = h
every_smaller m (input x) h = h
every_smaller m (neg f) h = (h, every_smaller m f (omega arith))
every_smaller m (gate d f g) h = (h, every_smaller m f (omega arith), every_smaller m g (omega arith))
every_smaller m (quant d b c f) h = (h, every_smaller m f (omega arith))

module _ (γ : ℕ → Bool) (w : ℕ) where
  -- a frame behind those of smaller formulas
  put_last : {l : List Kind} → Written γ w l → (d : Kind) (m : ℕ) → ((k : ℕ) → k < length l → size (formula_at l k) ≤ m) → m < size (build (formula_at l) d)
      → length (put d l).frames ≡ suc (put d l).number
  put_last {l} W d m s h = by_bool (ltb (index d l) (length l))
      (λ t. let i : index d l < length l = omega tests in
      let e = ap size (formula-at W (index d l) i ∙ ap (build (formula_at l)) (index-hit d l i)) in
      let b = s (index d l) i in
      absurd (omega (arith, e, b, h)))
      (λ t. let n : index d l ≡ length l = omega (tests, index-le d l) in
      let q = put-new W d n in
      ap (λ (p : Placed). length p.frames) q ∙ length_snoc W d ∙ sym (ap (λ (p : Placed). suc p.number) q))

  pub root-last : (f : Formula) → Every (Below w) f → length (place γ f []).frames ≡ suc (place γ f []).number
  unfolding place put index size build
  root-last never h = refl
  root-last (input x) h = refl
  root-last (neg f) h =
      let P = place-places γ w f [] h.1 (none_written γ w) in
      let s = place-every γ w (λ g. size g ≤ size f) f [] h.1 (none_written γ w) (every_smaller (size f) f (omega arith)) (λ k i. absurd (omega arith)) in
      put_last P.written _ (size f) s (let e = ap size P.means in omega (arith, e))
  root-last (gate d f g) h =
      let m = size f + size g in
      let p = place γ f [] in
      let q = place γ g p.frames in
      let P = place-places γ w f [] h.1 (none_written γ w) in
      let Q = place-places γ w g p.frames h.2 P.written in
      let s = place-every γ w (λ g. size g ≤ m) f [] h.1 (none_written γ w) (every_smaller m f (omega arith)) (λ k i. absurd (omega arith)) in
      let t = place-every γ w (λ g. size g ≤ m) g p.frames h.2 P.written (every_smaller m g (omega arith)) s in
      put_last Q.written _ m t (let e = ap size (joined P d Q) in omega (arith, e))
  root-last (quant d b c f) h =
      let P = place-places γ w f [] h.1 (none_written γ w) in
      let s = place-every γ w (λ g. size g ≤ size f) f [] h.1 (none_written γ w) (every_smaller (size f) f (omega arith)) (λ k i. absurd (omega arith)) in
      put_last P.written _ (size f) s
      (let e = ap size (build-quant (formula_at (place γ f []).frames) d b c (place γ f []).number ∙ ap (quant d b c) P.means) in omega (arith, e))
