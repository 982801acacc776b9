-- Placing a formula among frames: what is there stays, the frame placed has the formula, and a formula that is placed already changes nothing. Assumes
-- nothing.
use Rattle.std.specs.Prelude.{ℕ, zero, suc, ◌+◌, ◌≤◌, ◌<◌, ◌≡◌, Bool, true, false, ◌⊎◌, List, [], ◌∷◌, ◌++◌, length, ltb}
use Rattle.std.proofs.Common.{arith, sym, ap₂, ◌∙◌, subst, inl, inr, ⊎_elim, append-nil, append_assoc, length-append}
use Rattle.std.proofs.Math.Path.{refl, ap}
use Rattle.std.proofs.Math.ListN.{get_or-append}
use Rattle.std.proofs.Math.Seq.{get_or-append_seam}
use borrow.Author.Tests.{lt-ltb, le-ltb}
use Rattle.words.specs.Logic.{tests}
use Rattle.words.proofs.Logic.{by_bool}
use Rattle.formula.specs.Formula.{Formula, never, input, neg, gate, quant}
use Rattle.sheet.specs.Frames.{build, tree, formula_of, Fit, OrderedBelow}
use Rattle.sheet.proofs.Frames.{build-same, formula-below}
use Rattle.sheet.specs.declared.Kind.{Kind}
use Rattle.sheet.specs.declared.Kind.TheVariants.{Never, Not}
use Rattle.normal.specs.Normal.{fields_of, same_fields, index, Placed, put, reading, gate_of, quant_of, place}
use Rattle.normal.specs.Lists.{kind_at}
use Rattle.normal.proofs.BytesLaws.{fields-same, same_kind}
use Rattle.normal.specs.PlaceLaws.{Below, Every, Formed, Frames, Places, Says, Written, binds, denies, formula_at, joins, nothing, reads}

fit-reading : (w k : ℕ) (g : Bool) (x : ℕ) → x < w → Fit w k (reading g x)
fit-reading w k true x h = h
fit-reading w k false x h = h

fit-gate : (w k : ℕ) (d : Bool) (a b : ℕ) → a < k → b < k → Fit w k (gate_of d a b)
fit-gate w k true a b g h = (g, h)
fit-gate w k false a b g h = (g, h)

fit-quant : (w k : ℕ) (d : Bool) (b c a : ℕ) → a < k → b + c ≤ w → Fit w k (quant_of d b c a)
fit-quant w k true b c a g h = (g, h)
fit-quant w k false b c a g h = (g, h)

pub says_fit : {γ : ℕ → Bool} {w k : ℕ} {d : Kind} → Says γ w k d → Fit w k d
says_fit nothing = tt
says_fit {γ} {w} {k} (reads x h) = fit-reading w k (γ x) x h
says_fit (denies a h) = h
says_fit {γ} {w} {k} (joins d a b g h) = fit-gate w k d a b g h
says_fit {γ} {w} {k} (binds d b c a h m n) = fit-quant w k d b c a h n

pub build-reading : (h : ℕ → Formula) (g : Bool) (x : ℕ) → build h (reading g x) ≡ input x
unfolding build
build-reading h true x = refl
build-reading h false x = refl

pub build-gate : (h : ℕ → Formula) (d : Bool) (a b : ℕ) → build h (gate_of d a b) ≡ gate d (h a) (h b)
unfolding build
build-gate h true a b = refl
build-gate h false a b = refl

pub build-quant : (h : ℕ → Formula) (d : Bool) (b c a : ℕ) → build h (quant_of d b c a) ≡ quant d b c (h a)
unfolding build
build-quant h true b c a = refl
build-quant h false b c a = refl

module _ {γ : ℕ → Bool} {w : ℕ} {κ : ℕ → Kind} {n : ℕ} (S : Frames γ w κ n) where
  pub frames-ordered : OrderedBelow n w κ
  frames-ordered k h = says_fit (S k h)

  pub formula-by : (k : ℕ) → k < n → formula_of κ k ≡ build (formula_of κ) (κ k)
  formula-by k h = formula-below w n κ frames-ordered k h

formed_as : (γ : ℕ → Bool) (w : ℕ) (κ : ℕ → Kind) (k : ℕ) {d : Kind} → formula_of κ k ≡ build (formula_of κ) d → κ k ≡ d → Says γ w k d → Formed γ w κ k
unfolding build
formed_as γ w κ k f e nothing = nothing e f
formed_as γ w κ k f e (reads x h) = reads x h e (f ∙ build-reading (formula_of κ) (γ x) x)
formed_as γ w κ k f e (denies a h) = denies a h e f
formed_as γ w κ k f e (joins d a b g h) = joins d a b g h e (f ∙ build-gate (formula_of κ) d a b)
formed_as γ w κ k f e (binds d b c a h m n) = binds d b c a h m n e (f ∙ build-quant (formula_of κ) d b c a)

pub formed : {γ : ℕ → Bool} {w : ℕ} {κ : ℕ → Kind} {n : ℕ} → Frames γ w κ n → (k : ℕ) → k < n → Formed γ w κ k
formed {γ} {w} {κ} S k h = formed_as γ w κ k (formula-by S k h) refl (S k h)

pub none_written : (γ : ℕ → Bool) (w : ℕ) → Written γ w []
none_written γ w = record { says = λ k h. absurd (omega arith); distinct = λ i j h. absurd (omega arith) }

-- the formulas of frames that two lists have in common
tree-same : (w m : ℕ) (κ δ : ℕ → Kind) → OrderedBelow m w κ → ((k : ℕ) → k < m → δ k ≡ κ k) → (n k : ℕ) → k < m → tree n δ k ≡ tree n κ k
unfolding tree
tree-same w m κ δ o e zero k h = refl
tree-same w m κ δ o e (suc n) k h =
    ap (build (tree n δ)) (e k h)
    ∙ build-same w (tree n δ) (tree n κ) k (κ k) (o k h) (λ a i. tree-same w m κ δ o e n a (omega arith))

module _ {γ : ℕ → Bool} {w : ℕ} {l : List Kind} (W : Written γ w l) where
  pub formula-at : (k : ℕ) → k < length l → formula_at l k ≡ build (formula_at l) (kind_at l k)
  formula-at k h = formula-by W.says k h

  pub kind-more : (m : List Kind) (k : ℕ) → k < length l → kind_at (l ++ m) k ≡ kind_at l k
  kind-more m k h = get_or-append l m Never k h

  pub formula-more : (m : List Kind) (k : ℕ) → k < length l → formula_at (l ++ m) k ≡ formula_at l k
  unfolding formula_of
  formula-more m k h = tree-same w (length l) (kind_at l) (kind_at (l ++ m)) (frames-ordered W.says) (λ j i. kind-more m j i) (suc k) k h

-- ---- the number of a frame

pub index-le : (d : Kind) (l : List Kind) → index d l ≤ length l
unfolding index
index-le d [] = omega arith
index-le d (e ∷ l) = by_bool (same_fields (fields_of d) (fields_of e))
    (λ t. rw t (omega arith))
    (λ t. rw t (let h = index-le d l in omega (arith, h)))

pub index-hit : (d : Kind) (l : List Kind) → index d l < length l → kind_at l (index d l) ≡ d
unfolding index
index-hit d [] h = absurd (omega arith)
index-hit d (e ∷ l) h = by_bool (same_fields (fields_of d) (fields_of e))
    (λ t. rw t (sym (same_kind d e t)))
    (λ t. rw t (index-hit d l (let g = (rw t at h) in omega (arith, g))))

pub index-first : (d : Kind) (l : List Kind) (k : ℕ) → k < length l → kind_at l k ≡ d → index d l ≤ k
unfolding index
index-first d [] k h e = absurd (omega arith)
index-first d (c ∷ l) zero h e =
    let t : same_fields (fields_of d) (fields_of c) ≡ true = ap (λ (x : Kind). same_fields (fields_of d) (fields_of x)) e ∙ fields-same (fields_of d) in
    rw t (omega arith)
index-first d (c ∷ l) (suc k) h e = by_bool (same_fields (fields_of d) (fields_of c))
    (λ t. rw t (omega arith))
    (λ t. rw t (let g = index-first d l k (omega arith) e in omega (arith, g)))

-- a frame that is there is found
pub put-there : {γ : ℕ → Bool} {w : ℕ} {l : List Kind} → Written γ w l → (k : ℕ) (d : Kind) → k < length l → kind_at l k ≡ d → put d l ≡ record { frames = l; number = k }
unfolding put
put-there {l = l} W k d h e =
    let i = index-first d l k h e in
    let q : index d l ≡ k = W.distinct (index d l) k (omega (arith, i)) h (index-hit d l (omega (arith, i)) ∙ sym e) in
    rw (q, lt-ltb k (length l) h)

module _ {γ : ℕ → Bool} {w : ℕ} {l : List Kind} (W : Written γ w l) where
  -- one frame more
  says_snoc : (d : Kind) → Says γ w (length l) d → (k : ℕ) → k < suc (length l) → Says γ w k (kind_at (l ++ (d ∷ [])) k)
  says_snoc d D k h = by_bool (ltb k (length l))
      (λ t. subst (Says γ w k) (sym (kind-more W (d ∷ []) k (omega tests))) (W.says k (omega tests)))
      (λ t. let q : length l ≡ k = omega tests in
      subst (λ (j : ℕ). Says γ w j (kind_at (l ++ (d ∷ [])) j)) q (subst (Says γ w (length l)) (sym (get_or-append_seam l d [] Never)) D))

  distinct_snoc : (d : Kind) → ((j : ℕ) → j < length l → kind_at l j ≡ d → ⊥) → (i j : ℕ) → i < suc (length l) → j < suc (length l)
      → kind_at (l ++ (d ∷ [])) i ≡ kind_at (l ++ (d ∷ [])) j → i ≡ j
  distinct_snoc d fresh i j h g e = by_bool (ltb i (length l))
      (λ s. by_bool (ltb j (length l))
      (λ t. W.distinct i j (omega tests) (omega tests) (sym (kind-more W (d ∷ []) i (omega tests)) ∙ e ∙ kind-more W (d ∷ []) j (omega tests)))
      (λ t. absurd (fresh i (omega tests) (sym (kind-more W (d ∷ []) i (omega tests)) ∙ e ∙ at-end j (omega tests)))))
      (λ s. by_bool (ltb j (length l))
      (λ t. absurd (fresh j (omega tests) (sym (kind-more W (d ∷ []) j (omega tests)) ∙ sym e ∙ at-end i (omega tests))))
      (λ t. omega tests))
    where
      at-end : (k : ℕ) → k ≡ length l → kind_at (l ++ (d ∷ [])) k ≡ d
      at-end k q = ap (kind_at (l ++ (d ∷ []))) q ∙ get_or-append_seam l d [] Never

  pub length_snoc : (d : Kind) → length (l ++ (d ∷ [])) ≡ suc (length l)
  length_snoc d = length-append l (d ∷ []) ∙ omega arith

  written_snoc : (d : Kind) → Says γ w (length l) d → index d l ≡ length l → Written γ w (l ++ (d ∷ []))
  written_snoc d D n = record {
    says = λ k h. says_snoc d D k (omega (arith, h, length_snoc d));
    distinct = λ i j h g e. distinct_snoc d (λ k i e. let q = index-first d l k i e in omega (arith, q, n, i)) i j (omega (arith, h, length_snoc d)) (omega (arith, g, length_snoc d)) e;
  }

  pub put-new : (d : Kind) → index d l ≡ length l → put d l ≡ record { frames = l ++ (d ∷ []); number = length l }
  unfolding put
  put-new d n = rw (n, le-ltb (length l) (length l) (omega arith))

  pub put-old : (d : Kind) → index d l < length l → put d l ≡ record { frames = l; number = index d l }
  unfolding put
  put-old d h = rw (lt-ltb (index d l) (length l) h)

  -- the frame has the number
  pub put-at : (d : Kind) → kind_at (put d l).frames (put d l).number ≡ d
  put-at d = by_bool (ltb (index d l) (length l))
      (λ t. let q = put-old d (omega tests) in ap (λ (p : Placed). kind_at p.frames p.number) q ∙ index-hit d l (omega tests))
      (λ t. let n : index d l ≡ length l = omega (tests, index-le d l) in
      ap (λ (p : Placed). kind_at p.frames p.number) (put-new d n) ∙ get_or-append_seam l d [] Never)

  -- a frame of a formula, in either case
  pub put-places : (d : Kind) (f : Formula) → Says γ w (length l) d → build (formula_at l) d ≡ f → Places γ w f l (put d l)
  put-places d f D e = by_bool (ltb (index d l) (length l))
      (λ t. let h : index d l < length l = omega tests in
      subst (Places γ w f l) (sym (put-old d h)) (record {
        more = [];
        extends = sym (append-nil l);
        written = W;
        inside = h;
        means = formula-at W (index d l) h ∙ ap (build (formula_at l)) (index-hit d l h) ∙ e;
      }))
      (λ t. let n : index d l ≡ length l = omega (tests, index-le d l) in
      let m = l ++ (d ∷ []) in
      let Y = written_snoc d D n in
      let h : length l < length m = omega (arith, length_snoc d) in
      subst (Places γ w f l) (sym (put-new d n)) (record {
        more = d ∷ [];
        extends = refl;
        written = Y;
        inside = h;
        means = formula-at Y (length l) h
            ∙ ap (build (formula_at m)) (get_or-append_seam l d [] Never)
            ∙ build-same w (formula_at m) (formula_at l) (length l) d (says_fit D) (λ a i. formula-more W (d ∷ []) a i)
            ∙ e;
      }))

  -- at most one more
  pub put_one : (d : Kind) → length (put d l).frames ≤ suc (length l)
  put_one d = by_bool (ltb (index d l) (length l))
      (λ t. let q = ap (λ (p : Placed). length p.frames) (put-old d (omega tests)) in omega (arith, q))
      (λ t. let n : index d l ≡ length l = omega (tests, index-le d l) in
      let q = ap (λ (p : Placed). length p.frames) (put-new d n) in omega (arith, q, length_snoc d))

  -- the frames after it are those before, and the one placed
  pub put-frames : (d : Kind) (k : ℕ) → k < length (put d l).frames → (k < length l) ⊎ (k ≡ (put d l).number)
  put-frames d k h = by_bool (ltb (index d l) (length l))
      (λ t. let q = put-old d (omega tests) in inl (omega (arith, h, ap (λ (p : Placed). length p.frames) q)))
      (λ t. let n : index d l ≡ length l = omega (tests, index-le d l) in
      let q = put-new d n in
      let r = ap (λ (p : Placed). p.number) q in
      let m : length (put d l).frames ≡ suc (length l) = ap (λ (p : Placed). length p.frames) q ∙ length_snoc d in
      by_bool (ltb k (length l)) (λ s. inl (omega tests)) (λ s. inr (omega (tests, r, m, h))))

-- one formula behind another
after : {γ : ℕ → Bool} {w : ℕ} {f g : Formula} {l : List Kind} {p q : Placed} → Places γ w f l p → Places γ w g p.frames q → Places γ w g l q
after {l = l} P Q = record {
  more = P.more ++ Q.more;
  extends = Q.extends ∙ ap (λ (j : List Kind). j ++ Q.more) P.extends ∙ append_assoc l P.more Q.more;
  written = Q.written;
  inside = Q.inside;
  means = Q.means;
}

-- ---- the frame of a formula, behind those of its parts

module _ {γ : ℕ → Bool} {w : ℕ} {l : List Kind} {p : Placed} {f : Formula} (P : Places γ w f l p) where
  pub put-neg : Places γ w (neg f) p.frames (put (Not p.number) p.frames)
  unfolding build
  put-neg = put-places P.written (Not p.number) (neg f) (denies _ P.inside) (ap neg P.means)

  pub put-quant : (d : Bool) (b c : ℕ) → 1 ≤ c → b + c ≤ w → Places γ w (quant d b c f) p.frames (put (quant_of d b c p.number) p.frames)
  put-quant d b c m n =
      put-places P.written (quant_of d b c p.number) (quant d b c f) (binds d b c _ P.inside m n)
      (build-quant (formula_at p.frames) d b c p.number ∙ ap (quant d b c) P.means)

  -- the formula of a gate over both
  pub joined : {q : Placed} {g : Formula} (d : Bool) → Places γ w g p.frames q → build (formula_at q.frames) (gate_of d p.number q.number) ≡ gate d f g
  joined {q} d Q =
      build-gate (formula_at q.frames) d p.number q.number
      ∙ ap₂ (gate d)
      (ap (λ (k : List Kind). formula_at k p.number) Q.extends ∙ formula-more P.written Q.more p.number P.inside ∙ P.means)
      Q.means

  pub put-gate : {q : Placed} {g : Formula} (d : Bool) → Places γ w g p.frames q → Places γ w (gate d f g) q.frames (put (gate_of d p.number q.number) q.frames)
  put-gate {q} {g} d Q =
      let inside : p.number < length q.frames = omega (arith, P.inside, ap length Q.extends ∙ length-append p.frames Q.more) in
      put-places Q.written (gate_of d p.number q.number) (gate d f g) (joins d _ _ inside Q.inside) (joined d Q)

module _ (γ : ℕ → Bool) (w : ℕ) where
  -- the frame placed has the formula
  pub place-places : (f : Formula) (l : List Kind) → Every (Below w) f → Written γ w l → Places γ w f l (place γ f l)
  unfolding place build
  place-places never l h W = put-places W Never never nothing refl
  place-places (input x) l h W = put-places W (reading (γ x) x) (input x) (reads x h) (build-reading (formula_at l) (γ x) x)
  place-places (neg f) l h W = let P = place-places f l h.1 W in after P (put-neg P)
  place-places (gate d f g) l h W =
      let P = place-places f l h.1 W in
      let Q = place-places g (place γ f l).frames h.2 P.written in
      after P (after Q (put-gate P d Q))
  place-places (quant d b c f) l h W = let P = place-places f l h.1 W in after P (put-quant P d b c h.0.0 h.0.1)

  -- what every part of f has, and the frames before it, the frames behind it have
  module _ (P : Formula → Type 0) where
    abbrev pub AllAre : List Kind → Type 0
    AllAre l = (k : ℕ) → k < length l → P (formula_at l k)

    put-every : (d : Kind) (f : Formula) (l : List Kind) → Written γ w l → Places γ w f l (put d l) → AllAre l → P f → AllAre (put d l).frames
    put-every d f l W Q a p k h = ⊎_elim
        (λ i. subst P (sym (ap (λ (m : List Kind). formula_at m k) Q.extends ∙ formula-more W Q.more k i)) (a k i))
        (λ e. subst P (sym (ap (formula_at (put d l).frames) e ∙ Q.means)) p)
        (put-frames W d k h)

    pub place-every : (f : Formula) (l : List Kind) → Every (Below w) f → Written γ w l → Every P f → AllAre l → AllAre (place γ f l).frames
    unfolding place
    place-every never l h W e a = put-every Never never l W (place-places never l h W) a e
    place-every (input x) l h W e a = put-every (reading (γ x) x) (input x) l W (place-places (input x) l h W) a e
    place-every (neg f) l h W e a =
        let Y = place-places f l h.1 W in
        put-every _ (neg f) _ Y.written (put-neg Y) (place-every f l h.1 W e.1 a) e.0
    place-every (gate d f g) l h W e a =
        let Y = place-places f l h.1 W in
        let Z = place-places g (place γ f l).frames h.2 Y.written in
        put-every _ (gate d f g) _ Z.written (put-gate Y d Z)
        (place-every g (place γ f l).frames h.2 Y.written e.2 (place-every f l h.1 W e.1 a)) e.0
    place-every (quant d b c f) l h W e a =
        let Y = place-places f l h.1 W in
        put-every _ (quant d b c f) _ Y.written (put-quant Y d b c h.0.0 h.0.1) (place-every f l h.1 W e.1 a) e.0

-- ---- what is placed already

module _ {γ : ℕ → Bool} {w : ℕ} {l : List Kind} (W : Written γ w l) where
  abbrev Stays : ℕ → Type 0
  Stays k = place γ (formula_at l k) l ≡ record { frames = l; number = k }

  at : (k : ℕ) {f : Formula} → formula_at l k ≡ f → place γ (formula_at l k) l ≡ place γ f l
  at k q = ap (λ (f : Formula). place γ f l) q

  stays_by : (k : ℕ) → k < length l → Formed γ w (kind_at l) k → ((a : ℕ) → a < k → Stays a) → Stays k
  unfolding place
  stays_by k h (nothing e q) s = at k q ∙ put-there W k Never h e
  stays_by k h (reads x i e q) s = at k q ∙ put-there W k _ h e
  stays_by k h (denies a i e q) s = at k q ∙ ap (λ (p : Placed). put (Not p.number) p.frames) (s a i) ∙ put-there W k _ h e
  stays_by k h (joins d a b i j e q) s =
      at k q
      ∙ ap (λ (p : Placed). let r = place γ (formula_at l b) p.frames in put (gate_of d p.number r.number) r.frames) (s a i)
      ∙ ap (λ (r : Placed). put (gate_of d a r.number) r.frames) (s b j)
      ∙ put-there W k _ h e
  stays_by k h (binds d b c a i m n e q) s = at k q ∙ ap (λ (p : Placed). put (quant_of d b c p.number) p.frames) (s a i) ∙ put-there W k _ h e

  stays-below : (n k : ℕ) → k < n → k < length l → Stays k
  stays-below zero k i h = absurd (omega arith)
  stays-below (suc n) k i h = stays_by k h (formed W.says k h) (λ a j. stays-below n a (omega arith) (omega arith))

  -- Placing the formula of a frame that is there gives that frame, and nothing more.
  pub place-stays : (k : ℕ) (f : Formula) → k < length l → formula_at l k ≡ f → place γ f l ≡ record { frames = l; number = k }
  place-stays k f h e = ap (λ (g : Formula). place γ g l) (sym e) ∙ stays-below (suc k) k (omega arith) h

  -- so no two frames have one formula
  pub formula_once : (i j : ℕ) → i < length l → j < length l → formula_at l i ≡ formula_at l j → i ≡ j
  formula_once i j h g e = ap (λ (p : Placed). p.number) (sym (place-stays i (formula_at l j) h e) ∙ place-stays j (formula_at l j) g refl)

-- so a formula is placed once
pub place-again : (γ : ℕ → Bool) (w : ℕ) (f : Formula) (l : List Kind) → Every (Below w) f → Written γ w l
    → place γ f (place γ f l).frames ≡ place γ f l
place-again γ w f l h W = let P = place-places γ w f l h W in place-stays P.written (place γ f l).number f P.inside P.means
