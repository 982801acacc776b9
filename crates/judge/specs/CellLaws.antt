-- The cells of a search: what a store leaves, and that undoing it gives the old cells back. Assumes nothing.
use Prim.Native.Nat.{ℕ, zero, suc, ◌+◌, ◌*◌, ◌≤◌, ◌<◌}
use Rattle.std.proofs.Common.{arith, ◌∙◌, ap, length-set, get_or-set_same, get_or-set_other}
use Rattle.std.specs.Prelude.{◌≡◌, refl, List, [], ◌∷◌, length, get_or, replicate}
use Rattle.std.proofs.Math.ListN.{set}
use Rattle.std.proofs.lemmas.List.{set-get_or, set_comm}
use Rattle.std.proofs.Math.Seq.{set-set}
use Rattle.judge.specs.Cells.{HasCell, value_of, reason_of, previous, cleared, Vacant, Stored, end, Link, Chain, Trail}

-- ---- the two words of node k

-- x and y are stored there
abbrev pair : List ℕ → ℕ → ℕ → ℕ → List ℕ
pair cells k x y = set (set cells (2 * k) x) (2 * k + 1) y

module _ (cells : List ℕ) (k x y : ℕ) where
  first-same : HasCell cells k → get_or (pair cells k x y) (2 * k) 0 ≡ x
  first-same h = get_or-set_other (set cells (2 * k) x) (2 * k + 1) (2 * k) y 0 (λ e. omega arith) ∙ get_or-set_same cells (2 * k) x 0 (omega arith)

  second_same : HasCell cells k → get_or (pair cells k x y) (2 * k + 1) 0 ≡ y
  second_same h = get_or-set_same (set cells (2 * k) x) (2 * k + 1) y 0 (rw length-set h)

  first-other : (i : ℕ) → (i ≡ k → ⊥) → get_or (pair cells k x y) (2 * i) 0 ≡ get_or cells (2 * i) 0
  first-other i n = get_or-set_other (set cells (2 * k) x) (2 * k + 1) (2 * i) y 0 (λ e. omega arith) ∙ get_or-set_other cells (2 * k) (2 * i) x 0 (λ e. n (omega arith))

  second_other : (i : ℕ) → (i ≡ k → ⊥) → get_or (pair cells k x y) (2 * i + 1) 0 ≡ get_or cells (2 * i + 1) 0
  second_other i n =
      get_or-set_other (set cells (2 * k) x) (2 * k + 1) (2 * i + 1) y 0 (λ e. n (omega arith)) ∙ get_or-set_other cells (2 * k) (2 * i + 1) x 0 (λ e. omega arith)

  cleared-again : cleared (pair cells k x y) k ≡ cleared cells k
  unfolding cleared
  cleared-again =
      rw (set_comm (set cells (2 * k) x) (2 * k + 1) (2 * k) y 0 (λ e. omega arith), set-set cells (2 * k) x 0, set-set (set cells (2 * k) 0) (2 * k + 1) y 0)

  -- what is stored where nothing was known is cleared again
  cleared-stored : Vacant cells k → cleared (pair cells k x y) k ≡ cells
  unfolding cleared
  cleared-stored e =
      let first : set cells (2 * k) 0 ≡ cells = rw (← e.first) (set-get_or cells (2 * k) 0) in
      let second : set cells (2 * k + 1) 0 ≡ cells = rw (← e.second) (set-get_or cells (2 * k + 1) 0) in
      cleared-again ∙ rw (first, second)

-- ---- what is read after node k was set

module _ {k v r head head' : ℕ} {cells cells' : List ℕ} (S : Stored k v r head cells cells' head') where
  pub stored-long : length cells' ≡ length cells
  stored-long = rw (S.is, length-set, length-set)

  pub stored-value : HasCell cells k → v < 3 → value_of cells' k ≡ v
  unfolding value_of
  stored-value h l = rw (S.is, first-same cells k (4 * head + v) r h) (omega arith)

  pub stored-reason : HasCell cells k → reason_of cells' k ≡ r
  unfolding reason_of
  stored-reason h = rw (S.is, second_same cells k (4 * head + v) r h)

  stored-previous : HasCell cells k → v < 3 → head < 65536 → previous cells' k ≡ head
  unfolding previous
  stored-previous h l b = rw (S.is, first-same cells k (4 * head + v) r h) (omega arith)

  pub other-value : (i : ℕ) → (i ≡ k → ⊥) → value_of cells' i ≡ value_of cells i
  unfolding value_of
  other-value i n = rw (S.is, first-other cells k (4 * head + v) r i n)

  pub other-reason : (i : ℕ) → (i ≡ k → ⊥) → reason_of cells' i ≡ reason_of cells i
  unfolding reason_of
  other-reason i n = rw (S.is, second_other cells k (4 * head + v) r i n)

-- a cell set back is one where nothing is told
pub stored-cleared : {k : ℕ} {cells cells' : List ℕ} → cells' ≡ cleared cells k → Stored k 0 0 0 cells cells' k
unfolding cleared
stored-cleared e = record { is = e; first = refl }

-- ---- no cell is set

zeros : (n k : ℕ) → get_or (replicate n zero) k zero ≡ zero
zeros zero k = refl
zeros (suc n) zero = refl
zeros (suc n) (suc k) = zeros n k

pub value_none : (cells : List ℕ) (k : ℕ) → get_or cells (2 * k) 0 ≡ 0 → value_of cells k ≡ 0
unfolding value_of
value_none cells k e = rw e

pub blank-value : {cells : List ℕ} (n : ℕ) → cells ≡ replicate n 0 → (k : ℕ) → value_of cells k ≡ 0
blank-value {cells} n e k = value_none cells k (ap (λ (l : List ℕ). get_or l (2 * k) 0) e ∙ zeros n (2 * k))

-- ---- the chain

module _ {old cells : List ℕ} {head : ℕ} (T : Trail old cells head) where
  pub trail-end : head ≡ end → cells ≡ old
  unfolding Chain
  trail-end e = go T.count T.chain
    where
      go : (n : ℕ) → Chain old n cells head → cells ≡ old
      go zero c = c.is
      go (suc n) c = absurd (omega (arith, c.inner))

  pub trail_link : (head ≡ end → ⊥) → Link (Trail old) cells head
  unfolding Chain
  trail_link e = go T.count T.chain
    where
      go : (n : ℕ) → Chain old n cells head → Link (Trail old) cells head
      go zero c = absurd (e c.over)
      go (suc n) c = record { here = c.here; inner = c.inner; set_here = c.set_here; rest = record { count = n; chain = c.rest } }

  trail_low : head < 65536
  unfolding Chain
  trail_low = go T.count T.chain
    where
      go : (n : ℕ) → Chain old n cells head → head < 65536
      go zero c = omega (arith, c.over)
      go (suc n) c = omega (arith, c.inner)

-- nothing was set since
pub trail_none : {cells old : List ℕ} {head : ℕ} → head ≡ end → cells ≡ old → Trail old cells head
unfolding Chain
trail_none e h = record { count = zero; chain = record { over = e; is = h } }

-- node k was set
pub trail_put : {k v r head head' : ℕ} {cells cells' : List ℕ} → HasCell cells k → k < end → 0 < v → v < 3 → Vacant cells k → Stored k v r head cells cells' head'
    → (old : List ℕ) → Trail old cells head → Trail old cells' head'
unfolding Chain
trail_put {k} {v} {r} {head} {head'} {cells} {cells'} h l p u e S old T =
    let x = 4 * head + v in
    rw S.first (record {
      count = suc T.count;
      chain = record {
        here = rw (stored-long S) h;
        inner = l;
        set_here = rw (S.is, first-same cells k x r h) (omega arith);
        rest = rw (stored-previous S h u (trail_low T), S.is, cleared-stored cells k x r e) T.chain;
      };
    })

-- ---- undoing

-- how many words are not 0
unfoldable pub some : List ℕ → ℕ
some [] = 0
some (zero ∷ cs) = some cs
some (suc c ∷ cs) = suc (some cs)

some-le : (cells : List ℕ) (k : ℕ) → some (set cells k 0) ≤ some cells
unfolding some
some-le [] k = omega arith
some-le (zero ∷ cs) zero = omega arith
some-le (suc c ∷ cs) zero = omega arith
some-le (zero ∷ cs) (suc k) = some-le cs k
some-le (suc c ∷ cs) (suc k) = omega (arith, some-le cs k)

some_less : (cells : List ℕ) (k : ℕ) → k < length cells → 0 < get_or cells k 0 → some (set cells k 0) < some cells
unfolding some
some_less [] k h l = absurd (omega arith)
some_less (zero ∷ cs) zero h l = absurd (omega arith)
some_less (suc c ∷ cs) zero h l = omega arith
some_less (zero ∷ cs) (suc k) h l = some_less cs k (omega arith) l
some_less (suc c ∷ cs) (suc k) h l = omega (arith, some_less cs k (omega arith) l)

cleared_less : (cells : List ℕ) (k : ℕ) → HasCell cells k → 0 < get_or cells (2 * k) 0 → some (cleared cells k) < some cells
unfolding cleared
cleared_less cells k h l = omega (arith, some-le (set cells (2 * k) 0) (2 * k + 1), some_less cells (2 * k) (omega arith) l)

-- while the chain is undone: whatever the cells were, they are on the way back there
pub record Undone (cells₀ : List ℕ) (head₀ : ℕ) (cells : List ℕ) (head : ℕ) : Type 0 where
  pub some-old : (old : List ℕ) × Trail old cells head
  pub keeps : (old : List ℕ) → Trail old cells₀ head₀ → Trail old cells head

pub undone_start : {cells : List ℕ} {head : ℕ} → ((old : List ℕ) × Trail old cells head) → Undone cells head cells head
undone_start p = record { some-old = p; keeps = λ old T. T }

module _ {cells₀ : List ℕ} {head₀ : ℕ} {cells : List ℕ} {head : ℕ} (U : Undone cells₀ head₀ cells head) where
  pub undone_here : {k : ℕ} → k ≡ head → (head ≡ end → ⊥) → HasCell cells k
  undone_here i e = rw i (trail_link U.some-old.1 e).here

  pub undone_less : {k : ℕ} {cells' : List ℕ} → k ≡ head → (head ≡ end → ⊥) → cells' ≡ cleared cells k → some cells' < some cells
  undone_less i e c = let l = trail_link U.some-old.1 e in rw (c, i) (cleared_less cells head l.here l.set_here)

  pub undone_step : {k p : ℕ} {cells' : List ℕ} → k ≡ head → (head ≡ end → ⊥) → cells' ≡ cleared cells k → p ≡ previous cells k → Undone cells₀ head₀ cells' p
  undone_step i e c h = rw (c, h, i) (record {
    some-old = (U.some-old.0, (trail_link U.some-old.1 e).rest);
    keeps = λ old T. (trail_link (U.keeps old T) e).rest;
  })

  pub undone-end : head ≡ end → (old : List ℕ) → Trail old cells₀ head₀ → cells ≡ old
  undone-end e old T = trail-end (U.keeps old T) e
