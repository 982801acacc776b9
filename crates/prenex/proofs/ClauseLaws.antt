-- Clauses, step by step: codes, chains, the frames that are left to write and the frames that clauses end with. Assumes nothing.
use Rattle.std.specs.Prelude.{ℕ, zero, suc, ◌+◌, ◌-◌, ◌*◌, ◌≤◌, ◌<◌, Bool, true, false, List, [], ◌∷◌, map, ◌≡◌, eqb, length, get_or, drop, set}
use Rattle.std.proofs.Common.{add-zero, arith, sym, ap, ◌∙◌, length-drop, drop_of_length-le, drop-cons}
use Rattle.std.proofs.Math.Nat.{add-suc, suc-add}
use Rattle.std.proofs.Math.Numerals.{add-one}
use Rattle.std.proofs.Math.Path.{refl}
use Rattle.std.proofs.lemmas.List.{length-map}
use Rattle.std.proofs.lemmas.List.Edits.{sets}
use borrow.Author.Tests.{ne_eqb}
use Rattle.words.proofs.Logic.{by_bool, clash}
use Rattle.sheet.specs.declared.Kind.{Kind}
use Rattle.sheet.specs.declared.Kind.TheVariants.{And, Or}
use Rattle.prenex.specs.declared.clause.Link.{Link}
use Rattle.prenex.specs.Question.{Literal, Clause, Every, every-none, every_one}
use Rattle.prenex.specs.Kinds.{variables, count, chain, chain_end, frame_by, clause_kinds, clause_ends, conjunction_kinds, frame_bytes, sheet_bytes}
use Rattle.prenex.specs.Code.{literal_of, to_first, clauses_of, kinds_within, ends_within}
use Rattle.prenex.specs.Writing.{Linked, Members, Clauses}
use Rattle.prenex.proofs.StoreLaws.{store_frame, sheet-none}
use Rattle.prenex.proofs.MatrixLaws.{clauses-length}
use Rattle.prenex.proofs.LiteralLaws.{variable-below}
use Rattle.prenex.specs.ClauseLaws.{Below, Going, Joining, Left, Short, Some, Unstored, conjunction_left}

-- ---- a count is at most how many there are

pub count-few : (p : ℕ → Bool) (x n : ℕ) → count p x n ≤ n
unfolding count
count-few p x zero = omega arith
count-few p x (suc n) = by_bool (p x) (λ e. rw e (omega (arith, count-few p (suc x) n))) (λ e. rw e (omega (arith, count-few p (suc x) n)))

-- ---- the frame of a literal

pub frame_negative : (p q : ℕ → Bool) (l : Literal) → l.negative ≡ true → frame_by p q l ≡ count p 0 variables + count q 0 l.variable
unfolding frame_by
frame_negative p q l e = rw e

pub frame-positive : (p q : ℕ → Bool) (l : Literal) → l.negative ≡ false → frame_by p q l ≡ count p 0 l.variable
unfolding frame_by
frame-positive p q l e = rw e

pub frame-few : (p q : ℕ → Bool) (l : Literal) → l.variable < 32 → frame_by p q l ≤ 64
unfolding frame_by
frame-few p q l h =
    by_bool l.negative
    (λ e. rw e (omega (arith, count-few p 0 variables, count-few q 0 l.variable)))
    (λ e. rw e (omega (arith, count-few p 0 l.variable)))

-- ---- the clauses of codes

module _ (l : List ℕ) (i : ℕ) (h : i < length l) where
  pub at-end : get_or l i 0 ≡ 0 → clauses_of (drop i l) ≡ [] ∷ clauses_of (drop (i + 1) l)
  unfolding clauses_of
  at-end e = rw (drop-cons l i 0 h, e, add-one i)

  pub at_literal_lem : (get_or l i 0 ≡ 0 → ⊥) → clauses_of (drop i l) ≡ to_first (literal_of (get_or l i 0)) (clauses_of (drop (i + 1) l))
  unfolding clauses_of
  at_literal_lem e = rw (drop-cons l i 0 h, ne_eqb (get_or l i 0) 0 e, add-one i)

some_first : (l : Literal) (cs : List Clause) → Some (to_first l cs)
unfolding to_first
some_first l [] = record { first = l ∷ []; others = []; are = refl }
some_first l (c ∷ cs) = record { first = l ∷ c; others = cs; are = refl }

some-clause : (l : List ℕ) → 0 < length l → Some (clauses_of l)
unfolding clauses_of
some-clause [] h = absurd (omega arith)
some-clause (c ∷ l) h =
    by_bool (eqb c 0)
    (λ e. rw e (record { first = []; others = clauses_of l; are = refl }))
    (λ e. rw e (some_first (literal_of c) (clauses_of l)))

-- behind a literal there is one
pub behind-literal : (l : List ℕ) (i : ℕ) → i + 1 < length l → Some (clauses_of (drop (i + 1) l))
behind-literal l i h = some-clause (drop (i + 1) l) (omega (arith, length-drop (i + 1) l))

below-first : (l : Literal) (cs : List Clause) → l.variable < 32 → Every Below cs → Every Below (to_first l cs)
unfolding to_first
below-first l [] h w = every_one (every_one h every-none) every-none
below-first l (c ∷ cs) h (every_one b w) = every_one (every_one h b) w

pub variables-below : (l : List ℕ) → ((i : ℕ) → get_or l i 0 ≤ 64) → Every Below (clauses_of l)
unfolding clauses_of
variables-below [] h = every-none
variables-below (c ∷ l) h =
    let w = variables-below l (λ i. h (suc i)) in
    by_bool (eqb c 0)
    (λ e. rw e (every_one every-none w))
    (λ e. rw e (below-first (literal_of c) (clauses_of l) (variable-below c (literal_of c).variable (h zero) refl) w))

module _ {all : List Kind} {n₀ : ℕ} {out₀ : List ℕ} where
  pub left-same : {left left' : List Kind} {n : ℕ} {out : List ℕ} → left ≡ left' → Left all n₀ out₀ left n out → Left all n₀ out₀ left' n out
  left-same {n = n} {out = out} e h =
      record { frames_are = h.frames_are ∙ ap (λ (l : List Kind). n + length l) e; bytes_are = h.bytes_are ∙ ap (λ (l : List Kind). sets out (n * 4) (sheet_bytes l)) e }

  -- one frame is written
  pub left-next : {k : Kind} {left : List Kind} {n : ℕ} {out out' : List ℕ} → Left all n₀ out₀ (k ∷ left) n out → out' ≡ sets out (n * 4) (frame_bytes k) → Left all n₀ out₀ left (n + 1) out'
  left-next {k} {left} {n} {out} h e = record { frames_are = omega (arith, h.frames_are); bytes_are = h.bytes_are ∙ store_frame k left out n ∙ rw e }

  -- and all are
  pub left-none : {n : ℕ} {out : List ℕ} → Left all n₀ out₀ [] n out → (n ≡ n₀ + length all) × (out ≡ sets out₀ (n₀ * 4) (sheet_bytes all))
  left-none {n} {out} h = (omega (arith, h.frames_are), sym (h.bytes_are ∙ rw sheet-none))

module _ {all ends₀ : List ℕ} where
  pub unstored_same : {left left' : List ℕ} {k : ℕ} {ends : List ℕ} → left ≡ left' → Unstored all ends₀ left k ends → Unstored all ends₀ left' k ends
  unstored_same {k = k} {ends = ends} e h =
      record { count-is = h.count-is ∙ ap (λ (l : List ℕ). k + length l) e; numbers_are = h.numbers_are ∙ ap (sets ends k) e }

  pub unstored_next : {a k : ℕ} {left ends ends' : List ℕ} → Unstored all ends₀ (a ∷ left) k ends → ends' ≡ set ends k a → Unstored all ends₀ left (k + 1) ends'
  unstored_next {a} {k} {left} h e = record { count-is = omega (arith, h.count-is); numbers_are = h.numbers_are ∙ rw (e, add-one k) }

module _ (f : Literal → ℕ) where
  no-kinds : (n : ℕ) → clause_kinds f (clauses_of []) n ≡ []
  unfolding clause_kinds clauses_of
  no-kinds n = refl

  no-ends : (n : ℕ) → clause_ends f (clauses_of []) n ≡ []
  unfolding clause_ends clauses_of
  no-ends n = refl

  -- the end of a clause that has no literal, and of one that has come to frame a
  none-kinds : (cs : List Clause) (n : ℕ) → clause_kinds f ([] ∷ cs) n ≡ clause_kinds f cs n
  unfolding clause_kinds
  none-kinds cs n = refl

  none-ends : (cs : List Clause) (n : ℕ) → clause_ends f ([] ∷ cs) n ≡ clause_ends f cs n
  unfolding clause_ends
  none-ends cs n = refl

  end-kinds : (a : ℕ) (cs : List Clause) (n : ℕ) → kinds_within f a ([] ∷ cs) n ≡ clause_kinds f cs n
  unfolding kinds_within chain
  end-kinds a cs n = rw (add-zero n)

  end-ends : (a : ℕ) (cs : List Clause) (n : ℕ) → ends_within f a ([] ∷ cs) n ≡ a ∷ clause_ends f cs n
  unfolding ends_within chain_end
  end-ends a cs n = rw (add-zero n)

  -- the first literal of a clause, and another one
  first-kinds : (l : Literal) {cs : List Clause} (s : Some cs) (n : ℕ) → clause_kinds f (to_first l cs) n ≡ kinds_within f (f l) cs n
  unfolding clause_kinds kinds_within to_first
  first-kinds l s n = rw s.are

  first_ends : (l : Literal) {cs : List Clause} (s : Some cs) (n : ℕ) → clause_ends f (to_first l cs) n ≡ ends_within f (f l) cs n
  unfolding clause_ends ends_within to_first
  first_ends l s n = rw s.are

  next-kinds : (l : Literal) (a : ℕ) {cs : List Clause} (s : Some cs) (n : ℕ) → kinds_within f a (to_first l cs) n ≡ Or a (f l) ∷ kinds_within f n cs (n + 1)
  unfolding kinds_within to_first chain
  next-kinds l a s n = rw (s.are, add-one n, add-suc n (length s.first), suc-add n (length s.first))

  next-ends : (l : Literal) (a : ℕ) {cs : List Clause} (s : Some cs) (n : ℕ) → ends_within f a (to_first l cs) n ≡ ends_within f n cs (n + 1)
  unfolding ends_within to_first chain_end
  next-ends l a s n = rw (s.are, add-one n, add-suc n (length s.first), suc-add n (length s.first))

-- ---- the loop over the codes of clauses

module _ {l : List ℕ} {f : Literal → ℕ} {n₀ : ℕ} {out₀ ends₀ : List ℕ} where
  pub going_start : Going l f n₀ out₀ ends₀ out₀ ends₀ n₀ 0 0 true 0
  going_start = record {
    within = omega arith;
    more = λ e. clash true refl e;
    frames-few = omega arith;
    ends-few = omega arith;
    near = omega arith;
    kinds = record { frames_are = refl; bytes_are = refl };
    numbers = record { count-is = omega arith; numbers_are = refl };
  }

  module _ {out ends : List ℕ} {n k a : ℕ} {first : Bool} {i : ℕ} (g : Going l f n₀ out₀ ends₀ out ends n k a first i) where
    -- a clause without a literal ends
    pub going_none : i < length l → get_or l i 0 ≡ 0 → first ≡ true → Going l f n₀ out₀ ends₀ out ends n k a true (i + 1)
    going_none h z e = record {
      within = omega arith;
      more = λ w. clash true refl w;
      frames-few = omega (arith, g.frames-few);
      ends-few = omega (arith, g.ends-few);
      near = g.near;
      kinds = left-same (rw e (ap (λ (cs : List Clause). clause_kinds f cs n) (at-end l i h z) ∙ none-kinds f _ n)) g.kinds;
      numbers = unstored_same (rw e (ap (λ (cs : List Clause). clause_ends f cs n) (at-end l i h z) ∙ none-ends f _ n)) g.numbers;
    }

    -- one with a literal
    pub going_end : {ends' : List ℕ} → i < length l → get_or l i 0 ≡ 0 → first ≡ false → ends' ≡ set ends k a → Going l f n₀ out₀ ends₀ out ends' n (k + 1) a true (i + 1)
    going_end h z e s = record {
      within = omega arith;
      more = λ w. clash true refl w;
      frames-few = omega (arith, g.frames-few);
      ends-few = omega (arith, g.ends-few);
      near = g.near;
      kinds = left-same (rw e (ap (λ (cs : List Clause). kinds_within f a cs n) (at-end l i h z) ∙ end-kinds f a _ n)) g.kinds;
      numbers = unstored_next (unstored_same (rw e (ap (λ (cs : List Clause). ends_within f a cs n) (at-end l i h z) ∙ end-ends f a _ n)) g.numbers) s;
    }

    -- a literal more
    pub going_literal : {member : ℕ} {r : Link} {out' : List ℕ} → i + 1 < length l → (get_or l i 0 ≡ 0 → ⊥) → member ≡ f (literal_of (get_or l i 0)) → member ≤ 64
        → Linked first a member n out r out' → Going l f n₀ out₀ ends₀ out' ends r.frames k r.at false (i + 1)
    going_literal {member} {r} {out'} h z m b w =
        by_bool first
        (λ e.
        let at : r.at ≡ member = w.at-is ∙ rw e in
        let frames : r.frames ≡ n = w.frames-is ∙ rw e in
        let bytes : out' ≡ out = w.bytes ∙ rw e in
        rw (at, frames, bytes) (record {
          within = omega arith;
          more = λ _. h;
          frames-few = omega (arith, g.frames-few);
          ends-few = omega (arith, g.ends-few);
          near = omega arith;
          kinds = left-same (rw e (ap (λ (cs : List Clause). clause_kinds f cs n) (at_literal_lem l i (omega arith) z) ∙ first-kinds f _ s n ∙ rw m)) g.kinds;
          numbers = unstored_same (rw e (ap (λ (cs : List Clause). clause_ends f cs n) (at_literal_lem l i (omega arith) z) ∙ first_ends f _ s n ∙ rw m)) g.numbers;
        }))
        (λ e.
        let at : r.at ≡ n = w.at-is ∙ rw e in
        let frames : r.frames ≡ n + 1 = w.frames-is ∙ rw e in
        let bytes : out' ≡ sets out (n * 4) (frame_bytes (Or a member)) = w.bytes ∙ rw e in
        rw (at, frames) (record {
          within = omega arith;
          more = λ _. h;
          frames-few = omega (arith, g.frames-few);
          ends-few = omega (arith, g.ends-few);
          near = omega arith;
          kinds = left-next (left-same (rw e (ap (λ (cs : List Clause). kinds_within f a cs n) (at_literal_lem l i (omega arith) z) ∙ next-kinds f _ a s n ∙ rw m)) g.kinds) bytes;
          numbers = unstored_same (rw e (ap (λ (cs : List Clause). ends_within f a cs n) (at_literal_lem l i (omega arith) z) ∙ next-ends f _ a s n)) g.numbers;
        }))
      where
        s : Some (clauses_of (drop (i + 1) l))
        s = behind-literal l i h

-- ---- the frames that clauses end with

members_one : (n a : ℕ) (l : List ℕ) → a ≤ 64 + (n - 64) → Members n l → Members n (a ∷ l)
members_one n a l h w = record { bound = go }
  where
    go : (i : ℕ) → get_or (a ∷ l) i 0 ≤ 64 + (n - 64)
    go zero = h
    go (suc i) = w.bound i

-- a chain ends before the frame behind it, or where it begins
chain_near : (a : ℕ) (bs : List ℕ) (n : ℕ) → a ≤ 64 + (n - 64) → chain_end a bs n ≤ 64 + ((n + length bs) - 64)
unfolding chain_end
chain_near a [] n h = omega arith
chain_near a (b ∷ bs) n h = omega (arith, chain_near n bs (suc n) (omega arith))

-- each is a literal's, or before the last
pub ends_near : (f : Literal → ℕ) (cs : List Clause) → Every (Short f) cs → (n : ℕ) → Members (n + length (clause_kinds f cs n)) (clause_ends f cs n)
unfolding clause_kinds clause_ends
ends_near f [] w n = record { bound = λ i. omega arith }
ends_near f ([] ∷ cs) (every_one b w) n = ends_near f cs w n
ends_near f ((l ∷ ls) ∷ cs) (every_one (every_one h b) w) n =
    let e : n + length (clause_kinds f ((l ∷ ls) ∷ cs) n) ≡ n + length ls + length (clause_kinds f cs (n + length ls)) = omega (arith, clauses-length f l ls cs n) in
    rw e (members_one _ _ _ (omega (arith, chain_near (f l) (map f ls) n (omega arith), length-map ls f)) (ends_near f cs w (n + length ls)))

every_more : {A : Type 0} {P Q : A → Type 0} → ((a : A) → P a → Q a) → {l : List A} → Every P l → Every Q l
every_more h every-none = every-none
every_more h (every_one {a = a} p w) = every_one (h a p) (every_more h w)

pub frames-short : (p q : ℕ → Bool) (l : List ℕ) → ((i : ℕ) → get_or l i 0 ≤ 64) → Every (Short (frame_by p q)) (clauses_of l)
frames-short p q l h = every_more (λ c w. every_more (λ k b. frame-few p q k b) w) (variables-below l h)

-- the codes are over, and so is the last clause
pub going_done : {l : List ℕ} {f : Literal → ℕ} {n₀ : ℕ} {out₀ ends₀ out ends : List ℕ} {n k a : ℕ} {first : Bool} {i : ℕ} → Going l f n₀ out₀ ends₀ out ends n k a first i
    → length l ≤ i → Every (Short f) (clauses_of l) → Clauses l f n₀ out₀ ends₀ (record { frames = n; ends = k }) out ends
going_done {l} {f} {n₀} {out₀} {ends₀} {out} {ends} {n} {k} {a} {first} {i} g h w =
    by_bool first
    (λ e.
    let kinds : Left (clause_kinds f (clauses_of l) n₀) n₀ out₀ [] n out = left-same (rw (e, drop_of_length-le l h) (no-kinds f n)) g.kinds in
    let numbers : Unstored (clause_ends f (clauses_of l) n₀) ends₀ [] k ends = unstored_same (rw (e, drop_of_length-le l h) (no-ends f n)) g.numbers in
    let t = left-none kinds in record {
      frames-is = t.0;
      frames-few = omega (arith, g.frames-few, g.within);
      ends_is = omega (arith, numbers.count-is);
      ends-few = omega (arith, g.ends-few, g.within);
      members = rw t.0 (ends_near f (clauses_of l) w n₀);
      bytes = t.1;
      stored = sym numbers.numbers_are;
    })
    (λ e. absurd (omega (arith, g.more e)))

-- ---- the loop over the frames that clauses end with

module _ (l : List ℕ) (i n : ℕ) where
  first_conjunct : i < length l → conjunction_kinds (drop i l) n ≡ chain And (get_or l i 0) (drop (i + 1) l) n
  unfolding conjunction_kinds
  first_conjunct h = rw (drop-cons l i 0 h, add-one i)

  next_conjunct : (a : ℕ) → i < length l → chain And a (drop i l) n ≡ And a (get_or l i 0) ∷ chain And n (drop (i + 1) l) (n + 1)
  unfolding chain
  next_conjunct a h = rw (drop-cons l i 0 h, add-one i, add-one n)

  none_left : (first : Bool) (a : ℕ) → length l ≤ i → conjunction_left first a (drop i l) n ≡ []
  unfolding conjunction_kinds chain
  none_left first a h = rw (drop_of_length-le l h) (by_bool first (λ e. rw e) (λ e. rw e))

module _ {l : List ℕ} {n₀ : ℕ} {out₀ : List ℕ} where
  pub joining_start : Members n₀ l → Joining l n₀ out₀ out₀ n₀ 0 true 0
  joining_start m = record {
    members = m;
    within = omega arith;
    frames-some = omega arith;
    frames-few = omega arith;
    near = omega arith;
    kinds = record { frames_are = refl; bytes_are = refl };
  }

  module _ {out : List ℕ} {n a : ℕ} {first : Bool} {i : ℕ} (g : Joining l n₀ out₀ out n a first i) where
    pub joining_first : {member : ℕ} → i < length l → first ≡ true → member ≡ get_or l i 0 → Joining l n₀ out₀ out n member false (i + 1)
    joining_first h e m = record {
      members = g.members;
      within = omega arith;
      frames-some = g.frames-some;
      frames-few = omega (arith, g.frames-few);
      near = omega (arith, g.members.bound i, g.frames-some);
      kinds = left-same (rw (e, m) (first_conjunct l i n h)) g.kinds;
    }

    pub joining_next : {member : ℕ} {out' : List ℕ} → i < length l → first ≡ false → member ≡ get_or l i 0 → out' ≡ sets out (n * 4) (frame_bytes (And a member))
        → Joining l n₀ out₀ out' (n + 1) n false (i + 1)
    joining_next h e m b = record {
      members = g.members;
      within = omega arith;
      frames-some = omega (arith, g.frames-some);
      frames-few = omega (arith, g.frames-few);
      near = omega arith;
      kinds = left-next (left-same (rw (e, m) (next_conjunct l i n a h)) g.kinds) b;
    }

    pub joining_done : length l ≤ i
        → (n ≡ n₀ + length (conjunction_kinds l n₀)) × (n ≤ n₀ + length l) × (out ≡ sets out₀ (n₀ * 4) (sheet_bytes (conjunction_kinds l n₀)))
    joining_done h =
        let t = left-none (left-same (none_left l i n first a h) g.kinds) in
        (t.0, omega (arith, g.frames-few, g.within), t.1)
