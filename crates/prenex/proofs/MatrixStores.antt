-- The frames of the matrix, one part after the other: inputs, negations, clauses, their conjunction. Assumes nothing.
use Rattle.std.specs.Prelude.{ℕ, ◌+◌, ◌*◌, ◌≤◌, Bool, List, ◌++◌, map, ◌≡◌, refl, length, take, drop}
use Rattle.std.proofs.Common.{zero-add, arith, sym, ap, ◌∙◌, length-append, take_at}
use Rattle.std.proofs.lemmas.List.{length-map}
use Rattle.std.proofs.lemmas.List.Edits.{sets}
use Rattle.std.proofs.Math.Seq.{length-sets}
use Rattle.words.proofs.Stores.{sets-start}
use Rattle.sheet.specs.declared.Kind.{Kind}
use Rattle.sheet.specs.declared.Kind.TheVariants.{Input, Not}
use Rattle.prenex.specs.declared.clause.Chained.{Chained}
use Rattle.prenex.specs.Question.{Literal, Clause, occurs, negated}
use Rattle.prenex.specs.Kinds.{variables, having, count, frame_by, clause_kinds, clause_ends, conjunction_kinds, input_kinds, negation_kinds, input_frame, inputs, negations, literal_kinds, disjunction_kinds, matrix_kinds, sheet_bytes}
use Rattle.prenex.specs.Code.{clauses_of}
use Rattle.prenex.specs.Writing.{Members, Clauses}
use Rattle.prenex.proofs.CountLaws.{having-length}
use Rattle.prenex.proofs.StoreLaws.{store_append}
use Rattle.prenex.specs.MatrixStores.{Written}

-- ---- the parts, where p are the variables with an input and q those with a negation

module _ (p q : ℕ → Bool) where
  abbrev pub inputs_by : List Kind
  inputs_by = map Input (having p 0 variables)

  abbrev pub negations_by : List Kind
  negations_by = map (λ x. Not (count p 0 x)) (having q 0 variables)

  abbrev pub literals_by : ℕ
  literals_by = count p 0 variables + count q 0 variables

  abbrev pub clauses_by : List Clause → List Kind
  clauses_by cs = inputs_by ++ negations_by ++ clause_kinds (frame_by p q) cs literals_by

  abbrev pub matrix_by : List Clause → List Kind
  matrix_by cs = clauses_by cs ++ conjunction_kinds (clause_ends (frame_by p q) cs literals_by) (length (clauses_by cs))

matrix-occurring : (cs : List Clause) → matrix_kinds cs ≡ matrix_by (occurs cs) (negated cs) cs
unfolding matrix_kinds literal_kinds disjunction_kinds input_kinds negation_kinds input_frame inputs negations
matrix-occurring cs = refl

pub matrix-by : (p q : ℕ → Bool) (cs : List Clause) → p ≡ occurs cs → q ≡ negated cs → matrix_kinds cs ≡ matrix_by p q cs
matrix-by p q cs e h = rw (e, h) (matrix-occurring cs)

written-more : {out₀ : List ℕ} {ks : List Kind} {n : ℕ} {out : List ℕ} → Written out₀ ks n out → (js : List Kind) {n' : ℕ} {out' : List ℕ}
    → n' ≡ n + length js → out' ≡ sets out (n * 4) (sheet_bytes js) → Written out₀ (ks ++ js) n' out'
written-more {out₀} {ks} {n} {out} w js {n'} {out'} e h = record {
  frames = omega (arith, e, w.frames, length-append ks js);
  bytes = h ∙ rw (w.bytes, w.frames) (sym (store_append ks js out₀ 0 ∙ rw zero-add));
}

-- the inputs, and then the negations
pub literals-written : (p q : ℕ → Bool) {i m : ℕ} {out₀ out₁ out₂ : List ℕ} → i ≡ count p 0 variables → out₁ ≡ sets out₀ 0 (sheet_bytes (inputs_by p q))
    → m ≡ i + count q 0 variables → out₂ ≡ sets out₁ (i * 4) (sheet_bytes (negations_by p q)) → Written out₀ (inputs_by p q ++ negations_by p q) m out₂
literals-written p q {i} {m} {out₀} {out₁} {out₂} ei bi em bm =
    let a : Written out₀ (inputs_by p q) i out₁ = record { frames = ei ∙ sym (length-map (having p 0 variables) Input ∙ having-length p 0 variables); bytes = bi } in
    written-more a (negations_by p q)
    (em ∙ ap (λ (k : ℕ). i + k) (sym (length-map (having q 0 variables) (λ (x : ℕ). Not (count p 0 x)) ∙ having-length q 0 variables))) bm

-- the numbers that are stored at the start of an array with room for them
stored-at-start : (l ends ends' : List ℕ) (k : ℕ) → k ≡ length l → k ≤ length ends → ends' ≡ sets ends 0 l → take k ends' ≡ l
stored-at-start l ends ends' k e h s = ap (take k) (s ∙ sets-start l ends (omega arith)) ∙ take_at l (drop (length l) ends) k (sym e)

-- ---- the clauses, as the code has them

module _ {codes out₂ out₃ ends ends' : List ℕ} {f : Literal → ℕ} {m : ℕ} {r : Chained} (w : Clauses codes f m out₂ ends r out₃ ends') where
  pub ends-take : r.ends ≤ length ends → take r.ends ends' ≡ clause_ends f (clauses_of codes) m
  ends-take h = stored-at-start (clause_ends f (clauses_of codes) m) ends ends' r.ends w.ends_is h w.stored

  pub ends_members : r.ends ≤ length ends → Members r.frames (take r.ends ends')
  ends_members h = rw (ends-take h) w.members

  pub ends-room : length ends' ≡ length ends
  ends-room = ap length w.stored ∙ length-sets ends 0 (clause_ends f (clauses_of codes) m)

-- all of the matrix
pub matrix-written : (p q : ℕ → Bool) {codes out₀ out₂ out₃ out ends ends' : List ℕ} {m n : ℕ} {r : Chained} → p ≡ occurs (clauses_of codes) → q ≡ negated (clauses_of codes)
    → Written out₀ (inputs_by p q ++ negations_by p q) m out₂ → m ≡ literals_by p q → Clauses codes (frame_by p q) m out₂ ends r out₃ ends' → r.ends ≤ length ends
    → n ≡ r.frames + length (conjunction_kinds (take r.ends ends') r.frames) → out ≡ sets out₃ (r.frames * 4) (sheet_bytes (conjunction_kinds (take r.ends ends') r.frames))
    → Written out₀ (matrix_kinds (clauses_of codes)) n out
matrix-written p q {codes} {out₀} {out₂} {out₃} {out} {ends} {ends'} {m} {n} {r} ep eq a em w h en bn =
    let cs = clauses_of codes in
    let b : Written out₀ (clauses_by p q cs) r.frames out₃ = rw (← em) (written-more a (clause_kinds (frame_by p q) cs m) w.frames-is w.bytes) in
    let e : conjunction_kinds (take r.ends ends') r.frames ≡ conjunction_kinds (clause_ends (frame_by p q) cs (literals_by p q)) (length (clauses_by p q cs)) =
    ap (λ (l : List ℕ). conjunction_kinds l r.frames) (ends-take w h ∙ ap (clause_ends (frame_by p q) cs) em)
    ∙ ap (conjunction_kinds (clause_ends (frame_by p q) cs (literals_by p q))) b.frames in
    rw (matrix-by p q cs ep eq)
    (written-more b _ (en ∙ ap (λ (js : List Kind). r.frames + length js) e) (bn ∙ ap (λ (js : List Kind). sets out₃ (r.frames * 4) (sheet_bytes js)) e))
