-- Clauses, step by step: codes, chains, the frames that are left to write and the frames that clauses end with. Assumes nothing.
use Rattle.std.specs.Prelude.{ℕ, ◌+◌, ◌-◌, ◌*◌, ◌≤◌, ◌<◌, Bool, false, cond, List, ◌∷◌, ◌≡◌, length, drop}
use Rattle.std.proofs.lemmas.List.Edits.{sets}
use Rattle.sheet.specs.declared.Kind.{Kind}
use Rattle.sheet.specs.declared.Kind.TheVariants.{And}
use Rattle.prenex.specs.Question.{Literal, Clause, Every}
use Rattle.prenex.specs.Kinds.{chain, clause_kinds, clause_ends, conjunction_kinds, sheet_bytes}
use Rattle.prenex.specs.Code.{clauses_of, kinds_within, ends_within}
use Rattle.prenex.specs.Writing.{Members}

-- one clause or more
pub record Some (cs : List Clause) : Type 0 where
  pub first : Clause
  pub others : List Clause
  pub are : cs ≡ first ∷ others

-- ---- the variables of codes

abbrev pub Below : Clause → Type 0
Below = Every (λ (k : Literal). k.variable < 32)

-- ---- the frames that are left to write

-- from frame n₀ of out₀ on all, which is from frame n of out on what is left
pub record Left (all : List Kind) (n₀ : ℕ) (out₀ : List ℕ) (left : List Kind) (n : ℕ) (out : List ℕ) : Type 0 where
  pub frames_are : n₀ + length all ≡ n + length left
  pub bytes_are : sets out₀ (n₀ * 4) (sheet_bytes all) ≡ sets out (n * 4) (sheet_bytes left)

-- the numbers that are left to store
pub record Unstored (all ends₀ left : List ℕ) (k : ℕ) (ends : List ℕ) : Type 0 where
  pub count-is : length all ≡ k + length left
  pub numbers_are : sets ends₀ 0 all ≡ sets ends k left

-- ---- what is left at the start of a clause, and within one

abbrev pub kinds_left : (Literal → ℕ) → Bool → ℕ → List Clause → ℕ → List Kind
kinds_left f first a cs n = cond first (clause_kinds f cs n) (kinds_within f a cs n)

abbrev pub ends_left : (Literal → ℕ) → Bool → ℕ → List Clause → ℕ → List ℕ
ends_left f first a cs n = cond first (clause_ends f cs n) (ends_within f a cs n)

-- at code i there are n frames, k clauses have ended, and the chain of this one has come to frame a
pub record Going (l : List ℕ) (f : Literal → ℕ) (n₀ : ℕ) (out₀ ends₀ out ends : List ℕ) (n k a : ℕ) (first : Bool) (i : ℕ) : Type 0 where
  pub within : i ≤ length l
  -- a clause is not over with the codes
  pub more : first ≡ false → i < length l
  pub frames-few : n ≤ n₀ + i
  pub ends-few : k ≤ i
  pub near : a ≤ 64 + (n - 64)
  pub kinds : Left (clause_kinds f (clauses_of l) n₀) n₀ out₀ (kinds_left f first a (clauses_of (drop i l)) n) n out
  pub numbers : Unstored (clause_ends f (clauses_of l) n₀) ends₀ (ends_left f first a (clauses_of (drop i l)) n) k ends

abbrev pub Short : (Literal → ℕ) → Clause → Type 0
Short f = Every (λ (k : Literal). f k ≤ 64)

abbrev pub conjunction_left : Bool → ℕ → List ℕ → ℕ → List Kind
conjunction_left first a l n = cond first (conjunction_kinds l n) (chain And a l n)

-- at number i there are n frames, and the chain has come to frame a
pub record Joining (l : List ℕ) (n₀ : ℕ) (out₀ out : List ℕ) (n a : ℕ) (first : Bool) (i : ℕ) : Type 0 where
  pub members : Members n₀ l
  pub within : i ≤ length l
  pub frames-some : n₀ ≤ n
  pub frames-few : n ≤ n₀ + i
  pub near : a ≤ 64 + (n - 64)
  pub kinds : Left (conjunction_kinds l n₀) n₀ out₀ (conjunction_left first a (drop i l) n) n out
