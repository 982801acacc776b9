-- Assignments of the variables, ranges of variables, and quantification over a range. Assumes nothing.
use Rattle.std.specs.Prelude.{ℕ, zero, suc, ◌+◌, ◌≡◌, Bool, true, false, not, cond, ◌&&◌, ◌||◌, eqb, leb, ltb}

-- document 01's setting: a value for each variable
abbrev pub Assignment : Type 0
Assignment = ℕ → Bool

-- σ with x set to v
unfoldable pub assign : Assignment → ℕ → Bool → Assignment
assign σ x v k = cond (eqb k x) v (σ k)

-- k is one of the c variables from b on
unfoldable pub within : ℕ → ℕ → ℕ → Bool
within b c k = leb b k && ltb k (b + c)

-- or, which true decides; and, which false decides
unfoldable pub join : Bool → Bool → Bool → Bool
join true a b = a || b
join false a b = a && b

-- the join over every assignment of the c variables from b on: for true, some makes p true; for false, every one does
unfoldable pub sweep : Bool → ℕ → ℕ → (Assignment → Bool) → Assignment → Bool
sweep d b zero p σ = p σ
sweep d b (suc c) p σ = join d (sweep d (suc b) c p (assign σ b false)) (sweep d (suc b) c p (assign σ b true))

-- σ and τ agree on the variables that m marks
abbrev pub On : (ℕ → Bool) → Assignment → Assignment → Type 0
On m σ τ = (k : ℕ) → m k ≡ true → σ k ≡ τ k

-- τ differs from σ only in the c variables from b on
abbrev pub Off : ℕ → ℕ → Assignment → Assignment → Type 0
Off b c τ σ = (k : ℕ) → within b c k ≡ false → τ k ≡ σ k

-- masks as sets of variables: none, x alone, either's, m's without x, m's without the c variables from b on
abbrev pub none : ℕ → Bool
none k = false

abbrev pub only : ℕ → ℕ → Bool
only x k = eqb k x

abbrev pub union : (ℕ → Bool) → (ℕ → Bool) → ℕ → Bool
union r q k = r k || q k

abbrev pub except : (ℕ → Bool) → ℕ → ℕ → Bool
except m x k = m k && not (eqb k x)

abbrev pub minus : (ℕ → Bool) → ℕ → ℕ → ℕ → Bool
minus m b c k = m k && not (within b c k)
