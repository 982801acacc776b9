-- Twins of truth, ask, always and why that compute: they visit only the variables that the formula has, and stop where a value is decided.
-- (What a `let` binds is computed only where it is read.) Each is proved equal to its definition. Assumes nothing.
use Prim.Native.Nat.{ℕ, zero, suc, ◌+◌, ◌^◌}
use Rattle.std.specs.Prelude.{Bool, true, false, not, cond, ◌&&◌}
use Rattle.std.specs.Bool.{beq}
use Rattle.words.specs.Word.{bit}
use Rattle.words.specs.Mask.{without, inside}
use Rattle.formula.specs.Assignment.{Assignment, assign, join}
use Rattle.formula.specs.Formula.{Formula, never, input, neg, gate, quant, free}
use Rattle.formula.specs.Ask.{Verdict, yes, no, free_mask, ask}
use Rattle.formula.specs.Why.{overlay, start_mask, start_word}

-- ---- truth

-- the join over the assignments of those of the c variables from b on that m marks
unfoldable pub sweep_over : Bool → (ℕ → Bool) → ℕ → ℕ → (Assignment → Bool) → Assignment → Bool
sweep_over d m b zero p σ = p σ
sweep_over d m b (suc c) p σ =
    let skip = sweep_over d m (suc b) c p σ in
    let high = sweep_over d m (suc b) c p (assign σ b true) in
    let both = join d (sweep_over d m (suc b) c p (assign σ b false)) high in
    cond (m b) both skip

unfoldable pub truth_over : Formula → Assignment → Bool
truth_over never σ = false
truth_over (input x) σ = σ x
truth_over (neg f) σ = not (truth_over f σ)
truth_over (gate d f g) σ = let r = truth_over g σ in join d (truth_over f σ) r
truth_over (quant d b c f) σ = sweep_over d (free f) b c (λ τ. truth_over f τ) σ

-- ---- ask

-- the first w + y that passes p, where y is made of the places of m below k: from k - 1 down, 0 first
unfoldable pub first_over : (ℕ → Bool) → ℕ → ℕ → ℕ → Verdict
first_over p m zero w = cond (p w) (yes w) no
first_over p m (suc k) w =
    let high = first_over p m k (w + 2 ^ k) in
    let low = first_over p m k w in
    let both = cond low.holds low high in
    cond (bit m k) both low

-- over the free variables that are not entered; where the entries are no entries, the definition itself
unfoldable pub ask_over : ℕ → Formula → ℕ → ℕ → Verdict
ask_over n f mask values =
    let m = free_mask n f in
    let other = ask n f mask values in
    let found = first_over (λ w. truth_over f (bit w)) (without m mask) n values in
    cond (inside mask m && inside values mask) found other

-- ---- always and why

unfoldable pub always_over : ℕ → Formula → ℕ → ℕ → Bool → Bool
always_over n f m w v = sweep_over false (λ k. free f k && not (bit m k)) 0 n (λ σ. beq (truth_over f (overlay m w σ)) v) (bit w)

-- only the variables of m are tested
unfoldable pub reduce_over : ℕ → Formula → ℕ → Bool → ℕ → ℕ → ℕ
reduce_over n f w v zero m = m
reduce_over n f w v (suc k) m =
    let less = without m (2 ^ k) in
    let idle = always_over n f less w v in
    reduce_over n f w v k (cond (bit m k && idle) less m)

unfoldable pub why_over : ℕ → Formula → ℕ → ℕ → Verdict
why_over n f mask values =
    let a = ask_over n f mask values in
    record { holds = a.holds; word = reduce_over n f (start_word a values) a.holds n (start_mask n f a.holds mask) }
