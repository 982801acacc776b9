-- Twins of ASK and WHY with gauges that compute: a quantifier over a mask goes as deep as there are variables, and nothing is computed that is not read.
-- Each is proved equal to its definition. Assumes nothing.
use Rattle.std.specs.Prelude.{ℕ, zero, suc, ◌+◌, Bool, not, cond, ◌&&◌, eqb}
use Rattle.std.proofs.Math.Bool.{true, false}
use Rattle.std.specs.Int.Bits.{bit_or}
use Rattle.words.specs.Word.{bit}
use Rattle.words.specs.Mask.{inside}
use Rattle.formula.specs.Formula.{Formula, quant}
use Rattle.formula.specs.Ask.{Verdict, yes}
use Rattle.formula.specs.Gauges.{unread, ours, no_at}
use Rattle.formula.specs.Compute.{truth_over, ask_over, reduce_over, why_over}

-- ---- a quantifier over a mask

unfoldable pub quants_over : Bool → ℕ → ℕ → Formula → Formula
quants_over d m zero f = f
quants_over d m (suc n) f =
    let rest = quants_over d m n f in
    let more = quant d n 1 rest in
    cond (bit m n) more rest

-- ---- what ASK asks

module _ (n : ℕ) (f : Formula) (g mask : ℕ) where
  unfoldable pub possible_over : Formula
  possible_over = quants_over true (ours n f g mask) n f

  unfoldable pub assured_over : Formula
  assured_over = quants_over false (unread n f g mask) n possible_over

-- ---- ASK

-- the first of the c numbers from b on that passes p, or b + c
unfoldable pub least_over : (ℕ → Bool) → ℕ → ℕ → ℕ
least_over p b zero = b
least_over p b (suc c) = let rest = least_over p (suc b) c in cond (p b) b rest

unfoldable pub fails_over : Formula → ℕ → ℕ → ℕ → Bool
fails_over may u values z = let here = not (truth_over may (bit (values + z))) in inside z u && here

unfoldable pub verdict_over : ℕ → Formula → ℕ → ℕ → ℕ → Verdict
verdict_over n f g mask values =
    let u = unread n f g mask in
    let smallest = yes (ask_over n f (bit_or mask u) values).word in
    let failing = no_at (least_over (fails_over (possible_over n f g mask) u values) 0 (suc u)) in
    cond (truth_over (assured_over n f g mask) (bit values)) smallest failing

-- ---- WHY

unfoldable pub reason_over : ℕ → Formula → ℕ → ℕ → ℕ → Verdict
reason_over n f g mask values =
    let v = (verdict_over n f g mask values).holds in
    let plain = why_over n f mask values in
    let gauged : Verdict = record { holds = v; word = reduce_over n (assured_over n f g mask) values v n mask } in
    cond (eqb g 0) plain gauged
