-- Twins of ASK and WHY with gauges that compute: a quantifier over a mask goes as deep as there are variables, and nothing is computed that is not read.
-- Each is proved equal to its definition. Assumes nothing.
use Rattle.std.specs.Prelude.{ℕ, zero, suc, ◌+◌, ◌-◌, ◌^◌, ◌<◌, ◌≡◌, refl, Bool, ltb}
use Rattle.std.proofs.Common.{arith, add-zero, add-suc, sym, ◌∙◌}
use Rattle.std.proofs.Math.Path.{ap, fun_ext}
use Rattle.std.proofs.Math.Bool.{true, false}
use Rattle.std.specs.Int.Bits.{bit_or}
use Rattle.words.specs.Logic.{tests}
use Rattle.words.proofs.Logic.{by_bool}
use Rattle.words.specs.Word.{bit}
use Rattle.words.proofs.Bits.{bit_high}
use Rattle.words.proofs.Mask.{sub-lt}
use Rattle.formula.specs.Formula.{Formula}
use Rattle.formula.specs.Over.{quants, over}
use Rattle.formula.proofs.Over.{below-pow}
use Rattle.formula.specs.Least.{least}
use Rattle.formula.proofs.Ask.{free_mask-lt}
use Rattle.formula.specs.Gauges.{unread, ours, possible, assured, fails, verdict, reason}
use Rattle.formula.proofs.GaugeLaws.{unread-free, ours-free}
use Rattle.formula.proofs.Compute.{truth_over-truth, ask_over-ask, reduce_over-reduce, why_over-why}
use Rattle.formula.specs.GaugeCompute.{assured_over, fails_over, least_over, possible_over, quants_over, reason_over, verdict_over}

quants_over-quants : (d : Bool) (m n : ℕ) (f : Formula) → quants_over d m n f ≡ quants d m n f
unfolding quants_over quants
quants_over-quants d m zero f = refl
quants_over-quants d m (suc n) f = rw (quants_over-quants d m n f)

-- above its last place a mask has no variable
quants-above : (d : Bool) (m n : ℕ) (f : Formula) → m < 2 ^ n → (r : ℕ) → quants d m (n + r) f ≡ quants d m n f
unfolding quants
quants-above d m n f h zero = rw (add-zero n)
quants-above d m n f h (suc r) = rw (add-suc n r, bit_high n (n + r) h (omega arith)) (quants-above d m n f h r)

quants_over-over : (d : Bool) (m n : ℕ) (f : Formula) → m < 2 ^ n → quants_over d m n f ≡ over d m f
unfolding over
quants_over-over d m n f h =
    quants_over-quants d m n f
    ∙ by_bool (ltb m n)
    (λ t. let e : n ≡ m + (n - m) = omega tests in ap (λ (k : ℕ). quants d m k f) e ∙ quants-above d m m f (below-pow m) (n - m))
    (λ t. let e : m ≡ n + (m - n) = omega tests in sym (ap (λ (k : ℕ). quants d m k f) e ∙ quants-above d m n f h (m - n)))

-- ---- what ASK asks

module _ (n : ℕ) (f : Formula) (g mask : ℕ) where
  possible_over-possible : (possible_over n f g mask) ≡ possible n f g mask
  unfolding possible_over possible
  possible_over-possible = quants_over-over true (ours n f g mask) n f (sub-lt n (ours-free n f g mask) (free_mask-lt n f))

  pub assured_over-assured : (assured_over n f g mask) ≡ assured n f g mask
  unfolding assured_over assured
  assured_over-assured =
      quants_over-over false (unread n f g mask) n (possible_over n f g mask) (sub-lt n (unread-free n f g mask) (free_mask-lt n f))
      ∙ ap (over false (unread n f g mask)) possible_over-possible

least_over-least : (p : ℕ → Bool) (b c : ℕ) → least_over p b c ≡ least p b c
unfolding least_over least
least_over-least p b zero = refl
least_over-least p b (suc c) = rw (least_over-least p (suc b) c)

fails_over-fails : (n : ℕ) (f : Formula) (g mask values : ℕ) → fails_over (possible_over n f g mask) (unread n f g mask) values ≡ fails n f g mask values
unfolding fails_over fails
fails_over-fails n f g mask values = fun_ext (λ z. rw (truth_over-truth (possible_over n f g mask) (bit (values + z)), possible_over-possible n f g mask))

pub verdict_over-verdict : (n : ℕ) (f : Formula) (g mask values : ℕ) → verdict_over n f g mask values ≡ verdict n f g mask values
unfolding verdict_over verdict
verdict_over-verdict n f g mask values =
    rw (
      truth_over-truth (assured_over n f g mask) (bit values),
      assured_over-assured n f g mask,
      ask_over-ask n f (bit_or mask (unread n f g mask)) values,
      fails_over-fails n f g mask values,
      least_over-least,
    )

pub reason_over-reason : (n : ℕ) (f : Formula) (g mask values : ℕ) → reason_over n f g mask values ≡ reason n f g mask values
unfolding reason_over reason
reason_over-reason n f g mask values =
    rw (verdict_over-verdict n f g mask values, why_over-why n f mask values, assured_over-assured n f g mask, reduce_over-reduce)
