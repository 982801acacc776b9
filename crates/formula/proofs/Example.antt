-- Worked examples, computed at 32 variables. Assumes nothing.
use Rattle.std.specs.Prelude.{ℕ, ◌≡◌, refl, Bool, true, false}
use Rattle.std.proofs.Common.{sym, ◌∙◌}
use Rattle.words.specs.Word.{bit}
use Rattle.words.specs.Mask.{without, inside, mask_of}
use Rattle.formula.specs.Assignment.{assign, within, join}
use Rattle.formula.specs.Formula.{Formula, input, exists, free}
use Rattle.formula.specs.Ask.{free_mask}
use Rattle.formula.specs.Why.{overlay, start_mask, start_word}
use Rattle.formula.specs.Compute.{sweep_over, truth_over, first_over, ask_over, always_over, reduce_over, why_over}
use Rattle.formula.proofs.Compute.{ask_over-ask, why_over-why}
use Rattle.formula.specs.Example.{Answered, gauges}

computed : (f : Formula) (mask values : ℕ) (holds : Bool) (word reason : ℕ)
    → ask_over 32 f mask values ≡ record { holds = holds; word = word }
    → why_over 32 f mask values ≡ record { holds = holds; word = reason } → Answered f mask values holds word reason
computed f mask values holds word reason a b = record { asked = sym (ask_over-ask 32 f mask values) ∙ a; because = sym (why_over-why 32 f mask values) ∙ b }

-- no entry, and variable 1 entered as 0; a quantifier over every variable; the last variable alone
pub examples :
    Answered gauges 0 0 true 2 2 × Answered gauges 2 0 false 0 2
    × Answered (exists 0 32 (input 0)) 0 0 true 0 0 × Answered (input 31) 0 0 true 2147483648 2147483648
unfolding ask_over why_over first_over truth_over sweep_over always_over reduce_over free_mask mask_of free within join assign overlay start_mask start_word without inside bit
examples = (
  computed gauges 0 0 true 2 2 refl refl,
  computed gauges 2 0 false 0 2 refl refl,
  computed (exists 0 32 (input 0)) 0 0 true 0 0 refl refl,
  computed (input 31) 0 0 true 2147483648 2147483648 refl refl,
)
