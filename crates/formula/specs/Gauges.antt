-- ASK and WHY where some variables are gauges (document 02), which are read off and never chosen. g is the word of the gauges. Assumes nothing.
use Rattle.std.specs.Prelude.{ℕ, suc, ◌+◌, Bool, true, false, not, cond, ◌&&◌, eqb}
use Rattle.std.specs.Int.Bits.{bit_and, bit_or}
use Rattle.words.specs.Word.{bit}
use Rattle.words.specs.Mask.{without, inside}
use Rattle.formula.specs.Formula.{Formula, truth}
use Rattle.formula.specs.Over.{over}
use Rattle.formula.specs.Least.{least}
use Rattle.formula.specs.Ask.{Verdict, yes, free_mask, ask}
use Rattle.formula.specs.Why.{reduce, why}

-- the free variables that are not entered: the gauges among them, and those that are ours to choose
unfoldable pub unread : ℕ → Formula → ℕ → ℕ → ℕ
unread n f g mask = bit_and (without (free_mask n f) mask) g

unfoldable pub ours : ℕ → Formula → ℕ → ℕ → ℕ
ours n f g mask = without (without (free_mask n f) mask) g

-- some setting of what is ours makes f true
unfoldable pub possible : ℕ → Formula → ℕ → ℕ → Formula
possible n f g mask = over true (ours n f g mask) f

-- and so for every setting of the unread gauges: what ASK asks, as a formula of the entered variables
unfoldable pub assured : ℕ → Formula → ℕ → ℕ → Formula
assured n f g mask = over false (unread n f g mask) (possible n f g mask)

-- z is a setting of the unread gauges under which nothing makes f true
unfoldable pub fails : ℕ → Formula → ℕ → ℕ → ℕ → ℕ → Bool
fails n f g mask values z = inside z (unread n f g mask) && not (truth (possible n f g mask) (bit (values + z)))

abbrev pub no_at : ℕ → Verdict
no_at z = record { holds = false; word = z }

-- ASK. Yes: the smallest word with the unread gauges at 0, as if they were entered so. No: the smallest setting of the unread gauges that fails
unfoldable pub verdict : ℕ → Formula → ℕ → ℕ → ℕ → Verdict
verdict n f g mask values =
    let u = unread n f g mask in
    let smallest = yes (ask n f (bit_or mask u) values).word in
    let failing = no_at (least (fails n f g mask values) 0 (suc u)) in
    cond (truth (assured n f g mask) (bit values)) smallest failing

-- WHY. Without a gauge `why`; else from the entered variables on, and one goes if the verdict is the same for all values of those that went
unfoldable pub reason : ℕ → Formula → ℕ → ℕ → ℕ → Verdict
reason n f g mask values =
    let v = (verdict n f g mask values).holds in
    let plain = why n f mask values in
    let gauged : Verdict = record { holds = v; word = reduce n (assured n f g mask) values v n mask } in
    cond (eqb g 0) plain gauged
