-- The refusal of a line, kind by kind, as the code tests it. Assumes nothing.
use Rattle.std.specs.Prelude.{ℕ, ◌≡◌, true, false, cond, List, length, eqb, leb}
use borrow.Author.Tests.{ne_eqb}
use Rattle.sheet.specs.Refusal as Number
use Rattle.model.specs.declared.Entry.{Entry}
use Rattle.model.specs.Model.{Meaning, entered_mask, ENTER, TAKE-BACK, READ, unknown, line_refusal}
use Rattle.model.proofs.Entries.{bit-entered_mask}
use Rattle.model.specs.Causes.{Opens, enter_cause}

module _ (m : Meaning) (es : List Entry) (k a b c : ℕ) where
  pub refusal-unknown : unknown k a b c ≡ true → line_refusal m es k a b c ≡ Number.line_unknown
  unfolding line_refusal
  refusal-unknown e = rw e

  module _ (known : unknown k a b c ≡ false) where
    pub refusal_enter : (free : ℕ) → Opens m free → k ≡ ENTER → line_refusal m es k a b c ≡ enter_cause free (entered_mask es) a b c
    unfolding line_refusal enter_cause
    refusal_enter free o e = rw (known, e, o a, bit-entered_mask es a)

    pub refusal-take_back : k ≡ TAKE-BACK → line_refusal m es k a b c ≡ cond (eqb (length es) 0) Number.nothing_entered 0
    unfolding line_refusal
    refusal-take_back e = rw (known, e)

    pub refusal_read : k ≡ READ → line_refusal m es k a b c ≡ cond (leb (length es) a) Number.no_entry_there 0
    unfolding line_refusal
    refusal_read e = rw (known, e)

    -- ASK and WHY
    pub refusal_search : (k ≡ ENTER → ⊥) → (k ≡ TAKE-BACK → ⊥) → (k ≡ READ → ⊥) → line_refusal m es k a b c ≡ 0
    unfolding line_refusal
    refusal_search f g h = rw (known, ne_eqb k ENTER f, ne_eqb k TAKE-BACK g, ne_eqb k READ h)
