-- Which refusal a line gets, each cause before those that stand after it in the order, and what a refused line answers. Assumes nothing.
use Rattle.std.specs.Prelude.{ℕ, ◌≤◌, ◌<◌, ◌≡◌, refl, true, false, List, [], length}
use Rattle.std.proofs.Common.{arith}
use borrow.Author.Tests.{le-leb, le-ltb, lt-ltb, ne_eqb}
use Rattle.sheet.specs.Refusal as Number
use Rattle.sheet.specs.Rules.{spare_set}
use Rattle.model.specs.declared.Entry.{Entry}
use Rattle.model.specs.Model.{Meaning, entered, refused, reply, ENTER, TAKE-BACK, READ, used, unknown, last_desk, line_refusal, obeyed, line}

module _ (m : Meaning) (es : List Entry) (k a b c : ℕ) where
  -- a refused line answers its number with V 0 and word 0, and the entries stay
  pub line_refused : 0 < line_refusal m es k a b c → line m es k a b c ≡ reply (refused (line_refusal m es k a b c)) es
  unfolding line
  line_refused h = rw (ne_eqb (line_refusal m es k a b c) 0 (λ e. omega arith))

  pub line_taken : line_refusal m es k a b c ≡ 0 → line m es k a b c ≡ obeyed m es k a b c
  unfolding line
  line_taken e = rw (e)

module _ (m : Meaning) (es : List Entry) (a b c : ℕ) where
  pub line-unknown : (k : ℕ) → unknown k a b c ≡ true → line m es k a b c ≡ reply (refused Number.line_unknown) es
  unfolding line line_refusal
  line-unknown k t = rw t

  -- whatever its value and its desk, and entered or not
  pub enter_not_open : m.opens a ≡ false → line m es ENTER a b c ≡ reply (refused Number.enter_not_free) es
  unfolding line line_refusal unknown used spare_set
  enter_not_open o = rw o

  -- whatever its desk, and entered or not
  pub enter-value : m.opens a ≡ true → 1 < b → line m es ENTER a b c ≡ reply (refused Number.enter_value) es
  unfolding line line_refusal unknown used spare_set
  enter-value o v = rw (o, lt-ltb 1 b v)

  -- entered or not
  pub enter-desk : m.opens a ≡ true → b < 2 → last_desk < c → line m es ENTER a b c ≡ reply (refused Number.enter_desk) es
  unfolding line line_refusal unknown used spare_set
  enter-desk o v w = rw (o, le-ltb 1 b (omega arith), lt-ltb last_desk c w)

  pub enter_again : m.opens a ≡ true → b < 2 → c ≤ last_desk → entered es a ≡ true → line m es ENTER a b c ≡ reply (refused Number.entered_twice) es
  unfolding line line_refusal unknown used spare_set
  enter_again o v w f = rw (o, le-ltb 1 b (omega arith), le-ltb last_desk c w, f)

pub read_past : (m : Meaning) (es : List Entry) (i : ℕ) → length es ≤ i → line m es READ i 0 0 ≡ reply (refused Number.no_entry_there) es
unfolding line line_refusal unknown used spare_set
read_past m es i h = rw (le-leb (length es) i h)

pub back_none : (m : Meaning) → line m [] TAKE-BACK 0 0 0 ≡ reply (refused Number.nothing_entered) []
unfolding line line_refusal unknown used spare_set
back_none m = refl
