-- What each kind of line does where no cause refuses it, in document 01's words. Assumes nothing.
use Rattle.std.specs.Prelude.{ℕ, ◌+◌, ◌-◌, ◌≤◌, ◌<◌, ◌≡◌, true, false, eqb}
use Rattle.std.proofs.Common.{arith, sym, ◌∙◌}
use Rattle.std.proofs.Math.Path.{refl, ap, ap₂}
use mathlib.Core.List.{List, [], ◌∷◌, ◌++◌}
use Rattle.std.proofs.Math.ListN.{length, get_or, take, length-append}
use Rattle.std.proofs.Math.Seq.{get_or_at, take_at}
use borrow.Author.Tests.{lt-leb, le-ltb, ne_eqb}
use Rattle.words.proofs.Logic.{by_bool}
use Rattle.formula.specs.Formula.{Formula}
use Rattle.formula.specs.Gauges.{verdict, reason}
use Rattle.sheet.specs.Rules.{spare_set}
use Rattle.model.specs.declared.Entry.{Entry}
use Rattle.model.specs.Model.{Meaning, meaning, no_entry, entered, entered_mask, entered_values, counted, told, judged, reply, ENTER, TAKE-BACK, READ, ASK, WHY, used, unknown, last_desk, line_refusal, obeyed, line}
use Rattle.model.specs.Entries.{entry_at}
use Rattle.model.proofs.Line.{line_taken, line-number}

module _ (m : Meaning) (es : List Entry) where
  -- ENTER puts its variable, value and desk last, and tells how many entries now stand
  pub enter_obeyed : (a b c : ℕ) → obeyed m es ENTER a b c ≡ reply (counted (length es + 1)) (es ++ (record { variable = a; value = b; desk = c } ∷ []))
  unfolding obeyed
  enter_obeyed a b c = refl

  pub enter_line : (a b c : ℕ) → m.opens a ≡ true → b < 2 → c ≤ last_desk → entered es a ≡ false
      → line m es ENTER a b c ≡ reply (counted (length es + 1)) (es ++ (record { variable = a; value = b; desk = c } ∷ []))
  unfolding line_refusal unknown used spare_set
  enter_line a b c o v w f = line_taken m es ENTER a b c (rw (o, le-ltb 1 b (omega arith), le-ltb last_desk c w, f)) ∙ enter_obeyed a b c

  -- TAKE BACK strikes the last entry and tells it
  pub back_obeyed : (e : Entry) (a b c : ℕ) → obeyed m (es ++ (e ∷ [])) TAKE-BACK a b c ≡ reply (told e) es
  unfolding obeyed
  back_obeyed e a b c =
      let l : length (es ++ (e ∷ [])) - 1 ≡ length es = omega (arith, length-append es (e ∷ [])) in
      ap₂ (λ (x : Entry) (left : List Entry). reply (told x) left)
      (ap (λ (i : ℕ). get_or (es ++ (e ∷ [])) i no_entry) l ∙ get_or_at es e [] no_entry (length es) refl)
      (ap (λ (i : ℕ). take i (es ++ (e ∷ []))) l ∙ take_at es (e ∷ []) (length es) refl)

  pub back_line : (e : Entry) → line m (es ++ (e ∷ [])) TAKE-BACK 0 0 0 ≡ reply (told e) es
  unfolding line_refusal unknown used spare_set
  back_line e =
      line_taken m (es ++ (e ∷ [])) TAKE-BACK 0 0 0 (rw (ne_eqb (length (es ++ (e ∷ []))) 0 (λ z. omega (arith, length-append es (e ∷ [])))))
      ∙ back_obeyed e 0 0 0

  -- READ, ASK and WHY change nothing
  pub other-obeyed : (k a b c : ℕ) → eqb k ENTER ≡ false → eqb k TAKE-BACK ≡ false → (obeyed m es k a b c).entries ≡ es
  unfolding obeyed
  other-obeyed k a b c t u = by_bool (eqb k READ) (λ v. rw (t, u, v)) (λ v. by_bool (eqb k ASK) (λ w. rw (t, u, v, w)) (λ w. rw (t, u, v, w)))

  -- READ tells the entry at its place
  pub read_line : (i : ℕ) → i < length es → line m es READ i 0 0 ≡ reply (told (entry_at es i)) es
  unfolding line line_refusal unknown used spare_set obeyed
  read_line i h = rw (lt-leb (length es) i h)

-- ---- ASK and WHY

-- ASK and WHY tell what the definitions say of the entries, and change nothing
module _ (n : ℕ) (f : Formula) (g : ℕ) (es : List Entry) where
  pub ask-line : line (meaning n f g) es ASK 0 0 0 ≡ reply (judged (verdict n f g (entered_mask es) (entered_values es))) es
  unfolding meaning line line_refusal unknown used spare_set obeyed
  ask-line = refl

  pub why-line : line (meaning n f g) es WHY 0 0 0 ≡ reply (judged (reason n f g (entered_mask es) (entered_values es))) es
  unfolding meaning line line_refusal unknown used spare_set obeyed
  why-line = refl

-- a line of the kind ASK or WHY that is not refused, whatever its bytes
module _ (m : Meaning) (es : List Entry) (k a b c : ℕ) (e : (line m es k a b c).answer.number ≡ 0) where
  taken : line m es k a b c ≡ obeyed m es k a b c
  taken = line_taken m es k a b c (sym (line-number m es k a b c) ∙ e)

  pub ask-taken : k ≡ ASK → line m es k a b c ≡ reply (judged (m.asks (entered_mask es) (entered_values es))) es
  unfolding obeyed
  ask-taken h = taken ∙ ap (λ (x : ℕ). obeyed m es x a b c) h

  pub why-taken : k ≡ WHY → line m es k a b c ≡ reply (judged (m.whys (entered_mask es) (entered_values es))) es
  unfolding obeyed
  why-taken h = taken ∙ ap (λ (x : ℕ). obeyed m es x a b c) h
