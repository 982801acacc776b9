-- A line of the reference model is refused exactly if a cause of the rules' table holds, and then it changes nothing. Assumes nothing.
use Prim.Native.Nat.{ℕ, ◌<◌, suc-le-suc}
use Rattle.std.proofs.Common.{arith, sym, ap, ◌∙◌, ltb→lt}
use Rattle.std.specs.Prelude.{◌≡◌, refl, Bool, true, false, not, cond, ◌&&◌, List, length, T, eqb, leb, ltb}
use borrow.Author.Tests.{ltb-false, leb-false}
use Rattle.words.specs.Logic.{tests, not-false}
use Rattle.words.proofs.Logic.{by_bool}
use Rattle.sheet.specs.Refusal as Number
use Rattle.model.specs.declared.Entry.{Entry}
pub use Rattle.model.proofs.Refused.{line_refused, line_taken}
use Rattle.model.specs.Model.{Meaning, entered, refused, Reply, ENTER, TAKE-BACK, READ, ASK, last_desk, line_refusal, obeyed, line}
use Rattle.model.specs.Line.{Passes}

-- the first of the causes does not hold, and neither do the others
cond-zero : (t : Bool) (n r : ℕ) → T (ltb 0 n) → cond t n r ≡ 0 → (t ≡ false) × (r ≡ 0)
cond-zero true n r h e = absurd (omega (arith, ltb→lt 0 n h))
cond-zero false n r h e = (refl, e)

-- a test that was false at a kind
of_kind : (j k : ℕ) (t : Bool) → (eqb k j && t) ≡ false → k ≡ j → t ≡ false
of_kind j k t e s = by_bool (eqb k j) (λ h. rw h at e) (λ h. absurd (omega tests))

unless_kind : (j k : ℕ) (t : Bool) → (k ≡ j → t ≡ false) → (eqb k j && t) ≡ false
unless_kind j k t f = by_bool (eqb k j) (λ h. rw h (f (omega tests))) (λ h. rw h)

not-zero : {n : ℕ} → eqb n 0 ≡ false → 0 < n
not-zero {n} e = omega tests

module _ (m : Meaning) (es : List Entry) (k a b c : ℕ) where
  -- a line gets the number 0 exactly if no cause refuses it
  pub refusal-none : line_refusal m es k a b c ≡ 0 → Passes m es k a b c
  unfolding line_refusal
  refusal-none e =
      let r12 = cond-zero _ Number.line_unknown _ tt e in
      let r13 = cond-zero _ Number.enter_not_free _ tt r12.1 in
      let r14 = cond-zero _ Number.enter_value _ tt r13.1 in
      let r24 = cond-zero _ Number.enter_desk _ tt r14.1 in
      let r15 = cond-zero _ Number.entered_twice _ tt r24.1 in
      let r16 = cond-zero _ Number.nothing_entered _ tt r15.1 in
      let r17 = cond-zero _ Number.no_entry_there _ tt r16.1 in
      record {
        known = r12.0;
        opened = λ h. not-false (m.opens a) (of_kind ENTER k (not (m.opens a)) r13.0 h);
        valued = λ h. suc-le-suc (ltb-false 1 b (of_kind ENTER k (ltb 1 b) r14.0 h));
        desked = λ h. ltb-false last_desk c (of_kind ENTER k (ltb last_desk c) r24.0 h);
        fresh = λ h. of_kind ENTER k (entered es a) r15.0 h;
        standing = λ h. not-zero (of_kind TAKE-BACK k (eqb (length es) 0) r16.0 h);
        there = λ h. leb-false (length es) a (of_kind READ k (leb (length es) a) r17.0 h);
      }

  pub none-refusal : Passes m es k a b c → line_refusal m es k a b c ≡ 0
  unfolding line_refusal
  none-refusal p =
      rw (
        p.known,
        unless_kind ENTER k (not (m.opens a)) (λ h. rw (p.opened h)),
        unless_kind ENTER k (ltb 1 b) (λ h. omega (tests, p.valued h)),
        unless_kind ENTER k (ltb last_desk c) (λ h. omega (tests, p.desked h)),
        unless_kind ENTER k (entered es a) p.fresh,
        unless_kind TAKE-BACK k (eqb (length es) 0) (λ h. omega (tests, p.standing h)),
        unless_kind READ k (leb (length es) a) (λ h. omega (tests, p.there h)),
      )

  obeyed-number : (obeyed m es k a b c).answer.number ≡ 0
  unfolding obeyed
  obeyed-number = by_bool (eqb k ENTER) (λ t. rw t)
      (λ t. by_bool (eqb k TAKE-BACK) (λ u. rw (t, u)) (λ u. by_bool (eqb k READ) (λ v. rw (t, u, v)) (λ v. by_bool (eqb k ASK) (λ w. rw (t, u, v, w)) (λ w. rw (t, u, v, w)))))

  -- the number that a line answers is that of its refusal
  pub line-number : (line m es k a b c).answer.number ≡ line_refusal m es k a b c
  line-number = by_bool (eqb (line_refusal m es k a b c) 0)
      (λ t. let e : line_refusal m es k a b c ≡ 0 = omega tests in rw (line_taken m es k a b c e, e) obeyed-number)
      (λ t. rw (line_refused m es k a b c (omega tests)))

  -- a line that is refused changes nothing
  pub refused-same : 0 < (line m es k a b c).answer.number → (line m es k a b c).entries ≡ es
  refused-same h = rw (line_refused m es k a b c (rw line-number at h))

  pub refused-answer : 0 < (line m es k a b c).answer.number → (line m es k a b c).answer ≡ refused (line m es k a b c).answer.number
  refused-answer h =
      ap (λ (r : Reply). r.answer) (line_refused m es k a b c (rw line-number at h)) ∙ ap refused (sym line-number)
