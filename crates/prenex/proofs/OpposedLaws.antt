-- Clauses with a literal and its opposite, found by the words of the literals that are seen. Assumes nothing.
use Rattle.std.specs.Prelude.{ℕ, ◌+◌, ◌^◌, ◌≤◌, ◌<◌, Bool, true, false, not, cond, ◌&&◌, ◌||◌, List, [], ◌∷◌, ◌≡◌, refl, eqb, length, get_or, drop}
use Rattle.std.proofs.Common.{arith, sym, ◌∙◌, drop_of_length-le, eq-eqb, ne_eqb, eqb-true}
use Rattle.std.proofs.Math.Bool.{or-false, or_assoc}
use Rattle.std.specs.Int.Bits.{bit_and, bit_or}
use Rattle.words.proofs.Logic.{by_bool, clash, and_both, and_intro, or_cases, or_left, or_right}
use Rattle.words.specs.Word.{bit}
use Rattle.words.proofs.Bits.{bit-and, bit-none}
use Rattle.words.proofs.Mask.{apart-bits}
use Rattle.prenex.specs.Question.{Literal, Clause, some_literal}
use Rattle.prenex.specs.Code.{literal_of, to_first, clauses_of, opposed, all_opposed}
use Rattle.prenex.proofs.LiteralLaws.{or-one}
use Rattle.prenex.specs.ClauseLaws.{Some}
use Rattle.prenex.proofs.ClauseLaws.{at-end, at_literal_lem, behind-literal}
use Rattle.prenex.specs.OpposedLaws.{all_opposed_with, opposed_with}

-- ---- the variables of a clause's positive and negative literals

abbrev positives : Clause → ℕ → Bool
positives c x = some_literal (λ k. not k.negative && eqb x k.variable) c

abbrev negatives : Clause → ℕ → Bool
negatives c x = some_literal (λ k. k.negative && eqb x k.variable) c

module _ (l : Literal) (c : Clause) (w x : ℕ) where
  seen_positive : l.negative ≡ false → bit (bit_or w (2 ^ l.variable)) x || positives c x ≡ bit w x || positives (l ∷ c) x
  unfolding some_literal
  seen_positive e = rw (e, or-one w l.variable x) (or_assoc (bit w x) (eqb x l.variable) (positives c x))

  same-positive : l.negative ≡ true → bit w x || positives c x ≡ bit w x || positives (l ∷ c) x
  unfolding some_literal
  same-positive e = rw e

  seen_negative : l.negative ≡ true → bit (bit_or w (2 ^ l.variable)) x || negatives c x ≡ bit w x || negatives (l ∷ c) x
  unfolding some_literal
  seen_negative e = rw (e, or-one w l.variable x) (or_assoc (bit w x) (eqb x l.variable) (negatives c x))

  same_negative : l.negative ≡ false → bit w x || negatives c x ≡ bit w x || negatives (l ∷ c) x
  unfolding some_literal
  same_negative e = rw e

-- x is seen or stands in the clause, positive and negative
abbrev Both : ℕ → ℕ → Clause → ℕ → Type 0
Both p q c x = (bit p x || positives c x ≡ true) × (bit q x || negatives c x ≡ true)

both-opposed : (p q : ℕ) (c : Clause) (x : ℕ) → Both p q c x → opposed_with p q c ≡ true
unfolding opposed_with some_literal
both-opposed p q [] x (a, b) =
    by_bool (eqb (bit_and p q) 0)
    (λ e. clash (bit (bit_and p q) x) (bit-and p q x ∙ and_intro (bit p x) (bit q x) (sym (or-false (bit p x)) ∙ a) (sym (or-false (bit q x)) ∙ b)) (rw (eqb-true (bit_and p q) 0 e) (bit-none x)))
    (λ e. rw e)
both-opposed p q (l ∷ c) x (a, b) =
    by_bool l.negative
    (λ e. rw e (both-opposed p (bit_or q (2 ^ l.variable)) c x (same-positive l c p x e ∙ a, seen_negative l c q x e ∙ b)))
    (λ e. rw e (both-opposed (bit_or p (2 ^ l.variable)) q c x (seen_positive l c p x e ∙ a, same_negative l c q x e ∙ b)))

none-opposed : (p q : ℕ) (c : Clause) → ((x : ℕ) → Both p q c x → ⊥) → opposed_with p q c ≡ false
unfolding opposed_with some_literal
none-opposed p q [] h =
    let a = apart-bits p q (λ x e. by_bool (bit q x) (λ w. absurd (h x (or_left (bit p x) false e, or_left (bit q x) false w))) (λ w. w)) in
    rw (eq-eqb (bit_and p q) 0 a.none)
none-opposed p q (l ∷ c) h =
    by_bool l.negative
    (λ e. rw e (none-opposed p (bit_or q (2 ^ l.variable)) c (λ x w. h x (sym (same-positive l c p x e) ∙ w.0, sym (seen_negative l c q x e) ∙ w.1))))
    (λ e. rw e (none-opposed (bit_or p (2 ^ l.variable)) q c (λ x w. h x (sym (seen_positive l c p x e) ∙ w.0, sym (same_negative l c q x e) ∙ w.1))))

-- ---- the same of `opposed`

-- a negative literal whose variable has P, and a variable of a negative literal that has P
some_negative : (P : ℕ → Bool) (c : Clause) (x : ℕ) → negatives c x ≡ true → P x ≡ true → some_literal (λ l. l.negative && P l.variable) c ≡ true
unfolding some_literal
some_negative P [] x e h = e
some_negative P (l ∷ c) x e h =
    or_cases (l.negative && eqb x l.variable) (negatives c x) e
    (λ w.
    let b = and_both l.negative (eqb x l.variable) w in
    or_left (l.negative && P l.variable) _ (and_intro l.negative (P l.variable) b.0 (rw (eqb-true x l.variable b.1) at h)))
    (λ w. or_right (l.negative && P l.variable) _ (some_negative P c x w h))

negative_some : (P : ℕ → Bool) (c : Clause) → some_literal (λ l. l.negative && P l.variable) c ≡ true → (x : ℕ) × (negatives c x ≡ true) × (P x ≡ true)
unfolding some_literal
negative_some P [] e = clash false e refl
negative_some P (l ∷ c) e =
    or_cases (l.negative && P l.variable) (some_literal (λ l. l.negative && P l.variable) c) e
    (λ w.
    let b = and_both l.negative (P l.variable) w in
    (l.variable, or_left (l.negative && eqb l.variable l.variable) _ (and_intro l.negative (eqb l.variable l.variable) b.0 (eq-eqb l.variable l.variable refl)), b.1))
    (λ w.
    let t = negative_some P c w in
    (t.0, or_right (l.negative && eqb t.0 l.variable) _ t.1, t.2))

no-bit : (x : ℕ) (a : Bool) → bit 0 x || a ≡ a
no-bit x a = rw (bit-none x)

pub opposed-with : (c : Clause) → opposed_with 0 0 c ≡ opposed c
unfolding opposed
opposed-with c =
    by_bool (opposed c)
    (λ e.
    let t = negative_some (positives c) c e in
    both-opposed 0 0 c t.0 (no-bit t.0 (positives c t.0) ∙ t.2, no-bit t.0 (negatives c t.0) ∙ t.1) ∙ sym e)
    (λ e.
    none-opposed 0 0 c (λ x w. clash (opposed c)
    (some_negative (positives c) c x (sym (no-bit x (negatives c x)) ∙ w.1) (sym (no-bit x (positives c x)) ∙ w.0)) e) ∙ sym e)

-- ---- the loop over the codes of clauses

pub all_with : (cs : List Clause) → all_opposed_with 0 0 cs ≡ all_opposed cs
unfolding all_opposed_with all_opposed
all_with [] = refl
all_with (c ∷ cs) = rw (opposed-with c)

with-end : (p q : ℕ) (cs : List Clause) → all_opposed_with p q ([] ∷ cs) ≡ not (eqb (bit_and p q) 0) && all_opposed cs
unfolding all_opposed_with opposed_with
with-end p q cs = refl

with_literal : (p q : ℕ) (l : Literal) {cs : List Clause} → Some cs
    → all_opposed_with p q (to_first l cs) ≡ cond l.negative (all_opposed_with p (bit_or q (2 ^ l.variable)) cs) (all_opposed_with (bit_or p (2 ^ l.variable)) q cs)
unfolding all_opposed_with opposed_with to_first
with_literal p q l s = rw s.are (by_bool l.negative (λ e. rw e) (λ e. rw e))

with_none : (p q : ℕ) → all_opposed_with p q (clauses_of []) ≡ true
unfolding all_opposed_with clauses_of
with_none p q = refl

module _ (l : List ℕ) (i p q : ℕ) where
  pub codes_over : length l ≤ i → all_opposed_with p q (clauses_of (drop i l)) ≡ true
  codes_over h = rw (drop_of_length-le l h) (with_none p q)

  pub not-opposed : i < length l → get_or l i 0 ≡ 0 → bit_and p q ≡ 0 → all_opposed_with p q (clauses_of (drop i l)) ≡ false
  not-opposed h z e = rw (at-end l i h z, with-end p q (clauses_of (drop (i + 1) l)), e)

  pub is-opposed : i < length l → get_or l i 0 ≡ 0 → (bit_and p q ≡ 0 → ⊥) → all_opposed_with p q (clauses_of (drop i l)) ≡ all_opposed_with 0 0 (clauses_of (drop (i + 1) l))
  is-opposed h z e = rw (at-end l i h z, with-end p q (clauses_of (drop (i + 1) l)), ne_eqb (bit_and p q) 0 e, all_with)

  module _ {one : ℕ} (h : i + 1 < length l) (z : get_or l i 0 ≡ 0 → ⊥) (o : one ≡ 2 ^ (literal_of (get_or l i 0)).variable) where
    pub sees_negative : (literal_of (get_or l i 0)).negative ≡ true → all_opposed_with p q (clauses_of (drop i l)) ≡ all_opposed_with p (bit_or q one) (clauses_of (drop (i + 1) l))
    sees_negative e = rw (at_literal_lem l i (omega arith) z, with_literal p q (literal_of (get_or l i 0)) (behind-literal l i h), e, o)

    pub sees_positive : (literal_of (get_or l i 0)).negative ≡ false → all_opposed_with p q (clauses_of (drop i l)) ≡ all_opposed_with (bit_or p one) q (clauses_of (drop (i + 1) l))
    sees_positive e = rw (at_literal_lem l i (omega arith) z, with_literal p q (literal_of (get_or l i 0)) (behind-literal l i h), e, o)
