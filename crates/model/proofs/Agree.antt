-- Assignments that agree with the entries, entry by entry and by the entries' words. Assumes nothing.
use Rattle.std.specs.Prelude.{ℕ, zero, suc, ◌<◌, ◌≡◌, refl, false, List, [], ◌∷◌, length, eqb}
use Rattle.std.proofs.Common.{arith, sym, ◌∙◌, eq-eqb, eqb-true}
use Rattle.words.proofs.Logic.{by_bool}
use Rattle.words.specs.Word.{bit}
use Rattle.words.proofs.Bits.{bit-or, bit-pow, bit-none}
use Rattle.formula.specs.Assignment.{Assignment, On}
use Rattle.model.specs.declared.Entry.{Entry}
use Rattle.model.specs.Model.{Meaning, entered_mask, entered_values}
use Rattle.model.specs.Entries.{Entered, entry_at, value_part}
use Rattle.model.proofs.Entries.{entered_at, entered_find, bit-entered_mask, bit-part, bit-value}
use Rattle.model.specs.Agree.{Agrees}

entered_tail : {m : Meaning} {es : List Entry} (e : Entry) → Entered m (e ∷ es) → Entered m es
entered_tail e d = record {
  opened = λ i h. d.opened (suc i) (omega arith);
  valued = λ i h. d.valued (suc i) (omega arith);
  desked = λ i h. d.desked (suc i) (omega arith);
  distinct = λ i j h l s. let q : suc i ≡ suc j = d.distinct (suc i) (suc j) (omega arith) (omega arith) s in omega arith;
}

entered-head : {m : Meaning} {es : List Entry} (e : Entry) → Entered m (e ∷ es) → bit (entered_values es) e.variable ≡ false
entered-head {es = es} e d = by_bool (bit (entered_values es) e.variable)
    (λ t. let r = entered_find es e.variable (bit-value es e.variable t) in
    let z : 0 ≡ suc r.0 = d.distinct 0 (suc r.0) (omega arith) (omega (arith, r.1)) (sym r.2) in
    absurd (omega arith))
    (λ t. t)

-- the word of the values has an entry's value at its variable
pub value-at : {m : Meaning} (es : List Entry) → Entered m es → (i : ℕ) → i < length es → bit (entered_values es) (entry_at es i).variable ≡ eqb (entry_at es i).value 1
unfolding entered_values
value-at [] d i h = absurd (omega arith)
value-at (e ∷ es) d zero h =
    bit-or (value_part e) (entered_values es) e.variable
    ∙ rw (entered-head e d) (by_bool (eqb e.value 1) (λ t. rw (t, bit-pow, eq-eqb e.variable e.variable refl)) (λ t. rw (t, bit-none)))
value-at (e ∷ es) d (suc i) h =
    let x = (entry_at es i).variable in
    bit-or (value_part e) (entered_values es) x
    ∙ by_bool (bit (value_part e) x)
    (λ t. let z : suc i ≡ 0 = d.distinct (suc i) 0 h (omega arith) (eqb-true x e.variable (bit-part e x t)) in absurd (omega arith))
    (λ t. rw t (value-at es (entered_tail e d) i (omega arith)))

module _ {m : Meaning} {es : List Entry} (d : Entered m es) (σ : Assignment) where
  pub agrees_on : Agrees es σ → On (bit (entered_mask es)) σ (bit (entered_values es))
  agrees_on a k t =
      let r = entered_find es k (sym (bit-entered_mask es k) ∙ t) in
      rw (← r.2) (a r.0 r.1 ∙ sym (value-at es d r.0 r.1))

  pub on_agrees : On (bit (entered_mask es)) σ (bit (entered_values es)) → Agrees es σ
  on_agrees a i h =
      let x = (entry_at es i).variable in
      a x (bit-entered_mask es x ∙ entered_at es i h) ∙ value-at es d i h
