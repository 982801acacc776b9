-- What a verdict and a reason say of the entries that stand, in terms of assignments. f is a sheet's formula over n variables, g the word of its gauges.
-- Assumes nothing.
use Rattle.std.specs.Prelude.{ℕ, ◌≡◌, Bool, ◌&&◌, ◌↔◌, List, eqb}
use Rattle.std.proofs.Math.Path.{refl, sym}
use Rattle.std.proofs.Common.{ap, ◌∙◌, ne_eqb}
use Rattle.std.proofs.Math.Bool.{true, false, not, and-false}
use Rattle.words.proofs.Logic.{clash, or_cases}
use Rattle.words.specs.Word.{bit}
use Rattle.words.proofs.Bits.{bit-and, bit-or, bit-none, ext}
use Rattle.words.specs.Mask.{Sub}
use Rattle.words.proofs.Mask.{bit-without, bits_sub, sub-bits, bits_apart, sub-or-left, sub-or-right}
use Rattle.formula.specs.Formula.{Formula, free}
use Rattle.formula.specs.Ask.{Verdict, ask, Entries}
use Rattle.formula.proofs.Ask.{bit-free, some-ask, ask-some, ask-word, ask-none}
use Rattle.formula.specs.Why.{why, start_word}
use Rattle.formula.proofs.Why.{why-holds, why_forces, why-free, why-entered, why_idle}
use Rattle.formula.specs.Gauges.{unread, reason}
use Rattle.formula.proofs.GaugeLaws.{unread-apart, verdict-plain, verdict-every, every-verdict, verdict_smallest, verdict_failing, reason-plain, reason-holds, reason-entered, reason_forces, reason_needed, revalued}
use Rattle.sheet.specs.Fields.{Sheet, variables}
use Rattle.sheet.specs.Rules.{gauges}
use Rattle.sheet.proofs.Gauges.{no-gauges, some_gauge}
use Rattle.sheet.specs.Keeps.{Keeps}
use Rattle.solver.specs.Contract.{root, verdict_of, reason_of}
use Rattle.model.specs.declared.Entry.{Entry}
use Rattle.model.specs.Model.{entered_mask, entered_values, entered}
use Rattle.model.specs.Entries.{Entered}
use Rattle.model.proofs.Entries.{bit-entered_mask, value_none}
use Rattle.model.proofs.Agree.{agrees_on, on_agrees}
use Rattle.certificate.specs.Run.{book}
use Rattle.certificate.proofs.Before.{book-entries}
use Rattle.certificate.specs.Verdicts.{Assures, Chooses, Decides, Gauged, GaugedReason, Reason, asked_with, waits}

-- ---- the definitions of ASK and WHY say it

module _ (sheet : Sheet) (es : List Entry) (K : Keeps sheet) (d : Entered (book sheet) es) where
  abbrev vs : ℕ
  vs = variables sheet

  abbrev φ : Formula
  φ = root sheet

  abbrev γ : ℕ
  γ = gauges sheet

  abbrev mask : ℕ
  mask = entered_mask es

  abbrev values : ℕ
  values = entered_values es

  abbrev hidden : ℕ
  hidden = unread vs φ γ mask

  abbrev asked : Verdict
  asked = verdict_of sheet mask values

  abbrev because : Verdict
  because = reason_of sheet mask values

  entries : Entries vs φ mask values
  entries = book-entries sheet es K d

  -- the word of the unread gauges marks those that wait
  bit-hidden : (k : ℕ) → bit hidden k ≡ waits φ γ es k
  unfolding unread
  bit-hidden k = simp (bit-and, bit-without, bit-free entries.bounded, bit-entered_mask) (go (free φ k) (bit γ k) (entered es k))
    where
      go : (a b c : Bool) → (a && not c) && b ≡ a && (b && not c)
      go true true true = refl
      go true true false = refl
      go true false true = refl
      go true false false = refl
      go false b c = refl

  -- and they have no value
  hidden-none : (k : ℕ) → bit hidden k ≡ true → bit values k ≡ false
  hidden-none k h = value_none es k (sym (bit-entered_mask es k) ∙ bits_apart (unread-apart vs φ γ mask) k h)

  pub asked-decides : Decides vs φ γ es asked
  asked-decides = record {
    exactly = (
      λ y σ a. let r = verdict-every γ entries y σ (agrees_on d σ a) in (r.0, on_agrees d r.0 r.1, λ k h. r.2 k (bit-hidden k ∙ h), r.3),
      λ h. every-verdict γ entries (λ σ a. let r = h σ (on_agrees d σ a) in (r.0, agrees_on d r.0 r.1, λ k i. r.2 k (sym (bit-hidden k) ∙ i), r.3)),
    );
    smallest = λ y. let w = verdict_smallest γ entries y in
        record {
          below = w.below;
          agrees = on_agrees d (bit asked.word) (λ k h. w.agrees k (bits_sub (sub-or-left mask hidden) k h));
          holds = w.holds;
          stays = w.stays;
          rests = λ k h. let i = bit-hidden k ∙ h in w.agrees k (bits_sub (sub-or-right mask hidden) k i) ∙ hidden-none k i;
          least = λ z a t r. w.least z
              (λ k h. or_cases (bit mask k) (bit hidden k) (sym (bit-or mask hidden k) ∙ h)
              (λ i. agrees_on d (bit z) a k i)
              (λ i. r k (sym (bit-hidden k) ∙ i) ∙ sym (hidden-none k i))) t;
        };
    failing = λ y. let w = verdict_failing γ entries y in
        record {
          setting = λ k h. sym (bit-hidden k) ∙ bits_sub w.inside k h;
          never = λ σ a b. w.fails σ (agrees_on d σ a) (λ k h. b k (sym (bit-hidden k) ∙ h));
          least = λ z s l. let r = w.least z (sub-bits z hidden (λ k h. bit-hidden k ∙ s k h)) l in (r.0, on_agrees d r.0 r.1, λ k h. r.2 k (bit-hidden k ∙ h), r.3);
        };
  }

  -- with other values entered
  pub asked-with : (y : ℕ) → Sub y mask → (asked_with vs φ γ es y ≡ true) ↔ Assures φ γ es y
  asked-with y i =
      let E = revalued entries y i in (
        λ h σ a. let r = verdict-every γ E h σ (λ k m. a k (sym (bit-entered_mask es k) ∙ m)) in (r.0, λ k m. r.1 k (bit-entered_mask es k ∙ m), λ k m. r.2 k (bit-hidden k ∙ m), r.3),
        λ h. every-verdict γ E (λ σ a. let r = h σ (λ k m. a k (bit-entered_mask es k ∙ m)) in (r.0, λ k m. r.1 k (sym (bit-entered_mask es k) ∙ m), λ k m. r.2 k (sym (bit-hidden k) ∙ m), r.3)),
      )

  -- ---- no gauge waits

  ask_chooses : Chooses vs φ es (ask vs φ mask values)
  ask_chooses = record {
    exactly = (
      λ y. let r = ask-some vs φ mask values y in (r.0, on_agrees d r.0 r.1, r.2),
      λ r. some-ask entries r.0 (agrees_on d r.0 r.1) r.2,
    );
    smallest = λ y. let w = ask-word entries y in
        record {
          below = w.below;
          agrees = on_agrees d (bit (ask vs φ mask values).word) w.agrees;
          holds = w.holds;
          stays = w.stays;
          least = λ z a t. w.least z (agrees_on d (bit z) a) t;
        };
    none = λ q. (ask-none vs φ mask values q).1;
  }

  module _ (calm : (k : ℕ) → waits φ γ es k ≡ false) where
    pub calm_ask : asked ≡ ask vs φ mask values
    calm_ask = verdict-plain γ entries (ext hidden 0 (λ k. bit-hidden k ∙ calm k ∙ sym (bit-none k)))

    pub calm_chooses : Chooses vs φ es asked
    calm_chooses = rw calm_ask ask_chooses

  -- ---- no frame is of kind 07

  module _ (U : Gauged sheet → ⊥) where
    ungauged : γ ≡ 0
    ungauged = no-gauges sheet (λ j h x e. U (j, x, h, e))

    pub ungauged_calm : (k : ℕ) → waits φ γ es k ≡ false
    ungauged_calm k = rw (ungauged, bit-none) (and-false (free φ k))

    why-reason : Reason φ es (ask vs φ mask values) (why vs φ mask values)
    unfolding start_word
    why-reason = record {
      same = why-holds vs φ mask values;
      opened = λ k h. sym (bit-free entries.bounded k) ∙ bits_sub (why-free entries) k h;
      among = λ q k h. sym (bit-entered_mask es k) ∙ bits_sub (why-entered entries q) k h;
      forces = why_forces entries;
      needed = why_idle entries;
    }

    why-is : because ≡ why vs φ mask values
    why-is = ap (λ (x : ℕ). reason vs φ x mask values) ungauged ∙ reason-plain vs φ mask values

    pub ungauged-reason : Reason φ es asked because
    ungauged-reason = rw (calm_ask ungauged_calm, why-is) why-reason

  -- ---- some frame is

  module _ (G : Gauged sheet) where
    some : eqb γ 0 ≡ false
    some = ne_eqb γ 0 (λ e. clash (bit γ G.1) (some_gauge sheet K G.0 G.1 G.2 G.3) (ap (λ (w : ℕ). bit w G.1) e ∙ bit-none G.1))

    pub gauged-reason : GaugedReason vs φ γ es asked because
    gauged-reason = record {
      same = reason-holds γ some entries;
      among = λ k h. sym (bit-entered_mask es k) ∙ bits_sub (reason-entered γ some entries) k h;
      forces = λ y r. reason_forces γ some entries y r.inside r.agrees;
      needed = λ k h. let r = reason_needed γ some entries k h in (r.0, record { inside = r.1; agrees = r.2 }, r.3);
    }
