-- The gauges of a sheet as a word: its bits, and the frames that name them. Assumes nothing.
use Rattle.std.specs.Prelude.{ℕ, ◌^◌, ◌<◌, ◌≡◌, true, false, ◌&&◌, ltb}
use Rattle.std.proofs.Common.{sym, ◌∙◌, inr, lt-ltb}
use Rattle.std.proofs.Math.Bool.{and-false}
use Rattle.words.proofs.Logic.{by_bool, and_both}
use Rattle.words.specs.Word.{bit}
use Rattle.words.proofs.Bits.{bit-none, ext}
use Rattle.words.proofs.Mask.{mask_of-lt, bit-mask_of}
use Rattle.sheet.specs.Fields.{Sheet, frames, variables, kind}
use Rattle.sheet.specs.Rules.{bad_variables, names_gauge, some_before, gauges}
use Rattle.sheet.proofs.RuleLaws.{before-by, by_before, gauge-is, is_gauge, gauge_low}
use Rattle.sheet.specs.Keeps.{Keeps}
use Rattle.sheet.specs.declared.Kind.TheVariants.{Gauge}

module _ (s : Sheet) where
  pub gauges-lt : gauges s < 2 ^ variables s
  unfolding gauges
  gauges-lt = mask_of-lt (variables s) (some_before names_gauge (kind s) (frames s))

  pub bit-gauges : (v : ℕ) → bit (gauges s) v ≡ ltb v (variables s) && some_before names_gauge (kind s) (frames s) v
  unfolding gauges
  bit-gauges v = bit-mask_of (variables s) (some_before names_gauge (kind s) (frames s)) v

  -- a gauge is named by some frame
  pub gauge_named : (v : ℕ) → bit (gauges s) v ≡ true → (k : ℕ) × (k < frames s) × (kind s k ≡ Gauge v)
  gauge_named v e =
      let r = by_before names_gauge (kind s) (frames s) v (and_both (ltb v (variables s)) _ (sym (bit-gauges v) ∙ e)).1 in
      (r.0, r.1, gauge-is (kind s r.0) v r.2)

  pub no-gauges : ((k : ℕ) → k < frames s → (x : ℕ) → kind s k ≡ Gauge x → ⊥) → gauges s ≡ 0
  no-gauges h = ext (gauges s) 0 (λ v. by_bool (bit (gauges s) v)
      (λ e. let r = gauge_named v e in absurd (h r.0 r.1 v r.2))
      (λ e. e ∙ sym (bit-none v)))

  -- and every frame of kind 07 names one: its variable is one of the sheet's
  pub some_gauge : Keeps s → (k x : ℕ) → k < frames s → kind s k ≡ Gauge x → bit (gauges s) x ≡ true
  some_gauge K k x h e =
      bit-gauges x
      ∙ rw (lt-ltb x (variables s) (K.variable k x h (inr e)), before-by names_gauge (kind s) (frames s) k x h (is_gauge (kind s k) x e))

  -- where every frame's variables are the sheet's, the word misses none
  pub gauges-all : ((k : ℕ) → k < frames s → bad_variables s.form (kind s k) ≡ false)
      → (v : ℕ) → bit (gauges s) v ≡ some_before names_gauge (kind s) (frames s) v
  gauges-all g v = bit-gauges v ∙ by_bool (some_before names_gauge (kind s) (frames s) v)
      (λ e. let r = by_before names_gauge (kind s) (frames s) v e in rw (e, lt-ltb v (variables s) (gauge_low s.form (kind s r.0) v (g r.0 r.1) r.2)))
      (λ e. rw e (and-false (ltb v (variables s))))
