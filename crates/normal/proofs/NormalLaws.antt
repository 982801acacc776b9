-- The frames of a normal sheet, from those of a sheet that is accepted: each has the formula of one of these, they are no more, and the last has the
-- sheet's formula. Assumes nothing.
use Rattle.std.specs.Prelude.{ℕ, ◌-◌, ◌≤◌, ◌<◌, ◌≡◌, refl, Bool, true, false}
use Rattle.std.proofs.Common.{arith, sym, ◌∙◌, subst, inl, inr}
use Rattle.std.proofs.Math.Path.{ap, fun_ext}
use mathlib.Core.List.{[]}
use Rattle.std.proofs.Math.ListN.{length}
use Rattle.words.proofs.Logic.{by_bool}
use Rattle.formula.specs.Formula.{Formula}
use Rattle.sheet.specs.Cause.{Refusal}
use Rattle.sheet.specs.Fields.{Sheet, frames, variables, kind}
use Rattle.sheet.specs.Frames.{formula, formula_of, Fit}
use Rattle.sheet.specs.Rules.{last}
use Rattle.sheet.proofs.Gauges.{gauge_named, some_gauge}
use Rattle.sheet.specs.Keeps.{Keeps}
use Rattle.sheet.specs.Accepted.{Accepted}
use Rattle.sheet.proofs.AcceptedLaws.{accepted-sheet, accepted_exactly}
use Rattle.sheet.specs.declared.Kind.{Kind}
use Rattle.sheet.specs.declared.Kind.TheVariants.{Never, Input, Not, And, Or, Exists, Forall, Gauge}
use Rattle.normal.specs.Normal.{reading, place, gauge_of, normal_frames, normal}
use Rattle.normal.specs.Lists.{kind_at}
use Rattle.normal.proofs.BytesLaws.{bytes-frames, bytes-kind}
use Rattle.normal.specs.PlaceLaws.{Says, nothing, reads, denies, joins, binds, Frames, Written, formula_at, Places, Every, Below}
use Rattle.normal.proofs.PlaceLaws.{none_written, place-places, place-every, formula_once}
use Rattle.normal.proofs.FormulaLaws.{every-part, all-below, root-last}
use Rattle.normal.proofs.Few.{apart-few, chosen}

-- ---- the frames of the sheet

module _ (s : Sheet) (K : Keeps s) where
  abbrev γ : ℕ → Bool
  γ = gauge_of s

  pub kept : Accepted s
  kept = accepted-sheet s (ap (λ (r : Refusal). r.number) ((accepted_exactly s).1 K))

  input-no_gauge : (k x : ℕ) → k < frames s → kind s k ≡ Input x → γ x ≡ false
  input-no_gauge k x h e = by_bool (γ x) (λ t. let r = gauge_named s x t in absurd (K.unmixed k r.0 x h r.1 e r.2)) (λ t. t)

  says_as : (k : ℕ) (d : Kind) → k < frames s → kind s k ≡ d → Fit (variables s) k d → Says γ (variables s) k d
  says_as k Never h e w = nothing
  says_as k (Input x) h e w = subst (Says γ (variables s) k) (ap (λ (g : Bool). reading g x) (input-no_gauge k x h e)) (reads x w)
  says_as k (Not a) h e w = denies a w
  says_as k (And a b) h e w = joins false a b w.0 w.1
  says_as k (Or a b) h e w = joins true a b w.0 w.1
  says_as k (Exists a b c) h e w = binds true b c a w.0 (K.range k a b c h (inl e)).0 w.1
  says_as k (Forall a b c) h e w = binds false b c a w.0 (K.range k a b c h (inr e)).0 w.1
  says_as k (Gauge x) h e w = subst (Says γ (variables s) k) (ap (λ (g : Bool). reading g x) (some_gauge s K k x h e)) (reads x w)

  pub sheet_says : Frames γ (variables s) (kind s) (frames s)
  sheet_says k h = says_as k (kind s k) h refl (kept.ordered.fit k)

  pub last_in : last s < frames s
  last_in = omega (arith, K.least)

  pub sheet-below : (k : ℕ) → k < frames s → Every (Below (variables s)) (formula s k)
  sheet-below k h = all-below sheet_says k h

  -- ---- the frames of its normal sheet

  root-places : Places γ (variables s) (formula s (last s)) [] (place γ (formula s (last s)) [])
  root-places = place-places γ (variables s) (formula s (last s)) [] (sheet-below (last s) last_in) (none_written γ (variables s))

  pub normal-written : Written γ (variables s) (normal_frames s)
  unfolding normal_frames
  normal-written = root-places.written

  -- f is the formula of frame k of the sheet
  abbrev OfFrame : Formula → ℕ → Type 0
  OfFrame f k = (k < frames s) × (f ≡ formula s k)

  -- frame j has the formula of a frame of the sheet
  pub stem : (j : ℕ) → j < length (normal_frames s) → (k : ℕ) × OfFrame (formula_at (normal_frames s) j) k
  unfolding normal_frames
  stem = place-every γ (variables s) (λ f. (k : ℕ) × OfFrame f k) (formula s (last s)) []
      (sheet-below (last s) last_in) (none_written γ (variables s))
      (every-part sheet_says (λ f. (k : ℕ) × OfFrame f k) (λ k h. (k, (h, refl))) (last s) last_in)
      (λ k h. absurd (omega arith))

  pub normal-few : length (normal_frames s) ≤ frames s
  normal-few =
      let o = chosen (λ j k. OfFrame (formula_at (normal_frames s) j) k) (length (normal_frames s)) stem in
      apart-few (length (normal_frames s)) (frames s) o.0 (record {
        below = λ j h. (o.1 j h).0;
        apart = λ i j h g e. formula_once normal-written i j h g
            ((o.1 i h).1 ∙ ap (formula s) e ∙ sym (o.1 j g).1);
      })

  pub normal-some : 1 ≤ length (normal_frames s)
  unfolding normal_frames
  normal-some = omega (arith, root-places.inside)

  -- the last frame is the one that was placed last
  last-formula : formula_at (normal_frames s) (length (normal_frames s) - 1) ≡ formula s (last s)
  unfolding normal_frames
  last-formula =
      let e = root-last γ (variables s) (formula s (last s)) (sheet-below (last s) last_in) in
      let n : length (normal_frames s) - 1 ≡ (place γ (formula s (last s)) []).number = omega (arith, e) in
      ap (formula_at (normal_frames s)) n ∙ root-places.means

  -- ---- as a sheet

  pub normal-frames : frames (normal s) ≡ length (normal_frames s)
  normal-frames = bytes-frames s.form (normal_frames s)

  pub normal-kind : (k : ℕ) → kind (normal s) k ≡ kind_at (normal_frames s) k
  normal-kind = bytes-kind s.form (normal_frames s)

  pub normal-at : (k : ℕ) → formula (normal s) k ≡ formula_at (normal_frames s) k
  normal-at k = ap (λ (κ : ℕ → Kind). formula_of κ k) (fun_ext normal-kind)

  -- The last frame has the sheet's formula.
  pub normal-formula : formula (normal s) (last (normal s)) ≡ formula s (last s)
  normal-formula = normal-at (last (normal s)) ∙ ap (λ (n : ℕ). formula_at (normal_frames s) (n - 1)) normal-frames ∙ last-formula

  pub normal_says : Frames γ (variables s) (kind (normal s)) (frames (normal s))
  normal_says k h = subst (Says γ (variables s) k) (sym (normal-kind k)) (normal-written.says k (omega (arith, h, normal-frames)))
