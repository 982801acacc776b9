-- How large a refusal can be: its number is at most 23, and its place is that of a frame. Assumes nothing.
use Prim.Native.Nat.{ℕ, zero, suc, ◌≤◌, ◌<◌}
use native.Mathlib.Omega.{arith}
use Rattle.std.specs.Prelude.{List, [], ◌∷◌, ◌++◌}
use Rattle.words.proofs.Logic.{by_bool}
use Rattle.form.proofs.FormLaws.{some-frames}
use Rattle.form.specs.declared.Form.{Form}
use Rattle.sheet.specs.Cause.{Cause, first, some_holds}
use Rattle.sheet.proofs.Cause.{first_earlier, first-later}
use Rattle.sheet.specs.Fields.{Sheet, frames, most_frames}
use Rattle.sheet.specs.Rules.{Past, length_causes, size_causes, field_causes, causes_below, root_causes, frame_causes, sheet_refusal}
use Rattle.sheet.proofs.AcceptedLaws.{none_sized}
use Rattle.sheet.specs.declared.Fields.{Fields}
use Rattle.sheet.specs.Places.{Small, Within}

pub within_append : (p : ℕ) (cs ds : List Cause) → Within p cs → Within p ds → Within p (cs ++ ds)
within_append p [] ds w v = v
within_append p (c ∷ cs) ds w v = (w.0, (w.1.0, within_append p cs ds w.1.1 v))

pub within_first : (p : ℕ) (cs : List Cause) → 0 < p → Within p cs → Small p (first cs)
unfolding first
within_first p [] h w = record { number = omega arith; place = h }
within_first p (c ∷ cs) h w = by_bool c.holds
    (λ e. rw e (record { number = w.0; place = w.1.0 }))
    (λ e. rw e (within_first p cs h w.1.1))

module _ (p : ℕ) (some : 0 < p) where
  pub size-within : (s : Sheet) → Within p (size_causes s)
  unfolding length_causes
  size-within s = (omega arith, (some, (omega arith, (some, tt))))

  frame-within : (F : Form) (f : Fields) (k : ℕ) (q : Past) → k < p → Within p (field_causes F f k q)
  unfolding field_causes
  frame-within F f k q h =
      (omega arith, (h, (omega arith, (h, (omega arith, (h, (omega arith, (h, (omega arith, (h, (omega arith, (h, (omega arith, (h, tt))))))))))))))

  below-within : (s : Sheet) (k : ℕ) → k ≤ p → Within p (causes_below s k)
  unfolding causes_below
  below-within s zero h = tt
  below-within s (suc k) h = within_append p (causes_below s k) _ (below-within s k (omega arith)) (frame-within _ _ k _ (omega arith))

  -- of a sheet that is not too long
  pub frames-within : (s : Sheet) → frames s ≤ p → Within p (frame_causes s)
  unfolding frame_causes
  frames-within s h = within_append p (causes_below s (frames s)) (root_causes s) (below-within s (frames s) h) (omega arith, (omega arith, tt))

-- a sheet's own refusal
pub sheet_small : (s : Sheet) → Small (most_frames s) (sheet_refusal s)
sheet_small s =
    let some = some-frames s.form in
    by_bool (some_holds (size_causes s))
    (λ e. rw (first_earlier (size_causes s) (frame_causes s) e) (within_first (most_frames s) (size_causes s) some (size-within (most_frames s) some s)))
    (λ e. rw (first-later (size_causes s) (frame_causes s) e)
    (within_first (most_frames s) (frame_causes s) some (frames-within (most_frames s) some s (none_sized s e).most)))
