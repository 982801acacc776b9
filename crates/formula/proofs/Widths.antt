-- ASK and WHY of a formula are the same over any number of variables that is above its free ones. Assumes nothing.
use Prim.Native.Nat.{ℕ, zero, suc, ◌+◌, ◌-◌, ◌^◌, ◌≤◌, ◌<◌}
use Rattle.std.proofs.Common.{arith, add-zero, add-suc, sym, ◌∙◌}
use Rattle.std.specs.Prelude.{◌≡◌, Bool, cond, eqb}
use Rattle.std.proofs.Math.Path.{refl, ap, fun_ext}
use Rattle.std.proofs.Math.Bool.{true, false}
use Rattle.std.specs.Int.Bits.{bit_or}
use Rattle.words.proofs.Logic.{by_bool, clash}
use Rattle.words.proofs.Bits.{bit_high, ext}
use Rattle.words.specs.Mask.{without}
use Rattle.words.proofs.Mask.{inside-sub, sub-lt}
use Rattle.formula.specs.Formula.{Formula}
use Rattle.formula.specs.Ask.{Verdict, Bounded, free_mask, fits, ask, yes, First}
use Rattle.formula.proofs.Ask.{bit-free, free_mask-lt, fits-fit, ask-yes, ask-no, ask-first, ask-none}
use Rattle.formula.specs.Gauges.{unread, ours, possible, assured, fails, verdict, reason}
use Rattle.formula.proofs.GaugeLaws.{bounded-assured}
use Rattle.formula.specs.Why.{always, reduce, start_mask, start_word, why}
use Rattle.formula.proofs.Why.{always-every, every-always, always-fails, fails-always, reduce_skip}

module _ {n m : ℕ} {f : Formula} (B : Bounded n f) (C : Bounded m f) where
  pub free_mask_width : free_mask m f ≡ free_mask n f
  free_mask_width = ext (free_mask m f) (free_mask n f) (λ k. bit-free C k ∙ sym (bit-free B k))

  fits_width : (mask values w : ℕ) → fits m f mask values w ≡ fits n f mask values w
  unfolding fits
  fits_width mask values w = rw free_mask_width

  -- what fits is a word of either width
  fit_low : (mask values w : ℕ) → fits m f mask values w ≡ true → w < 2 ^ n
  fit_low mask values w e = sub-lt n (inside-sub w (free_mask m f) (fits-fit m f mask values w e).stays) (rw free_mask_width (free_mask-lt n f))

  fit-high : (mask values w : ℕ) → fits n f mask values w ≡ true → w < 2 ^ m
  fit-high mask values w e = sub-lt m (inside-sub w (free_mask n f) (fits-fit n f mask values w e).stays) (rw (← free_mask_width) (free_mask-lt m f))

  found_width : (mask values w : ℕ) → First n f mask values w → ask m f mask values ≡ yes w
  found_width mask values w F =
      ask-yes m f mask values w (fit-high mask values w F.passes) (fits_width mask values w ∙ F.passes)
      (λ z h. fits_width mask values z ∙ F.before z h)

  none_width : (mask values : ℕ) → ((z : ℕ) → z < 2 ^ n → fits n f mask values z ≡ false) → (z : ℕ) → fits m f mask values z ≡ false
  none_width mask values h z = by_bool (fits m f mask values z)
      (λ e. clash (fits n f mask values z) (sym (fits_width mask values z) ∙ e) (h z (fit_low mask values z e)))
      (λ e. e)

  pub ask_width : (mask values : ℕ) → ask m f mask values ≡ ask n f mask values
  ask_width mask values = by_bool (ask n f mask values).holds
      (λ e. let F = ask-first n f mask values e in
      found_width mask values _ F ∙ sym (ask-yes n f mask values _ F.below F.passes F.before))
      (λ e. let N = ask-none n f mask values e in
      ask-no m f mask values (λ z l. none_width mask values N.0 z) ∙ sym (ask-no n f mask values N.0))

  always_width : (q w : ℕ) (v : Bool) → always m f q w v ≡ always n f q w v
  always_width q w v = by_bool (always n f q w v)
      (λ e. every-always m f q w v (always-every n f q w v B e) ∙ sym e)
      (λ e. let x = always-fails n f q w v e in fails-always m f q w v C x.0 x.1 x.2 ∙ sym e)

  reduce_width : (w : ℕ) (v : Bool) (k q : ℕ) → reduce m f w v k q ≡ reduce n f w v k q
  unfolding reduce
  reduce_width w v zero q = refl
  reduce_width w v (suc k) q =
      rw (always_width (without q (2 ^ k)) w v) (reduce_width w v k (cond (always n f (without q (2 ^ k)) w v) (without q (2 ^ k)) q))

-- variables that the mask does not have are not tried
reduce-above : (n : ℕ) (f : Formula) (w : ℕ) (v : Bool) (d q : ℕ) → q < 2 ^ n → reduce n f w v (n + d) q ≡ reduce n f w v n q
reduce-above n f w v zero q h = rw add-zero
reduce-above n f w v (suc d) q h =
    ap (λ (k : ℕ). reduce n f w v k q) (add-suc n d)
    ∙ reduce_skip n f w v (n + d) q (bit_high n (n + d) h (omega arith))
    ∙ reduce-above n f w v d q h

module _ {n m : ℕ} {f : Formula} (B : Bounded n f) (C : Bounded m f) (more : n ≤ m) where
  reduce-same : (w : ℕ) (v : Bool) (q : ℕ) → q < 2 ^ n → reduce m f w v m q ≡ reduce n f w v n q
  reduce-same w v q h =
      let e : m ≡ n + (m - n) = omega arith in
      reduce_width B C w v m q ∙ ap (λ (k : ℕ). reduce n f w v k q) e ∙ reduce-above n f w v (m - n) q h

  start-same : (h : Bool) (mask : ℕ) → start_mask m f h mask ≡ start_mask n f h mask
  unfolding start_mask
  start-same h mask = rw (free_mask_width B C)

  start-low : (h : Bool) (mask : ℕ) → mask < 2 ^ n → start_mask n f h mask < 2 ^ n
  unfolding start_mask
  start-low true mask l = free_mask-lt n f
  start-low false mask l = l

  abbrev reasoned : ℕ → ℕ → ℕ → Verdict → Verdict
  reasoned k mask values a = record { holds = a.holds; word = reduce k f (start_word a values) a.holds k (start_mask k f a.holds mask) }

  reasoned_width : (mask values : ℕ) (a : Verdict) → mask < 2 ^ n → reasoned m mask values a ≡ reasoned n mask values a
  reasoned_width mask values a l =
      ap (λ (x : ℕ). record { holds = a.holds; word = x })
      (ap (reduce m f (start_word a values) a.holds m) (start-same a.holds mask)
      ∙ reduce-same (start_word a values) a.holds (start_mask n f a.holds mask) (start-low a.holds mask l))

  pub why_width : (mask values : ℕ) → mask < 2 ^ n → why m f mask values ≡ why n f mask values
  unfolding why
  why_width mask values l = ap (reasoned m mask values) (ask_width B C mask values) ∙ reasoned_width mask values (ask n f mask values) l

-- ---- with gauges

module _ {n m : ℕ} {f : Formula} (B : Bounded n f) (C : Bounded m f) where
  unread_width : (g mask : ℕ) → unread m f g mask ≡ unread n f g mask
  unfolding unread
  unread_width g mask = rw (free_mask_width B C)

  ours_width : (g mask : ℕ) → ours m f g mask ≡ ours n f g mask
  unfolding ours
  ours_width g mask = rw (free_mask_width B C)

  possible_width : (g mask : ℕ) → possible m f g mask ≡ possible n f g mask
  unfolding possible
  possible_width g mask = rw (ours_width g mask)

  assured_width : (g mask : ℕ) → assured m f g mask ≡ assured n f g mask
  unfolding assured
  assured_width g mask = rw (unread_width g mask, possible_width g mask)

  fails_width : (g mask values : ℕ) → fails m f g mask values ≡ fails n f g mask values
  unfolding fails
  fails_width g mask values = fun_ext (λ z. rw (unread_width g mask, possible_width g mask))

  pub verdict_width : (g mask values : ℕ) → verdict m f g mask values ≡ verdict n f g mask values
  unfolding verdict
  verdict_width g mask values =
      rw (assured_width g mask, unread_width g mask, fails_width g mask values, ask_width B C (bit_or mask (unread n f g mask)) values)

module _ {n m : ℕ} {f : Formula} (B : Bounded n f) (C : Bounded m f) (more : n ≤ m) where
  pub reason_width : (g mask values : ℕ) → mask < 2 ^ n → reason m f g mask values ≡ reason n f g mask values
  unfolding reason
  reason_width g mask values l = by_bool (eqb g 0)
      (λ e. rw e (why_width B C more mask values l))
      (λ e. rw (e, verdict_width B C g mask values, assured_width B C g mask)
      (ap (λ (x : ℕ). record { holds = (verdict n f g mask values).holds; word = x })
      (reduce-same (bounded-assured g mask B) (rw (assured_width B C g mask) at (bounded-assured g mask C)) more values (verdict n f g mask values).holds mask l)))
