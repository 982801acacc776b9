-- The contract of the writer, from what its code has. Assumes nothing.
use Rattle.std.specs.Prelude.{ℕ, ◌≤◌, ◌<◌, ◌≡◌, refl, true, false, List, ◌++◌, length, take}
use Rattle.std.proofs.Common.{arith, sym, subst, ◌∙◌, lt-ltb, le-ltb}
use Rattle.std.proofs.Math.Path.{ap}
use Rattle.std.proofs.Math.ListN.{drop}
use Rattle.std.proofs.lemmas.List.Edits.{sets}
use Rattle.words.proofs.Logic.{by_bool}
use Rattle.words.proofs.Stores.{sets-start}
use Rattle.form.specs.Form.{frame_start}
use Rattle.sheet.specs.Refusal as Number
use Rattle.sheet.specs.Cause.{Refusal, first, some_holds}
use Rattle.sheet.proofs.Cause.{first_earlier, first-later, none_first}
use Rattle.sheet.specs.Fields.{Sheet, frames}
use Rattle.sheet.specs.declared.Kind.{Kind}
use Rattle.normal.specs.Lists.{AllFit}
use Rattle.sheet.specs.Rules.{sheet_causes}
use Rattle.sheet.proofs.RuleLaws.{sheet_numbered}
use Rattle.sheet.proofs.AcceptedLaws.{none-keeps, keeps-none}
use Rattle.sheet.proofs.ToldLaws.{fault_not-0}
use Rattle.sheet.specs.Told.{number_of}
use Rattle.sheet.specs.declared.refusal.Fault.{Fault}
use Rattle.sheet.specs.Check.{Checks}
use Rattle.sheet.proofs.CheckLaws.{checks_none}
use Rattle.sheet.specs.Keeps.{Keeps}
use Rattle.normal.specs.Normal.{frames_bytes, normal_frames, normal_bytes, write_causes, refusal, Writes}
use Rattle.normal.proofs.BytesLaws.{bytes-length}
use Rattle.normal.proofs.NormalLaws.{normal-written, normal-few}
use Rattle.normal.specs.Visit.{Visited}
use Rattle.normal.proofs.VisitLaws.{written-fit}

pub visited_few : {s : Sheet} {ks : List Kind} {count : ℕ} → Keeps s → Visited s ks count → count ≤ frames s
visited_few {s} K seen = omega (arith, seen.counted, normal-few s K)

-- ---- a sheet that is refused, and one that is not

module _ {s : Sheet} {place free gauges : ℕ} where
  pub write_refused : (f : Fault) (out : List ℕ) → Checks (sheet_causes s) s (number_of f) place free gauges → Writes s out out (number_of f) place 0
  unfolding write_causes
  write_refused f out c =
      let own : some_holds (sheet_causes s) ≡ true = by_bool (some_holds (sheet_causes s))
      (λ e. e)
      (λ e. absurd (fault_not-0 f (c.number_is ∙ ap (λ (r : Refusal). r.number) (none_first (sheet_causes s) e)))) in
      let e = first_earlier (sheet_causes s) _ own in
      record {
        number_is = c.number_is ∙ ap (λ (r : Refusal). r.number) (sym e);
        place_is = c.place_is ∙ ap (λ (r : Refusal). r.place) (sym e);
        untouched = λ h. (refl, refl);
        written = λ w. absurd (fault_not-0 f w);
      }

  pub checked_keeps : Checks (sheet_causes s) s 0 place free gauges → Keeps s
  checked_keeps c = none-keeps s (checks_none c (sheet_numbered s) refl)

-- ---- the normal sheet of a sheet that keeps the rules

module _ (s : Sheet) (out : List ℕ) (K : Keeps s) where
  none : some_holds (sheet_causes s) ≡ false
  none = keeps-none s K

  -- so many frames are so many bytes
  module _ {ks : List Kind} {count size : ℕ} (seen : Visited s ks count) (sized : size ≡ frame_start s.form count) where
    whole : size ≡ length (normal_bytes s)
    whole = sized ∙ ap (frame_start s.form) seen.counted ∙ sym (bytes-length s.form (normal_frames s))

    pub write_short : length out < size → Writes s out out Number.normal_no_room 0 0
    unfolding write_causes first
    write_short h =
        let e : refusal s (length out) ≡ record { number = Number.normal_no_room; place = 0 } =
        first-later (sheet_causes s) _ none ∙ rw (lt-ltb (length out) (length (normal_bytes s)) (omega (arith, h, whole))) in
        record {
          number_is = ap (λ (r : Refusal). r.number) (sym e);
          place_is = ap (λ (r : Refusal). r.place) (sym e);
          untouched = λ l. (refl, refl);
          written = λ w. absurd (omega arith);
        }

    same_kinds : take count ks ≡ normal_frames s
    same_kinds = ap (λ (n : ℕ). take n ks) seen.counted ∙ seen.holds.begins

    pub kinds-fit : AllFit s.form (take count ks)
    kinds-fit = subst (AllFit s.form) (sym same_kinds)
        (written-fit s.form (normal-written s K) (omega (arith, normal-few s K, K.most)))

    pub kinds-start : frame_start s.form (length (take count ks)) ≡ size
    kinds-start = ap (λ (l : List Kind). frame_start s.form (length l)) same_kinds ∙ ap (frame_start s.form) (sym seen.counted) ∙ sym sized

    pub write_written : {out' : List ℕ} → size ≤ length out → out' ≡ sets out 0 (frames_bytes s.form (take count ks)) → Writes s out out' 0 0 size
    unfolding write_causes first
    write_written {out'} h w =
        let e : refusal s (length out) ≡ record { number = 0; place = 0 } =
        first-later (sheet_causes s) _ none ∙ rw (le-ltb (length out) (length (normal_bytes s)) (omega (arith, h, whole))) in
        record {
          number_is = ap (λ (r : Refusal). r.number) (sym e);
          place_is = ap (λ (r : Refusal). r.place) (sym e);
          untouched = λ l. absurd (omega arith);
          written = λ k. (
            whole,
            w ∙ ap (λ (l : List Kind). sets out 0 (frames_bytes s.form l)) same_kinds ∙ sets-start (normal_bytes s) out (omega (arith, h, whole))
                ∙ ap (λ (i : ℕ). normal_bytes s ++ drop i out) (sym whole),
          );
        }
