-- One record put behind the counted ones, where there is room. Assumes nothing.
use Rattle.std.specs.Prelude.{◌≡◌, refl, Bool, true, List, ℕ, ◌+◌, ◌<◌, ◌≤◌, length, get_or, ltb}
use Rattle.std.proofs.Common.{ap, ◌∙◌, inl, inr, arith}
use Rattle.std.proofs.lemmas.List.Edits.{sets}
use Rattle.std.proofs.Math.Seq.{length-sets}
use Rattle.words.specs.Logic.{tests}
use Rattle.words.proofs.Logic.{by_bool}
use Rattle.words.specs.Word.{bit}
use Rattle.words.specs.Mask.{Sub, agree}
use Rattle.formula.specs.Formula.{Formula}
use Rattle.formula.specs.Reason.{Explains}
use Rattle.form.specs.declared.Form.{Form}
use Rattle.form.specs.Form.{room, record_numbers, record_start, word_end}
use Rattle.form.proofs.FormLaws.{start-next, room_fits}
use Rattle.words.proofs.Stores.{sets-before, sets_behind, sets-at}
pub use Rattle.records.specs.Layout.{stored}
use Rattle.records.specs.Layout.{numbers, number_at}
use Rattle.records.proofs.LayoutLaws.{numbers-length, some-numbers, mask-same, values_same, frame_read, mask_read, values_read}
use Rattle.records.specs.Table.{Holds, Valid, Kept}
use Rattle.records.proofs.Table.{all-matches, grown_refl, grown_holds}
use Rattle.records.specs.Put.{Put}

-- the stores of a record's numbers
pub put_next : (F : Form) (t : List ℕ) (count frame mask values : ℕ) → count < room F (length t) → mask < word_end F → values < word_end F
    → Put F t count (stored F t count frame mask values) (count + 1) frame mask values
put_next F t count x y z h hm hv =
    let i = record_start F count in
    let ns = numbers F x y z in
    let n : length ns ≡ record_numbers F = numbers-length F x y z in
    let e = start-next F count in
    let fits : i + length ns ≤ length t = omega (arith, room_fits F {j = count + 1} {n = length t} (omega arith)) in
    let at : (k : ℕ) → k < record_numbers F → number_at F (sets t i ns) count k ≡ get_or ns k 0 = λ k b. sets-at ns t i k fits (omega arith) in
    record {
      grown = record {
        same = length-sets t i ns;
        more = omega arith;
        kept = λ k l. sets-before ns t i k l;
        behind = λ k l. sets_behind ns t i k (omega arith);
      };
      next = λ l. refl;
      put = λ l. record {
        frame_is = ap (λ (k : ℕ). get_or (sets t i ns) k 0) (let w : i ≡ i + 0 = omega arith in w) ∙ at 0 (some-numbers F) ∙ frame_read F x y z;
        mask_is = mask-same F _ _ at ∙ mask_read F x y z hm;
        values_are = values_same F _ _ at ∙ values_read F x y z hv;
      };
      full = λ l. absurd (omega arith);
    }

pub put_full : (F : Form) (t : List ℕ) (count frame mask values : ℕ) → room F (length t) ≤ count → Put F t count t count frame mask values
put_full F t count x y z h = record {
  grown = grown_refl F t count;
  next = λ l. absurd (omega arith);
  put = λ l. absurd (omega arith);
  full = λ l. (refl, refl);
}

-- ---- laws

-- a true record of a frame keeps the table valid
module _ {F : Form} {φ : ℕ → Formula} {n : ℕ} {v : Bool} {t t' : List ℕ} {count count' frame mask values : ℕ} where
  pub valid_put : Valid F φ n v t count → Put F t count t' count' frame mask values
      → frame < n → Sub values mask → Explains (φ frame) v (bit mask) (bit values) → Valid F φ n v t' count'
  valid_put valid p below within explains = by_bool (ltb count (room F (length t)))
      (λ e. let h : count < room F (length t) = omega tests in
      record {
        fits = rw (p.grown.same, p.next h) (room_fits F (omega arith));
        each = λ j l. by_bool (ltb j count)
            (λ d. grown_holds p.grown j (omega tests) φ n v (valid.each j (omega tests)))
            (λ d. let s : j ≡ count = omega (tests, p.next h) in rw s (new h));
      })
      (λ e. let q = p.full (omega tests) in rw (q.0, q.1) valid)
    where
      new : count < room F (length t) → Holds F φ n v t' count
      new h =
          let r = p.put h in
          record {
            below = rw r.frame_is below;
            within = rw (r.mask_is, r.values_are) within;
            explains = rw (r.frame_is, r.mask_is, r.values_are) explains;
          }

-- what was put is kept: it matches each setting that it agrees with
module _ {F : Form} {t t' : List ℕ} {count count' frame mask values : ℕ} where
  pub kept_put : (assigned setting : ℕ) → Put F t count t' count' frame mask values
      → Sub mask assigned → agree mask values setting ≡ true → Kept F t' count' frame assigned setting
  kept_put assigned setting p s a = by_bool (ltb count (room F (length t)))
      (λ e. let h : count < room F (length t) = omega tests in
      let r = p.put h in
      inr (
        count,
        omega (arith, p.next h),
        all-matches F t' frame assigned setting count
            (record { frame_is = r.frame_is; inside = rw r.mask_is s; agrees = rw (r.mask_is, r.values_are) a }),
      ))
      (λ e. inl (rw p.grown.same (omega (tests, (p.full (omega tests)).0))))
