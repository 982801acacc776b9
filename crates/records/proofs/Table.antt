-- A table of records (frame, mask, values) in either form, of which the first `count` are kept. Assumes nothing.
use Rattle.std.specs.Prelude.{◌≡◌, refl, Bool, true, ◌&&◌, List, ℕ, ◌+◌, ◌<◌, eqb}
use Rattle.std.proofs.Common.{◌∙◌, inl, inr, arith}
use borrow.Author.Tests.{eqb-true, eq-eqb}
use Rattle.words.proofs.Logic.{and_both}
use Rattle.words.specs.Word.{bit}
use Rattle.words.specs.Mask.{Sub, inside, agree}
use Rattle.words.proofs.Mask.{inside-sub, sub-inside, bits_agree}
use Rattle.formula.specs.Formula.{Formula}
use Rattle.formula.specs.Reason.{Explains}
use Rattle.formula.proofs.ReasonWord.{word-agree}
use Rattle.form.specs.Form.{record_numbers, record_start}
use Rattle.form.proofs.FormLaws.{start_none, start_mono, start-before}
use Rattle.form.specs.declared.Form.{Form}
pub use Rattle.records.specs.Layout.{frame_at, mask_at, values_at}
use Rattle.records.specs.Layout.{number_at, Reads}
use Rattle.records.proofs.LayoutLaws.{some-numbers, mask-same, values_same}
use Rattle.records.specs.Table.{Grown, Holds, Kept, Matches, Valid, matches}

module _ (F : Form) (t : List ℕ) (frame assigned setting j : ℕ) where
  pub matches-all : matches F t frame assigned setting j ≡ true → Matches F t frame assigned setting j
  unfolding matches
  matches-all e =
      let p = and_both (eqb (frame_at F t j) frame) (inside (mask_at F t j) assigned && agree (mask_at F t j) (values_at F t j) setting) e in
      let q = and_both (inside (mask_at F t j) assigned) (agree (mask_at F t j) (values_at F t j) setting) p.1 in
      record { frame_is = eqb-true (frame_at F t j) frame p.0; inside = inside-sub (mask_at F t j) assigned q.0; agrees = q.1 }

  pub all-matches : Matches F t frame assigned setting j → matches F t frame assigned setting j ≡ true
  unfolding matches
  all-matches m = rw (eq-eqb (frame_at F t j) frame m.frame_is, sub-inside m.inside, m.agrees)

-- ---- laws

-- a kept record agrees with its own values
pub holds-agrees : {F : Form} {φ : ℕ → Formula} {n : ℕ} {v : Bool} {t : List ℕ} {j : ℕ} → Holds F φ n v t j → agree (mask_at F t j) (values_at F t j) (values_at F t j) ≡ true
holds-agrees {F} {t = t} {j = j} h = bits_agree (mask_at F t j) (values_at F t j) (values_at F t j) h.within (λ k i. refl)

-- nothing is claimed of a table from which nothing is counted
pub valid_empty : (F : Form) (φ : ℕ → Formula) (n : ℕ) (v : Bool) (t : List ℕ) → Valid F φ n v t 0
valid_empty F φ n v t = record { fits = omega (arith, start_none F); each = λ j l. absurd (omega arith) }

pub grown_refl : (F : Form) (t : List ℕ) (count : ℕ) → Grown F t count t count
grown_refl F t count = record { same = refl; more = omega arith; kept = λ i l. refl; behind = λ i l. refl }

pub grown_trans : {F : Form} {t t' t'' : List ℕ} {c c' c'' : ℕ} → Grown F t c t' c' → Grown F t' c' t'' c'' → Grown F t c t'' c''
grown_trans {F} g h = record {
  same = h.same ∙ g.same;
  more = omega (arith, g.more, h.more);
  kept = λ i l. h.kept i (omega (arith, start_mono F g.more)) ∙ g.kept i l;
  behind = λ i l. h.behind i l ∙ g.behind i (omega (arith, start_mono F h.more));
}

-- a counted record is the same in the grown table
module _ {F : Form} {t t' : List ℕ} {c c' : ℕ} (g : Grown F t c t' c') (j : ℕ) (l : j < c) where
  grown_number : (i : ℕ) → i < record_numbers F → number_at F t' j i ≡ number_at F t j i
  grown_number i b = g.kept (record_start F j + i) (omega (arith, start-before F l))

  grown_record : Reads F t' j (frame_at F t j) (mask_at F t j) (values_at F t j)
  grown_record = record {
    frame_is = g.kept (record_start F j) (omega (arith, start-before F l, some-numbers F));
    mask_is = mask-same F _ _ grown_number;
    values_are = values_same F _ _ grown_number;
  }

  pub grown_matches : (frame assigned setting : ℕ) → matches F t' frame assigned setting j ≡ matches F t frame assigned setting j
  unfolding matches
  grown_matches frame assigned setting = let r = grown_record in rw (r.frame_is, r.mask_is, r.values_are)

  pub grown_holds : (φ : ℕ → Formula) (n : ℕ) (v : Bool) → Holds F φ n v t j → Holds F φ n v t' j
  grown_holds φ n v h =
      let r = grown_record in
      record {
        below = rw r.frame_is h.below;
        within = rw (r.mask_is, r.values_are) h.within;
        explains = rw (r.frame_is, r.mask_is, r.values_are) h.explains;
      }

pub kept_grown : {F : Form} {t t' : List ℕ} {c c' : ℕ} (frame assigned setting : ℕ) → Grown F t c t' c' → Kept F t c frame assigned setting → Kept F t' c' frame assigned setting
kept_grown {F} {t} {t'} frame assigned setting g (inl h) =
    inl (rw g.same (omega (arith, g.more)))
kept_grown frame assigned setting g (inr (j, l, e)) =
    inr (j, omega (arith, g.more), grown_matches g j l frame assigned setting ∙ e)

-- a match in a valid table
module _ {F : Form} {φ : ℕ → Formula} {n : ℕ} {v : Bool} {t : List ℕ} {count : ℕ} (frame assigned setting j : ℕ)
    (valid : Valid F φ n v t count) (l : j < count) (e : matches F t frame assigned setting j ≡ true) where
  pub matches_explains : Explains (φ frame) v (bit (mask_at F t j)) (bit setting)
  matches_explains =
      let m = matches-all F t frame assigned setting j e in
      rw m.frame_is at (word-agree (mask_at F t j) (values_at F t j) (valid.each j l).explains setting m.agrees)

  pub matches-sub : Sub (mask_at F t j) assigned
  matches-sub = (matches-all F t frame assigned setting j e).inside
