-- What is kept is true of its node, and what is kept of a node tells its value. Assumes nothing.
use Rattle.std.specs.Prelude.{ℕ, ◌<◌, ◌^◌, ◌≡◌, Bool, false, List}
use Rattle.std.proofs.Common.{mod-eq_of_lt, lt_of_le_of_lt, arith, ◌∙◌}
use Rattle.std.specs.Int.Bits.{bit_and}
use Rattle.words.specs.Word.{bit}
use Rattle.words.proofs.Mask.{sub-le, sub-lt, and-sub, inside-sub, bits_masked}
use Rattle.formula.specs.Formula.{Formula}
use Rattle.formula.specs.Ask.{Bounded}
use Rattle.formula.proofs.Ask.{free_mask-lt}
use Rattle.formula.specs.Reason.{Explains}
use Rattle.formula.proofs.ReasonWord.{word-values, word-sub}
use Rattle.form.specs.Form.{variables, word_end}
use Rattle.form.proofs.FormLaws.{end_power}
use Rattle.form.specs.declared.Form.{Form}
use Rattle.form.specs.declared.Form.TheVariants.{Narrow, Wide}
use Rattle.records.specs.Table.{Valid, Kept}
use Rattle.records.proofs.Table.{grown_refl}
use Rattle.records.specs.Put.{Put}
use Rattle.records.proofs.PutLaws.{valid_put, kept_put}
use Rattle.records.proofs.LocateLaws.{inside-all}
use Rattle.net.specs.Layout.{net_form, frames_of, changed, formula_at, Ground, val, ground_formed}
use Rattle.net.specs.Stands.{Stands, explains_stands}
use Rattle.proxies.specs.Kept.{all, low_word, Noted}
use Rattle.proxies.specs.Growing.{Growing}
use Rattle.proxies.specs.KeptLaws.{low_bit}

pub low-lt : (F : Form) (w : ℕ) → low_word F w < word_end F
low-lt Narrow w = omega arith
low-lt Wide w = omega arith

-- a low word fits into a record
pub low_fits : (F : Form) {x : ℕ} (w : ℕ) → x ≡ low_word F w → x < word_end F
low_fits F w e = rw e (low-lt F w)

module _ (F : Form) {f : Formula} {v : Bool} (B : Bounded (variables F) f) (r w : ℕ) where
  -- and a reason has no others
  reason-lt : Explains f v (bit r) (bit w) → r < 2 ^ variables F
  reason-lt E = sub-lt (variables F) (word-sub r w E (variables F) B) (free_mask-lt (variables F) f)

-- ---- a record that is put: `mask` is the low word of the reason r, x that of the values which the word w gives its variables

module _ {F : Form} {frame mask x : ℕ} (w r : ℕ) (em : mask ≡ low_word F r) (ex : x ≡ low_word F (bit_and w r)) (net : List ℕ) (G : Ground net) (ef : F ≡ net_form net) (h : frame < frames_of net) where
  put-new : {b : Bool} {t t' : List ℕ} {c c' : ℕ} → Explains (formula_at net frame) b (bit r) (bit w) → Put F t c t' c' frame mask x
      → ((φ : ℕ → Formula) → Stands (φ frame) (formula_at net frame) → Valid (net_form net) φ (frames_of net) b t c → Valid (net_form net) φ (frames_of net) b t' c')
      × Kept (net_form net) t' c' frame (all (net_form net)) (low_word (net_form net) w)
  put-new E p =
      let B = ground_formed G frame in
      let l = reason-lt (net_form net) B r w E in
      let low : r < word_end (net_form net) = rw (end_power (net_form net)) l in
      let e : mask ≡ r = (rw ef at em) ∙ mod-eq_of_lt low in
      let y : x ≡ bit_and w r = (rw ef at ex) ∙ mod-eq_of_lt (lt_of_le_of_lt (sub-le (and-sub w r)) low) in
      let q = rw (e, y, ef) at p in (
        λ φ S valid. valid_put valid q h (and-sub w r) (word-values r w (explains_stands S E)),
        kept_put (all (net_form net)) (low_word (net_form net) w) q (inside-sub r (all (net_form net)) (rw (end_power (net_form net)) (inside-all (variables (net_form net)) r l)))
            (bits_masked r w (low_word (net_form net) w) (λ k i. low_bit (net_form net) w k (B.below k (E.inside k i)))),
      )

module _ {F : Form} {frame v mask x : ℕ} {u : List ℕ} {cu : ℕ} {o : List ℕ} {co : ℕ} (w r : ℕ) (em : mask ≡ low_word F r) (ex : x ≡ low_word F (bit_and w r)) where
  pub noted_under : {u' : List ℕ} {cu' : ℕ} → v ≡ 2 → Put F u cu u' cu' frame mask x
      → (net : List ℕ) → Ground net → F ≡ net_form net → frame < frames_of net → changed net frame ≡ false → Explains (formula_at net frame) (val v) (bit r) (bit w)
      → Growing net u cu o co u' cu' o co × Noted (net_form net) frame v w u' cu' o co
  unfolding val
  noted_under ev p net G ef h q E =
      let n = put-new w r em ex net G ef h (rw ev at E) p in (
        record {
          under = rw ef at p.grown;
          over = grown_refl (net_form net) o co;
          true-still = λ φ A T. record { under = n.0 φ (A.each frame h q) T.under; over = T.over };
        },
        record { under = λ e. n.1; over = λ e. absurd (omega (arith, ev, e)) },
      )

  pub noted_over : {o' : List ℕ} {co' : ℕ} → v ≡ 1 → Put F o co o' co' frame mask x
      → (net : List ℕ) → Ground net → F ≡ net_form net → frame < frames_of net → changed net frame ≡ false → Explains (formula_at net frame) (val v) (bit r) (bit w)
      → Growing net u cu o co u cu o' co' × Noted (net_form net) frame v w u cu o' co'
  unfolding val
  noted_over ev p net G ef h q E =
      let n = put-new w r em ex net G ef h (rw ev at E) p in (
        record {
          under = grown_refl (net_form net) u cu;
          over = rw ef at p.grown;
          true-still = λ φ A T. record { under = T.under; over = n.0 φ (A.each frame h q) T.over };
        },
        record { under = λ e. absurd (omega (arith, ev, e)); over = λ e. n.1 },
      )
