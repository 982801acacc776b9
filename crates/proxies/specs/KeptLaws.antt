-- What is kept is true of its node, and what is kept of a node tells its value. Assumes nothing.
use Rattle.std.specs.Prelude.{ℕ, ◌-◌, ◌%◌, ◌<◌, ◌^◌, ◌≡◌, Bool, true, false, ◌&&◌, ◌⊎◌, List, ltb}
use Rattle.std.proofs.Common.{arith, sym, ◌∙◌, ap, inl, inr, lt-ltb}
use Rattle.std.proofs.Math.Bool.{and-true}
use Rattle.std.proofs.lemmas.Nat.{and_mask}
use Rattle.words.specs.Word.{bit}
use Rattle.words.proofs.Bits.{bit-and, bit-ones}
use Rattle.words.proofs.Mask.{sub-bits}
use Rattle.formula.specs.Formula.{Formula}
use Rattle.formula.specs.Ask.{Bounded}
use Rattle.formula.specs.Reason.{Explains}
use Rattle.formula.proofs.Reason.{explains_set}
use Rattle.form.specs.Form.{variables}
use Rattle.form.proofs.FormLaws.{end_power}
use Rattle.form.specs.declared.Form.{Form}
use Rattle.records.specs.Table.{Valid, mask_at, matches}
use Rattle.records.proofs.Table.{matches-all, matches_explains}
use Rattle.records.specs.Search.{FirstBelow}
use Rattle.records.specs.Both.{Tables}
use Rattle.net.specs.Layout.{net_form, frames_of, changed, formula_at, Ground, val, ground_formed}
use Rattle.net.specs.Stands.{stands-sym, explains_stands}
use Rattle.net.specs.Sheet.{Faithful}
use Rattle.proxies.specs.Kept.{all, low_word, RecordAt, RecordedNode, Noted}
use Rattle.imply.specs.Posed.{Covers}
use Rattle.proxies.specs.Told.{Told}

pub told_of : {net : List ℕ} {m w i v r : ℕ} → Covers net i m → 0 < v → v < 3 → Explains (formula_at net i) (val v) (bit r) (bit w) → Told net m w i v r
told_of {m = m} {r = r} c s l e = record {
  some = s;
  forced = record { low = l; explains = e; assigned = sub-bits r m (λ k h. c.all k (e.inside k h)) };
}

-- ---- records, which speak of the variables of their form

-- the mask of all of them
pub bit-all : (F : Form) (k : ℕ) → bit (all F) k ≡ ltb k (variables F)
bit-all F k = ap (λ (x : ℕ). bit (x - 1) k) (end_power F) ∙ bit-ones (variables F) k

pub low_bit : (F : Form) (w k : ℕ) → k < variables F → bit (low_word F w) k ≡ bit w k
low_bit F w k h =
    ap (λ (x : ℕ). bit (w % x) k) (end_power F)
    ∙ ap (λ (x : ℕ). bit x k) (sym (and_mask w (variables F)))
    ∙ bit-and w (2 ^ variables F - 1) k
    ∙ ap (λ (b : Bool). bit w k && b) (bit-ones (variables F) k ∙ lt-ltb k (variables F) h)
    ∙ and-true (bit w k)

module _ (F : Form) {f : Formula} {v : Bool} (B : Bounded (variables F) f) (r w : ℕ) where
  -- of a word the variables of a reason are enough
  from_low : Explains f v (bit r) (bit (low_word F w)) → Explains f v (bit r) (bit w)
  from_low E = explains_set E (bit w) (λ k e. low_bit F w k (B.below k (E.inside k e)))

-- the record that a search found, with `every` variable assigned and the low part of w as its setting
pub recorded_at : {F : Form} {t : List ℕ} {count frame every setting j r : ℕ} (w : ℕ) → every ≡ all F → setting ≡ low_word F w
    → FirstBelow (matches F t frame every setting) count j → r ≡ mask_at F t j → RecordAt F t count frame w r
recorded_at {j = j} w ea es f e = record { at = j; counted = f.counted; hit = rw (ea, es) at f.hit; reason = e }

-- a record that matches, of a table that is true of what the nodes stand for
matched : {net : List ℕ} {φ : ℕ → Formula} {b : Bool} {t : List ℕ} {count : ℕ} (i j w : ℕ) → Faithful φ net → Valid (net_form net) φ (frames_of net) b t count → changed net i ≡ false
    → j < count → matches (net_form net) t i (all (net_form net)) (low_word (net_form net) w) j ≡ true → Explains (formula_at net i) b (bit (mask_at (net_form net) t j)) (bit (low_word (net_form net) w))
matched {net} {t = t} i j w A valid q l e =
    let m = matches-all (net_form net) t i (all (net_form net)) (low_word (net_form net) w) j e in
    let below : i < frames_of net = rw m.frame_is at (valid.each j l).below in
    explains_stands (stands-sym (A.each i below q)) (matches_explains i (all (net_form net)) (low_word (net_form net) w) j valid l e)

-- a record that agrees gives the node its value, and is one that is kept
pub recorded_told : {net : List ℕ} {φ : ℕ → Formula} {i m w v r : ℕ} {u : List ℕ} {cu : ℕ} {o : List ℕ} {co : ℕ} → Ground net → Faithful φ net → Tables (net_form net) φ (frames_of net) u cu o co
    → Covers net i m → 0 < v → RecordedNode net i w u cu o co v r → Told net m w i v r × Noted (net_form net) i v w u cu o co
unfolding val
recorded_told {net} {φ} {i} {m} {w} {v} {r} {u} {cu} {o} {co} G A T C s R = by (R.recorded s)
  where
    by : ((v ≡ 2) × RecordAt (net_form net) u cu i w r) ⊎ ((v ≡ 1) × RecordAt (net_form net) o co i w r) → Told net m w i v r × Noted (net_form net) i v w u cu o co
    by (inl (e, c)) = (
      told_of C s (omega (arith, e)) (rw (e, c.reason) (from_low (net_form net) (ground_formed G i) (mask_at (net_form net) u c.at) w (matched i c.at w A T.under (R.unchanged s) c.counted c.hit))),
      record { under = λ q. inr (c.at, c.counted, c.hit); over = λ q. absurd (omega (arith, e, q)) },
    )
    by (inr (e, c)) = (
      told_of C s (omega (arith, e)) (rw (e, c.reason) (from_low (net_form net) (ground_formed G i) (mask_at (net_form net) o c.at) w (matched i c.at w A T.over (R.unchanged s) c.counted c.hit))),
      record { under = λ q. absurd (omega (arith, e, q)); over = λ q. inr (c.at, c.counted, c.hit) },
    )
