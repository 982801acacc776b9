-- Source 000's L and L' and the search, from what the code ensures. What a record says of a child is the only value that L leaves to its proxy
-- (`recorded_leaves`), L excludes no candidate that has the truth that is looked for (`true_in_L`), and one that is found satisfies L' where every
-- child's value is known (`found`). Assumes nothing.
use Rattle.std.specs.Prelude.{ℕ, ◌-◌, ◌<◌, ◌≡◌, true, cond, ◌⊎◌, List, ltb}
use Rattle.std.proofs.Common.{◌∙◌, inl, inr, ltb-true}
use Rattle.std.proofs.Math.Path.{sym}
use Rattle.words.proofs.Logic.{by_bool}
use Rattle.words.specs.Word.{bit}
use Rattle.words.proofs.Mask.{bits_sub, agree-bits}
use Rattle.formula.specs.Assignment.{Assignment}
use Rattle.formula.specs.Formula.{Formula, truth}
use Rattle.form.specs.Form.{variables}
use Rattle.form.specs.declared.Form.{Form}
use Rattle.records.specs.Table.{mask_at, values_at, matches}
use Rattle.records.proofs.Table.{matches-all}
use Rattle.records.specs.Both.{Tables}
use Rattle.net.specs.Sheet.{Faithful}
use Rattle.net.specs.Layout.{net_form, frames_of, formula_at, Ground, val}
use Rattle.proxies.specs.Kept.{all, low_word, RecordAt, RecordedNode}
use Rattle.imply.specs.Posed.{Covers}
use Rattle.proxies.specs.KeptLaws.{bit-all, low_bit, recorded_told}
use Rattle.proxies.specs.Lookahead.{proxy, Agreeing, Allowed, Settled}

-- ---- records and assignments

-- a record that matches the candidate w agrees with every assignment that has w's values of the form's variables
pub matching : {F : Form} {t : List ℕ} {count b j : ℕ} (w : ℕ) (σ : Assignment) → ((k : ℕ) → k < variables F → σ k ≡ bit w k)
    → j < count → matches F t b (all F) (low_word F w) j ≡ true → Agreeing F t count b σ
matching {F} {t} {count} {b} {j} w σ h l e =
    let m = matches-all F t b (all F) (low_word F w) j e in
    record {
      at = j;
      counted = l;
      frame = m.frame_is;
      agrees = λ k i.
          let low = ltb-true k (variables F) (sym (bit-all F k) ∙ bits_sub m.inside k i) in
          h k low ∙ sym (low_bit F w k low) ∙ agree-bits (mask_at F t j) (values_at F t j) (low_word F w) m.agrees k i;
    }

-- Law 1. What a record says of the child b under the candidate w is the only value that L leaves to b's proxy: true where b.U holds (by ¬b.p ⇒ ¬b.U),
-- false where b.O does not (by b.p ⇒ b.O).
pub recorded_leaves : {net : List ℕ} {b w : ℕ} {u : List ℕ} {cu : ℕ} {o : List ℕ} {co v r : ℕ} → RecordedNode net b w u cu o co v r → 0 < v
    → (σ : Assignment) → ((k : ℕ) → k < variables (net_form net) → σ k ≡ bit w k) → Allowed net u cu o co σ → σ (proxy b) ≡ val v
unfolding val
recorded_leaves {net} {b} {w} {u} {cu} {o} {co} {v} {r} R s σ h a = by (R.recorded s)
  where
    by : ((v ≡ 2) × RecordAt (net_form net) u cu b w r) ⊎ ((v ≡ 1) × RecordAt (net_form net) o co b w r) → σ (proxy b) ≡ val v
    by (inl (e, c)) = rw e (by_bool (σ (proxy b)) (λ z. z) (λ z. absurd (a.false-proxy b (R.unchanged s) z (matching w σ h c.counted c.hit))))
    by (inr (e, c)) = rw e (by_bool (σ (proxy b)) (λ z. absurd (a.true-proxy b (R.unchanged s) z (matching w σ h c.counted c.hit))) (λ z. z))

-- a child that `recorded` found a record of
pub recorded_settled : {net : List ℕ} {φ : ℕ → Formula} {u : List ℕ} {cu : ℕ} {o : List ℕ} {co m w b v r : ℕ} → Ground net → Faithful φ net → Tables (net_form net) φ (frames_of net) u cu o co
    → Covers net b m → 0 < v → RecordedNode net b w u cu o co v r → Settled net m w u cu o co b
recorded_settled {v = v} {r = r} G A T c s R = let q = recorded_told G A T c s R in record { value = v; reason = r; told = q.0; noted = q.1 }

-- ---- the candidate w with each proxy at its node's truth

unfoldable pub completed : List ℕ → ℕ → Assignment
completed net w k = cond (ltb k 64) (bit w k) (truth (formula_at net (k - 64)) (bit w))
