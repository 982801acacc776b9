-- The records in the course of a run: no line, one line more, and what holds from one line to a later one. Assumes nothing.
use Rattle.std.specs.Prelude.{ℕ, zero, suc, ◌+◌, ◌≤◌, ◌<◌, ◌≡◌, refl, cond, List, eqb, leb}
use Rattle.std.proofs.Common.{arith, add-one, ◌∙◌, le-leb}
use Rattle.std.proofs.lemmas.Bool.{lt-leb}
use Rattle.words.specs.Logic.{tests}
use Rattle.words.proofs.Logic.{by_bool}
use Rattle.sheet.specs.Fields.{Sheet}
use Rattle.records.proofs.Table.{kept_grown}
use Rattle.records.proofs.Both.{tables_none, tables_same, tables_then}
use Rattle.certificate.specs.Run.{Held, as_lent, Grows, Promised-at, LineRecords, History}
use Rattle.certificate.specs.History.{RecordsTrue}

-- ---- tables that grow

pub lent-true : (sheet : Sheet) (under over : List ℕ) → RecordsTrue sheet (as_lent under over)
lent-true sheet under over = tables_none under over

-- what was promised still stands in larger tables
pub promised_grows : (sheet : Sheet) (script : List ℕ) (i : ℕ) {h h' : Held} → Grows sheet h h' → Promised-at sheet script i h → Promised-at sheet script i h'
promised_grows sheet script i g p = (λ y. kept_grown _ _ _ g.under (p.0 y), λ n. kept_grown _ _ _ g.over (p.1 n))

-- ---- no line, and one line more

pub history-none : {sheet : Sheet} {script : List ℕ} (h : Held) → History sheet script 0 h h
history-none h = record { records = λ i. h; starts = refl; each = λ i l. absurd (omega arith); ends = refl }

module _ {sheet : Sheet} {script : List ℕ} {n : ℕ} {h h₁ h₂ : Held} (H : History sheet script n h h₁) (K : LineRecords sheet script n h₁ h₂) where
  longer : ℕ → Held
  longer i = cond (leb i n) (H.records i) h₂

  longer-old : (i : ℕ) → i ≤ n → longer i ≡ H.records i
  unfolding longer
  longer-old i l = rw (le-leb i n l)

  longer-new : longer (n + 1) ≡ h₂
  unfolding longer
  longer-new = rw (lt-leb (n + 1) n (omega arith))

  longer_each : (i : ℕ) → i < n + 1 → LineRecords sheet script i (longer i) (longer (i + 1))
  longer_each i l = by_bool (eqb i n)
      (λ t. let e : i ≡ n = omega tests in rw (e, longer-old n (omega arith), H.ends, longer-new) K)
      (λ t. rw (longer-old i (omega tests), longer-old (i + 1) (omega tests)) (H.each i (omega tests)))

  pub history-next : History sheet script (n + 1) h h₂
  history-next = record { records = longer; starts = longer-old 0 (omega arith) ∙ H.starts; each = longer_each; ends = longer-new }

-- ---- from one line to a later one

module _ {sheet : Sheet} {script : List ℕ} {n : ℕ} {h h' : Held} (H : History sheet script n h h') (t : RecordsTrue sheet h) where
  pub history-true : (i : ℕ) → i ≤ n → RecordsTrue sheet (H.records i)
  history-true zero l = rw H.starts t
  history-true (suc i) l = rw (add-one i) at (H.each i (omega arith)).grows.tables

  pub history_grows : (i j : ℕ) → i ≤ j → j ≤ n → Grows sheet (H.records i) (H.records j)
  history_grows i zero l m = let e : i ≡ 0 = omega arith in rw e (tables_same (history-true 0 (omega arith)))
  history_grows i (suc j) l m = by_bool (eqb i (suc j))
      (λ t. let e : i ≡ suc j = omega tests in rw e (tables_same (history-true (suc j) m)))
      (λ t. tables_then (history_grows i j (omega tests) (omega arith)) (rw (add-one j) at (H.each j (omega arith)).grows))
