-- Whether the matrix of a question is neither always true nor always false, as its codes and one question to the solver tell. Assumes nothing.
use Rattle.std.specs.Prelude.{ℕ, Bool, true, false, List, ◌≡◌}
use Rattle.std.proofs.Common.{sym, ap, subst, ◌∙◌}
use Rattle.words.proofs.Logic.{clash}
use Rattle.words.specs.Word.{bit}
use Rattle.words.proofs.Bits.{bit-none, ext}
use Rattle.words.proofs.Mask.{none-sub}
use Rattle.formula.specs.Ask.{Verdict, free_mask, ask, Entries}
use Rattle.formula.proofs.Ask.{bit-free, ask-some, ask-never}
use Rattle.formula.specs.Gauges.{verdict}
use Rattle.formula.proofs.GaugeLaws.{verdict-none}
use Rattle.sheet.specs.Fields.{Sheet, narrow, kind}
use Rattle.sheet.specs.Rules.{binds, gauges}
use Rattle.sheet.proofs.AcceptedLaws.{ordered-bounded}
use Rattle.records.proofs.Both.{tables_none}
use Rattle.net.specs.Layout.{free_of}
use Rattle.net.specs.Sheet.{Checked, NetOf, checked_net}
use Rattle.solver.specs.Contract.{last, root, Ready, verdict_of, Same}
use Rattle.prenex.specs.Question.{Clause, matrix_truth, occurs}
use Rattle.prenex.specs.Kinds.{matrix_kinds, sheet_bytes}
use Rattle.prenex.specs.Code.{clauses_of, all_opposed}
use Rattle.prenex.proofs.Opposed.{opposed-true, unopposed_false}
use Rattle.prenex.specs.QuestionLaws.{SheetOfMatrix}
use Rattle.prenex.proofs.QuestionLaws.{matrix-sheet}
use Rattle.qdimacs.specs.MatrixAsked.{Judged, Matrix}

-- always true
pub judged-true : {cs : List Clause} {r : Bool} → all_opposed cs ≡ true → r ≡ false → Judged cs r
judged-true {cs} {r} e f = record {
  is_contingent = λ t. clash r t f;
  is-settled = λ t c. clash (matrix_truth cs c.makes_false.0) (opposed-true cs e c.makes_false.0) c.makes_false.1;
}

-- a checked sheet can be asked over its net: nothing is entered, and there is no record
pub ready_none : {s : Sheet} {net : List ℕ} {free : ℕ} (under over : List ℕ) → Checked s free → NetOf s net → Ready s net 0 0 under 0 over 0
ready_none {net = net} under over k n = record {
  checked = checked_net k n;
  net_of = n;
  entered = none-sub (free_of net);
  valued = none-sub 0;
  tables = tables_none under over;
}

module _ {codes frames : List ℕ} (m : Matrix codes frames) where
  abbrev clauses : List Clause
  clauses = clauses_of codes

  abbrev matrix : Sheet
  matrix = narrow (sheet_bytes (matrix_kinds clauses))

  of_sheet : SheetOfMatrix clauses
  of_sheet = matrix-sheet clauses m.some-clause m.below m.few

  entries : Entries 32 (root matrix) 0 0
  entries = record {
    bounded = ordered-bounded 32 (kind matrix) of_sheet.ordered (last matrix);
    opened = none-sub (free_mask 32 (root matrix));
    valued = none-sub 0;
  }

  -- its frames make a checked sheet: none binds a variable
  pub matrix_checked : {all : ℕ} → bit all ≡ occurs clauses → Checked (narrow frames) all
  matrix_checked {all} e =
      subst (λ (s : List ℕ). Checked (narrow s) all) (sym m.frames_are)
      (record {
        ordered = of_sheet.ordered;
        some = of_sheet.least;
        few = of_sheet.most;
        opens = ext all _ (λ k. ap (λ (p : ℕ → Bool). p k) e ∙ sym (of_sheet.free-is k) ∙ sym (bit-free entries.bounded k));
        once = λ j k v h i t u. clash (binds (kind matrix j) v) t (of_sheet.unbound j v h);
        closed = λ k v h t. clash (binds (kind matrix k) v) t (of_sheet.unbound k v h);
      })

  -- and none of them is a gauge
  pub matrix-ungauged : 0 ≡ gauges (narrow frames)
  matrix-ungauged = sym (ap (λ (s : List ℕ). gauges (narrow s)) m.frames_are ∙ of_sheet.ungauged)

  asked : verdict_of (narrow frames) 0 0 ≡ ask 32 (root matrix) 0 0
  asked = ap (λ (s : List ℕ). verdict_of (narrow s) 0 0) m.frames_are ∙ ap (λ (g : ℕ). verdict 32 (root matrix) g 0 0) of_sheet.ungauged ∙ verdict-none entries

  -- false under some assignment: the answer tells whether it is true under another
  pub judged-asked : {holds : Bool} {word : ℕ} → all_opposed clauses ≡ false → Same (verdict_of (narrow frames) 0 0) holds word → Judged clauses holds
  judged-asked {holds} {word} e a =
      let h : holds ≡ (ask 32 (root matrix) 0 0).holds = a.holds ∙ ap (λ (v : Verdict). v.holds) asked in
      record {
        is_contingent = λ t.
            let f = ask-some 32 (root matrix) 0 0 (sym h ∙ t) in
            record { makes_true = (f.0, sym (of_sheet.truth-is f.0) ∙ f.2); makes_false = unopposed_false clauses e };
        is-settled = λ t c.
            let σ = c.makes_true.0 in
            clash (matrix_truth clauses σ) c.makes_true.1
            (sym (of_sheet.truth-is σ) ∙ ask-never entries (sym h ∙ t) σ (λ k b. clash (bit 0 k) b (bit-none k)));
      }
