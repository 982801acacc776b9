-- The cells are filled node by node. Assumes nothing.
use Rattle.std.specs.Prelude.{ℕ, ◌+◌, ◌≤◌, ◌<◌, ◌≡◌, List, length, eqb}
use Rattle.std.proofs.Common.{arith, eqb-true}
use Rattle.std.proofs.lemmas.Bool.{eqb-false}
use Rattle.words.proofs.Logic.{by_bool}
use Rattle.judge.specs.Cells.{HasCell, value_of, reason_of, Stored}
use Rattle.judge.specs.CellLaws.{stored-long, stored-value, stored-reason, other-value, other-reason}
use Rattle.judge.specs.Judge.{Right}
use Rattle.judge.specs.JudgeLaws.{right-low}
use Rattle.implicant.specs.Implicant.{Shows}

module _ {net : List ℕ} {m w : ℕ} {cells : List ℕ} where
  pub shows_none : length net ≤ 67 + length cells → Shows net m w cells 0
  shows_none l = record { long = l; each = λ j h. absurd (omega arith) }

  pub shows_at : {k j v r : ℕ} → Shows net m w cells k → j < k → v ≡ value_of cells j → r ≡ reason_of cells j → Right net m w j v r
  shows_at {j = j} s l p q = rw (p, q) (s.each j l)

  pub shows_next : {k v r head head' : ℕ} {cells' : List ℕ} → HasCell cells k → Shows net m w cells k → Right net m w k v r → Stored k v r head cells cells' head' → Shows net m w cells' (k + 1)
  shows_next {k} h s f S = record {
    long = rw (stored-long S) s.long;
    each = λ j l. by_bool (eqb j k)
        (λ e. rw (eqb-true j k e, stored-value S h (right-low f), stored-reason S h) f)
        (λ e. rw (other-value S j (eqb-false j k e), other-reason S j (eqb-false j k e)) (s.each j (omega (arith, eqb-false j k e))));
  }
