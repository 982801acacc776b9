-- `sheet::scan::root_answer` meets its contract: the words have a place in common exactly if the sets do.
use borrow.Author.Tests.{eq-eqb, ne_eqb}
use native.Mathlib.Nat.{lt_of_le_of_lt}
use lib.Bits.{and_le_r}
use Rattle.sheet.proofs.CheckLaws.{meet-bits}
use Rattle.sheet.proofs.scan.root_answer.Goals as goal

pub returns-then-seen-word-ne0 : goal.returns-then-seen-word-ne0
returns-then-seen-word-ne0 c =
    let m = meet-bits c.args.form c.args.seen.bound c.args.word (lt_of_le_of_lt (and_le_r c.args.seen.bound c.args.word) c.requires) in
    let t = ne_eqb _ _ c.if-seen-word-ne0.true in
    record { number_is = simp (m, t); place_is = simp (m, t); free-is = simp (m, t); gauges_are = simp (m, t) }

pub returns : goal.returns
returns c =
    let m = meet-bits c.args.form c.args.seen.bound c.args.word (lt_of_le_of_lt (and_le_r c.args.seen.bound c.args.word) c.requires) in
    let t = eq-eqb _ _ c.if-seen-word-ne0.false in
    record { number_is = simp (m, t); place_is = simp (m, t); free-is = simp (m, t); gauges_are = simp (m, t) }
