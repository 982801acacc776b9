-- `records::locate` meets its contract: with every variable assigned, a record matches exactly if it agrees. Assumes nothing.
use Rattle.std.proofs.Common.{sym, ◌∙◌, arith}
use Rattle.records.proofs.FindLaws.{hit_under_full, hit-over-full, hit_under, hit-over, hit_neither}
use Rattle.records.proofs.LocateLaws.{first-is, first-none}
use Rattle.records.proofs.locate.Goals as goal

pub returns-then-under_count-room : goal.returns-then-under_count-room
returns-then-under_count-room c =
    sym (hit_under_full _ _ _ _ _ _ _ (omega arith))

pub returns-then-over_count-room : goal.returns-then-over_count-room
returns-then-over_count-room c =
    sym (hit-over-full _ _ _ _ _ _ _ (omega arith))

pub returns-in-Some : goal.returns-in-Some
returns-in-Some c =
    sym (hit_under _ _ _ _ _ _ _ (omega arith) (omega arith) (first-is _ _ _ _ _ (λ i. (c.type_inv.under i).fits) c.in-Some.ensures) c.in-Some.ensures.counted)

pub returns : goal.returns
returns c =
    sym (hit-over _ _ _ _ _ _ _ (omega arith) (omega arith)
    (first-none _ _ _ _ _ (λ i. (c.type_inv.under i).fits) c.in_default.ensures)
    (first-is _ _ _ _ _ (λ i. (c.type_inv.over i).fits) c.in_ok-j.ensures) c.in_ok-j.ensures.counted)

pub returns-in_err-j : goal.returns-in_err-j
returns-in_err-j c =
    c.from_residual.ensures ∙ sym (hit_neither _ _ _ _ _ _ _ (omega arith) (omega arith)
    (first-none _ _ _ _ _ (λ i. (c.type_inv.under i).fits) c.in_default.ensures)
    (first-none _ _ _ _ _ (λ i. (c.type_inv.over i).fits) c.in_err-j.ensures))
