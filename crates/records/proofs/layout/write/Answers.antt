-- `records::layout::write` meets its contract: the numbers written over the record's part are its numbers. Assumes nothing.
use Rattle.std.proofs.Common.{arith}
use Rattle.form.specs.declared.Form.TheVariants.{Narrow, Wide}
use Rattle.records.specs.Layout.{numbers}
use Rattle.words.proofs.Stores.{stored}
use Rattle.records.proofs.layout.write.Goals as goal

pub returns-in-Narrow : goal.returns-in-Narrow
returns-in-Narrow c =
    let new = rw (c.low.ensures, c.low-in-Narrow.ensures) at c.copy_from_slice.ensures.after in
    let size = rw c.in-Narrow.is at c.requires in
    rw c.in-Narrow.is (stored _ _ (numbers Narrow c.args.r.frame c.args.r.mask c.args.r.values) new (omega arith) (omega arith))

pub returns-in-Wide : goal.returns-in-Wide
returns-in-Wide c =
    let new =
    rw (
      c.low-in-Wide.ensures,
      c.high.ensures,
      c.low-in-Wide-2.ensures,
      c.high-in-Wide.ensures,
    ) at c.copy_from_slice-in-Wide.ensures.after in
    let size = rw c.in-Wide.is at c.requires in
    rw c.in-Wide.is (stored _ _ (numbers Wide c.args.r.frame c.args.r.mask c.args.r.values) new (omega arith) (omega arith))
