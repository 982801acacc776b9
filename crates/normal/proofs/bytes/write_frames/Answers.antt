-- `normal::bytes::write_frames` meets its contract.
use Rattle.std.proofs.Common.{arith, sym, ◌∙◌}
use Rattle.normal.proofs.BytesLaws.{frame-before, frames_none, frames_next, frames_all}
use Rattle.normal.proofs.bytes.write_frames.Goals as goal

pub loop-number-init : goal.loop-number-init
loop-number-init c = sym (frames_none c.args.form c.args.kinds.now c.args.out.now)

pub put_frame-requires : goal.put_frame-requires
put_frame-requires c = (
  rw c.fields_of.ensures (c.requires.0 c.loop-number.number c.loop-number-test.true),
  omega (arith, c.requires.1, frame-before c.args.form c.loop-number-test.true),
)

pub loop-number-preserved : goal.loop-number-preserved
loop-number-preserved c =
    c.put_frame.ensures ∙ rw (c.fields_of.ensures, c.loop-number.invariant) (frames_next c.args.form c.args.kinds.now c.args.out.now c.loop-number.number c.loop-number-test.true)

pub returns : goal.returns
returns c = c.loop-number.invariant ∙ frames_all c.args.form c.args.kinds.now c.args.out.now (omega arith)
