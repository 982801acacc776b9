-- `normal::bytes::put_narrow` meets its contract.
use Rattle.std.proofs.Common.{arith}
use Rattle.form.specs.declared.Form.TheVariants.{Narrow}
use Rattle.normal.specs.Normal.{frame_of}
use Rattle.words.proofs.Stores.{stored}
use Rattle.normal.proofs.bytes.put_narrow.Goals as goal

pub returns : goal.returns
returns c = stored c.args.at c.args.out.now (frame_of Narrow c.args.f) c.copy_from_slice.ensures.after (omega arith) c.requires.1
