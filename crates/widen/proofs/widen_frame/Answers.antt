-- `widen::widen_frame` meets its contract.
use Rattle.std.proofs.Common.{◌*◌, arith}
use Rattle.form.specs.declared.Form.TheVariants.{Narrow}
use Rattle.sheet.specs.Fields.{laid}
use Rattle.widen.specs.Widen.{wide_bytes}
use Rattle.words.proofs.Stores.{stored}
use Rattle.widen.proofs.widen_frame.Goals as goal

pub returns : goal.returns
returns c = stored (c.args.k * 7) c.args.out.now (wide_bytes (laid Narrow c.args.sheet.now c.args.k)) c.copy_from_slice.ensures.after (omega arith) c.requires.1
