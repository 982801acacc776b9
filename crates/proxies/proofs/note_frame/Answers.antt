-- `proxies::note_frame` meets its contract: the record that is put is true, and agrees with the word. Assumes nothing.
use native.Mathlib.Omega.{arith}
use Rattle.proxies.proofs.KeptLaws.{low_fits, noted_under, noted_over}
use Rattle.proxies.proofs.note_frame.Goals as goal

pub put-n-requires : goal.put-n-requires
put-n-requires c =
    (c.requires.1, low_fits c.args.form _ c.low-mask.ensures, low_fits c.args.form _ c.low-values.ensures)

pub returns-then-known-eq2 : goal.returns-then-known-eq2
returns-then-known-eq2 c =
    noted_under c.args.word c.args.known.reason c.low-mask.ensures c.low-values.ensures (omega arith) c.put-n.ensures

pub put-n-requires-2 : goal.put-n-requires-2
put-n-requires-2 c =
    (c.requires.2, low_fits c.args.form _ c.low-mask.ensures, low_fits c.args.form _ c.low-values.ensures)

pub returns : goal.returns
returns c =
    noted_over c.args.word c.args.known.reason c.low-mask.ensures c.low-values.ensures (omega (arith, c.requires)) c.put-n-2.ensures
