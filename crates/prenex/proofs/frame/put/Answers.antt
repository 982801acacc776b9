-- `prenex::frame::put` meets its contract. Assumes nothing.
use native.Mathlib.Omega.{arith}
use mathlib.Core.Path.{sym, ◌∙◌}
use Rattle.prenex.specs.Kinds.{frame_bytes}
use Rattle.prenex.proofs.SheetLaws.{frame-length}
use Rattle.words.proofs.Stores.{stored}
use Rattle.prenex.proofs.StoreLaws.{sets_out}
use Rattle.prenex.proofs.frame.put.Goals as goal

pub returns-then-n-lt-MOST : goal.returns-then-n-lt-MOST
returns-then-n-lt-MOST c =
    let l = frame-length c.args.kind in
    rw c.from-at.ensures (stored _ _ (frame_bytes c.args.kind) (c.copy_from_slice.ensures.after ∙ c.bytes_of.ensures) (omega arith) (omega arith))

pub returns-else-n-lt-MOST : goal.returns-else-n-lt-MOST
returns-else-n-lt-MOST c =
    let l = c.told-out in
    sym (sets_out (frame_bytes c.args.kind) c.args.out.now _ (omega arith))
