-- `records::put` meets its contract: the record's numbers behind the counted ones, or none. Assumes nothing.
use native.Mathlib.Omega.{arith}
use Rattle.records.proofs.PutLaws.{put_next, put_full}
use Rattle.records.proofs.put.Goals as goal

pub returns-then-count-room : goal.returns-then-count-room
returns-then-count-room c =
    rw c.write.ensures (put_next _ _ _ _ _ _ (omega arith) c.requires.1 c.requires.2)

pub returns : goal.returns
returns c =
    put_full _ _ _ _ _ _ (omega arith)
