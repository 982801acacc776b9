-- `sheet::reader::Reader::next` meets its contract: below the count of frames it is `read`, else it stays.
use Rattle.std.proofs.Common.{arith, ◌<◌}
use Rattle.sheet.specs.Fields.{frames}
use Rattle.sheet.specs.Reader.{read_by}
use Rattle.sheet.proofs.ReaderLaws.{takes_none, following_in}
use Rattle.sheet.proofs.reader.ReaderIterator.next.Goals as goal

pub returns-then-self-frames-clause-steps : goal.returns-then-self-frames-clause-steps
returns-then-self-frames-clause-steps c =
    takes_none _ (omega (arith, c.if-self-frames.true, c.frames.ensures))

pub returns-clause-goes : goal.returns-clause-goes
returns-clause-goes c =
    let h : c.args.self.now.at < frames (read_by c.args.self.now) = omega (arith, c.if-self-frames.false, c.frames.ensures) in
    rw (c.read.ensures.2, following_in _ _ h) (omega (arith, h))
