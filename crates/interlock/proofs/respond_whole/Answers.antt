-- `interlock::respond_whole` meets its contract: the buffer has room for whatever is printed. Assumes nothing.
use Rattle.response.proofs.Lines.{prints-whole}
use Rattle.interlock.proofs.respond_whole.Goals as goal

pub returns : goal.returns
returns c = prints-whole c.args.text.now c.requires c.respond.ensures
