-- `net::decode::load` meets its contract: the frames are stored, the head set, the net nested.
use Rattle.net.specs.LoadLaws.{loaded_net}
use Rattle.net.proofs.decode.load.Goals as goal

pub nest-requires : goal.nest-requires
nest-requires c = (_, loaded_net c.requires.0 c.requires.1 c.load_frames.ensures c.frames.ensures c.head.ensures)

pub returns : goal.returns
returns c = c.nest.ensures _ (loaded_net c.requires.0 c.requires.1 c.load_frames.ensures c.frames.ensures c.head.ensures)
