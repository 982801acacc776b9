-- `net::links::relink` meets its contract.
use mathlib.Core.Path.{refl}
use Rattle.net.specs.LinkLaws.{linked_relink}
use Rattle.net.proofs.links.relink.Goals as goal

pub returns : goal.returns
returns c =
    linked_relink c.args.k c.args.word c.requires.0 c.requires.1 c.requires.2 refl
