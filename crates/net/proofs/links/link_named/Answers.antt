-- `net::links::link_named` meets its contract.
use Rattle.std.proofs.Common.{◌∙◌, ap, arith}
use Rattle.net.specs.Link.{low_part}
use Rattle.net.specs.LinkLaws.{linked_ground}
use Rattle.net.proofs.links.link_named.Goals as goal

pub relink-requires-2 : goal.relink-requires-2
relink-requires-2 c =
    (linked_ground c.requires.0 c.relink.ensures, omega (arith, c.requires.1, c.requires.2, c.relink.ensures.count), c.with_link-named.ensures ∙ ap low_part c.word_at-2.ensures)
