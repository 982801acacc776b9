-- `absorb::spread::spread_at` meets its contract.
use Rattle.std.proofs.Common.{◌+◌, ◌*◌, arith, rules, get_or, refl, sym, ◌∙◌}
use Rattle.net.specs.Layout.{changed}
use Rattle.absorb.specs.SpreadLaws.{room-more, noted_more}
use Rattle.absorb.proofs.spread.spread_at.Goals as goal

pub overflow_add-net : goal.overflow_add-net
unfolding changed
overflow_add-net c =
    omega (arith, room-more (get_or c.args.net.now (67 + 2 * c.args.k) 0) (search rules) (sym c.changed.ensures ∙ c.if-changed.false))

pub returns : goal.returns
returns c =
    noted_more c.requires.0 c.requires.1 (sym c.changed.ensures ∙ c.if-changed.false) refl refl
