-- `absorb::spread::store` meets its contract.
use Rattle.std.proofs.Common.{arith, refl}
use Rattle.absorb.specs.SheetLaws.{stored_ground, absorbed_net}
use Rattle.absorb.proofs.spread.store.Goals as goal

pub spread-requires : goal.spread-requires
spread-requires c =
    stored_ground c.requires.0.1 c.requires.1 (omega (arith, c.from.ensures)) (record { is = c.put.ensures })

pub returns : goal.returns
returns c =
    λ s N. absorbed_net N c.requires.1 (omega (arith, c.from.ensures)) (record { is = c.put.ensures }) c.spread.ensures refl
