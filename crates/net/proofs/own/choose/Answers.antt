-- `net::own::choose` meets its contract.
use Rattle.std.proofs.Common.{ℕ, ◌+◌, ap}
use Rattle.net.specs.Layout.{number-some, number-low}
use Rattle.net.specs.OwnLaws.{put_chosen}
use Rattle.net.proofs.own.choose.Goals as goal

pub returns : goal.returns
returns c =
    put_chosen (ap (λ (x : ℕ). x + c.args.i) c.frames.ensures) (number-some _) (number-low _) (rw c.quantifier.ensures at c.word.ensures _) (record { is = c.put.ensures })
