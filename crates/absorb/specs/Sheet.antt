-- What has to hold of a net, as words, for node g to become INPUT y. Assumes nothing.
use Rattle.std.specs.Prelude.{ℕ, ◌-◌, ◌<◌, List}
use Rattle.form.specs.Form as Sizes
use Rattle.net.specs.Layout.{net_form, frames_of, packed}
use Rattle.absorb.specs.Absorb.{Absorb}

pub record Absorbable (net : List ℕ) (g y : ℕ) : Type 0 where
  pub plan : Absorb (packed net) (frames_of net - 1) g y
  pub here : g < frames_of net
  pub small : y < Sizes.variables (net_form net)
