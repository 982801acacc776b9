-- `proxies::recorded_frame` meets its contract: what is found is a counted record that matches. Assumes nothing.
use native.Mathlib.Omega.{arith}
use mathlib.Core.Logic.{inl, inr}
use mathlib.Core.Path.{refl}
use Rattle.form.proofs.FormLaws.{fits-room}
use Rattle.proxies.specs.KeptLaws.{recorded_at}
use Rattle.proxies.proofs.recorded_frame.Goals as goal

pub mask_of-reason-requires : goal.mask_of-reason-requires
mask_of-reason-requires c =
    omega (arith, c.in-Some.ensures.counted, fits-room c.args.form c.requires.1)

pub returns-in-Some : goal.returns-in-Some
returns-in-Some c l =
    inl (refl, recorded_at _ c.all-every.ensures c.low-setting.ensures c.in-Some.ensures c.mask_of-reason.ensures)

pub mask_of-reason-requires-in-Some-search : goal.mask_of-reason-requires-in-Some-search
mask_of-reason-requires-in-Some-search c =
    omega (arith, c.in-Some-search.ensures.counted, fits-room c.args.form c.requires.2)

pub returns-in-Some-search : goal.returns-in-Some-search
returns-in-Some-search c l =
    inr (refl, recorded_at _ c.all-every.ensures c.low-setting.ensures c.in-Some-search.ensures c.mask_of-reason-in-Some-search.ensures)
