-- `session::line::why` meets its contract.
use Rattle.std.proofs.Common.{refl}
use Rattle.session.proofs.Sound.{net_ready}
use Rattle.session.proofs.StepLaws.{searched}
use Rattle.session.proofs.line.why.Goals as goal

pub why-found-requires : goal.why-found-requires
why-found-requires c =
    (c.requires.0, net_ready c.requires.1)

pub returns : goal.returns
returns c = record {
  net_unchanged = c.why-found.ensures.net_unchanged;
  searches = λ s d.
      let w = d.sound.words in
      let f = c.why-found.ensures.same s (net_ready d) in
      searched (rw (w.mask_is, w.values_are) at f.0) f.1 (record { entries = refl; len = refl; entered = refl; under = refl; over = refl }) c.tell_verdict-answer.ensures;
}
