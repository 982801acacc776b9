-- `session::line::step` meets its contract.
use Rattle.std.proofs.Common.{refl, sym, arith}
use Rattle.std.proofs.lemmas.Result.{err_from_is_err_and}
use Rattle.sheet.proofs.ToldLaws.{fault_not-0}
use Rattle.model.proofs.Causes.{refusal-unknown}
use Rattle.session.specs.Sound.{sheet_meaning}
use Rattle.session.proofs.Sound.{sound_shaped, sound_opens}
use Rattle.session.proofs.StepLaws.{takes, stays-step, enter_room, enter_fresh, enter_step, take_back_some, take_back_step, read_there, read_step, ask-step, why-step}
use Rattle.session.proofs.line.step.Goals as goal

pub returns-in_err-line : goal.returns-in_err-line
returns-in_err-line c =
    let p = err_from_is_err_and c.from_residual.result c.from_residual.ensures.1 in
    let e = c.in_err-line.ensures in
    (refl, λ s d. rw (p.1, p.2, e.0) (stays-step d.sound _ _ _ _ (sym (refusal-unknown (sheet_meaning s) _ _ _ _ _ e.1)) (λ z. omega arith)))

pub accept-requires : goal.accept-requires
accept-requires c =
    sound_shaped c.requires.1.sound

pub returns-in_err-accept : goal.returns-in_err-accept
returns-in_err-accept c =
    let p = err_from_is_err_and c.from_residual-in_err-accept.result c.from_residual-in_err-accept.ensures.1 in (
      refl,
      λ s d.
          rw (p.1, p.2, c.in_ok-line.ensures) (stays-step d.sound _ _ _ _ (c.in_err-accept.ensures (sheet_meaning s) (sound_opens d.sound c.free.ensures)) (fault_not-0 _)),
    )

pub enter-requires : goal.enter-requires
enter-requires c =
    let d = c.requires.1.sound in
    let t = takes d c.free.ensures c.in_ok-accept.ensures c.in-Enter.is in
    (sound_shaped d, enter_room d _ _ _ _ t refl refl, enter_fresh d _ _ _ _ t refl refl)

pub returns-in-Enter : goal.returns-in-Enter
returns-in-Enter c = (
  refl,
  λ s d.
      let t = takes d.sound c.free.ensures c.in_ok-accept.ensures c.in-Enter.is in
      rw (c.in_ok-line.ensures, c.in-Enter.is) (enter_step d.sound _ _ _ _ t refl refl c.enter.ensures),
)

pub take_back-requires : goal.take_back-requires
take_back-requires c =
    let d = c.requires.1.sound in
    (sound_shaped d, take_back_some d _ _ _ _ (takes d c.free.ensures c.in_ok-accept.ensures c.in-TakeBack.is) refl refl)

pub returns-in-TakeBack : goal.returns-in-TakeBack
returns-in-TakeBack c = (
  refl,
  λ s d.
      let t = takes d.sound c.free.ensures c.in_ok-accept.ensures c.in-TakeBack.is in
      rw (c.in_ok-line.ensures, c.in-TakeBack.is) (take_back_step d.sound _ _ _ _ t refl refl c.take_back.ensures),
)

pub read-requires : goal.read-requires
read-requires c =
    let d = c.requires.1.sound in
    (sound_shaped d, read_there d _ _ _ _ (takes d c.free.ensures c.in_ok-accept.ensures c.in-Read.is) refl refl)

pub returns-in-Read : goal.returns-in-Read
returns-in-Read c = (
  refl,
  λ s d.
      let t = takes d.sound c.free.ensures c.in_ok-accept.ensures c.in-Read.is in
      rw (c.in_ok-line.ensures, c.in-Read.is) (read_step d.sound _ _ _ _ t refl refl c.read.ensures),
)

pub returns-in-Ask : goal.returns-in-Ask
returns-in-Ask c = (
  c.ask.ensures.net_unchanged,
  λ s d.
      let t = takes d.sound c.free.ensures c.in_ok-accept.ensures c.in-Ask.is in
      let f = c.ask.ensures.searches s d in
      rw (c.in_ok-line.ensures, c.in-Ask.is) (ask-step d.sound _ _ _ _ t refl refl f.0 f.1),
)

pub returns-in-Why : goal.returns-in-Why
returns-in-Why c = (
  c.why.ensures.net_unchanged,
  λ s d.
      let t = takes d.sound c.free.ensures c.in_ok-accept.ensures c.in-Why.is in
      rw (c.in_ok-line.ensures, c.in-Why.is) (why-step d.sound _ _ _ _ t refl (λ z. omega arith) (λ z. omega arith) (λ z. omega arith) (λ z. omega arith) (c.why.ensures.searches s d)),
)
