-- `session::causes::accept` meets its contract.
use mathlib.Core.Path.{refl}
use mathlib.Core.Logic.{inl, inr}
use Rattle.sheet.specs.Rules.{spare_set}
use Rattle.model.specs.Model.{unknown, used, line_refusal}
use Rattle.model.proofs.Causes.{refusal_enter, refusal-take_back, refusal_read}
use Rattle.session.proofs.Sound.{length-standing}
use Rattle.session.proofs.LineLaws.{known_bytes}
use Rattle.session.specs.declared.script.Line.TheVariants.{Enter, TakeBack, Read}
use Rattle.session.proofs.causes.accept.Goals as goal

pub returns-in-Enter : goal.returns-in-Enter
returns-in-Enter c m o =
    rw (c.in-Enter.is, refusal_enter m _ _ _ _ _ (known_bytes (Enter c.in-Enter.variable c.in-Enter.value c.in-Enter.desk)) _ o refl, ← c.requires.words.mask_is) c.accept_enter.ensures

pub returns-in-TakeBack : goal.returns-in-TakeBack
returns-in-TakeBack c m o =
    rw (c.in-TakeBack.is, refusal-take_back m _ _ _ _ _ (known_bytes TakeBack) refl, length-standing c.args.session c.requires.cells c.requires.within) c.accept_take_back.ensures

pub returns-in-Read : goal.returns-in-Read
returns-in-Read c m o =
    rw (c.in-Read.is, refusal_read m _ _ _ _ _ (known_bytes (Read c.in-Read.place)) refl, length-standing c.args.session c.requires.cells c.requires.within) c.accept_read.ensures

pub returns-in-Ask : goal.returns-in-Ask
unfolding line_refusal unknown used spare_set
returns-in-Ask c m o = elim c.in-Ask.is [ inl e ↦ rw e | inr e ↦ rw e ]
