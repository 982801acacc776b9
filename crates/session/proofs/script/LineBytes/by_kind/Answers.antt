-- `session::script::LineBytes::by_kind` meets its contract.
use Rattle.std.proofs.Common.{arith, refl, ltb}
use Rattle.words.specs.Logic.{tests}
use Rattle.words.proofs.Logic.{by_bool}
use Rattle.model.specs.Model.{ENTER, WHY, unknown}
use Rattle.session.proofs.script.LineBytes.by_kind.Goals as goal

pub returns-in_default : goal.returns-in_default
unfolding unknown
returns-in_default c =
    let k = c.args.self.k in
    (refl, by_bool (ltb k ENTER) (λ e. rw e) (λ e. by_bool (ltb WHY k) (λ f. rw (e, f)) (λ f. absurd (omega (arith, tests, e, f)))))
