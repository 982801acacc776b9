-- `absorb::spread::names_changed` meets its contract.
use Rattle.std.proofs.Common.{arith, sym, ◌∙◌, ap}
use Rattle.std.specs.Prelude.{not}
use Rattle.net.specs.Op.{code_gate, code_names}
use Rattle.net.specs.Layout.{names-below, joins-left, joins-right}
use Rattle.absorb.specs.MarksLaws.{names_none, names_one, names_two}
use Rattle.absorb.specs.Spread.{still}
use Rattle.absorb.proofs.spread.names_changed.Goals as goal

pub changed-requires : goal.changed-requires
changed-requires c =
    omega (arith, c.requires.0.room, names-below c.requires.0 c.node_at-node.ensures.is (code_names c.in-Not.is))

pub changed-requires-in-And : goal.changed-requires-in-And
changed-requires-in-And c =
    let gate = code_gate c.in-And.is in
    let left = joins-left c.requires.0 c.node_at-node.ensures.is gate.0 gate.1 in
    omega (arith, c.requires.0.room)

pub changed-requires-else-changed : goal.changed-requires-else-changed
changed-requires-else-changed c =
    let gate = code_gate c.in-And.is in
    let left = joins-left c.requires.0 c.node_at-node.ensures.is gate.0 gate.1 in
    let right = joins-right c.requires.0 c.node_at-node.ensures.is gate.0 gate.1 in
    omega (arith, c.requires.0.room)

pub returns-in-False : goal.returns-in-False
returns-in-False c = λ e. rw c.node_at-node.ensures.is.node (names_none _ _ _ _ c.in-False.is)

pub returns-in-Not : goal.returns-in-Not
unfolding still
returns-in-Not c =
    λ e. rw c.node_at-node.ensures.is.node (names_one _ _ _ (still c.args.net.now) c.in-Not.is (ap not (sym c.changed.ensures ∙ e)))

pub returns-else-changed : goal.returns-else-changed
unfolding still
returns-else-changed c =
    λ e. rw c.node_at-node.ensures.is.node (names_two _ _ _ (still c.args.net.now) c.in-And.is (ap not (sym c.changed-in-And.ensures ∙ c.if-changed.false)) (ap not (sym c.changed-else-changed.ensures ∙ e)))
