-- The cycle of the search meets its contracts: each call is on a smaller node, or on the same node with fewer variables loose or a step further down.
-- Assumes nothing.
use Rattle.std.proofs.Common.{refl, sym, ap, ◌∙◌, arith}
use Rattle.words.proofs.Mask.{top_bit, top_less}
use Rattle.net.specs.Op.{code_of, code_leaf, code_gate, code_binds}
use Rattle.net.specs.Layout.{decides-some, reads-low, flips_below, joins-left, joins-right, binds-below}
use Rattle.judge.specs.JudgeLaws.{judged-at, judging_none, judging_then}
use Rattle.judge.specs.CellLaws.{trail_none}
use Rattle.proxies.proofs.Growing.{growing_same, growing_then}
use Rattle.proxies.specs.KeptLaws.{recorded_told}
use Rattle.search.specs.SearchLaws.{checked_flip, checked_left, checked_right, lent-after, body_less}
use Rattle.search.specs.SearchLaws.{told_solved, told_leaf, told_flip, told-left, told-right, told-both, told-shown}
use Rattle.search.specs.SearchLaws.{known_solved, posed_checked, posed_half, posed_body}
use Rattle.imply.specs.ForceLaws.{forced_less, forced_met, posed_forced, pushed-lost}
use Rattle.imply.specs.Halves.{first_met, second_met, half-lost, both-lost}
use Rattle.search.proofs.cycle.+branch_candidate_check_choose_evaluate_extend_gate_push_quantified_settle.Goals as goal

-- ---- branch

pub branch-extend-low-requires : goal.branch-extend-low-requires
branch-extend-low-requires t c =
    let highest = c.highest-x.ensures in (
      omega (arith, c.decreases, top_less highest.0 c.one-only.ensures c.without-rest.ensures),
      (posed_half (top_bit highest.0) highest.1 c.one-only.ensures c.without-rest.ensures c.requires.posed c.fix-begun.ensures, c.requires.lent),
    )

pub branch-returns-then-low-clause-solved : goal.branch-returns-then-low-clause-solved
branch-returns-then-low-clause-solved t c =
    let highest = c.highest-x.ensures in
    let low = c.extend-low.ensures.solved in (
      rw c.if-low.true (first_met highest.0 highest.1 c.one-only.ensures c.without-rest.ensures c.requires.posed.free _ c.one_first-first.ensures c.fix-begun.ensures (rw c.if-low.true at low.0)),
      low.1,
    )

pub branch-returns-then-not-has-clause-solved : goal.branch-returns-then-not-has-clause-solved
branch-returns-then-not-has-clause-solved t c =
    let highest = c.highest-x.ensures in
    let low = c.extend-low.ensures.solved in (
      rw c.if-low.false (half-lost highest.0 highest.1 c.one-only.ensures c.without-rest.ensures c.requires.posed.free _ c.fix-begun.ensures (rw c.if-low.false at low.0) (sym c.has.ensures ∙ c.if-not-has.true)),
      low.1,
    )

pub branch-extend-high-requires : goal.branch-extend-high-requires
branch-extend-high-requires t c =
    let highest = c.highest-x.ensures in
    let low = c.extend-low.ensures in (
      omega (arith, c.decreases, top_less highest.0 c.one-only.ensures c.without-rest.ensures),
      (
        rw low.solved.1 (posed_half (top_bit highest.0) highest.1 c.one-only.ensures c.without-rest.ensures c.requires.posed c.fix-turned.ensures),
        lent-after c.requires.lent low.growing c.extend-low.auto.wants,
      ),
    )

pub branch-returns-then-high-clause-solved : goal.branch-returns-then-high-clause-solved
branch-returns-then-high-clause-solved t c =
    let highest = c.highest-x.ensures in
    let low = c.extend-low.ensures.solved in
    let high = c.extend-high.ensures.solved in (
      rw c.if-high.true (second_met highest.0 highest.1 c.one-only.ensures c.without-rest.ensures c.requires.posed.free _ c.fix-begun.ensures (rw c.if-low.false at low.0) c.fix-turned.ensures (rw c.if-high.true at high.0)),
      high.1 ∙ low.1,
    )

pub branch-returns-then-not-has-2-clause-solved : goal.branch-returns-then-not-has-2-clause-solved
branch-returns-then-not-has-2-clause-solved t c =
    let highest = c.highest-x.ensures in
    let low = c.extend-low.ensures.solved in
    let high = c.extend-high.ensures.solved in (
      rw c.if-high.false (half-lost highest.0 highest.1 c.one-only.ensures c.without-rest.ensures c.requires.posed.free _ c.fix-turned.ensures (rw c.if-high.false at high.0) (sym c.has-2.ensures ∙ c.if-not-has-2.true)),
      high.1 ∙ low.1,
    )

pub branch-returns-clause-solved : goal.branch-returns-clause-solved
branch-returns-clause-solved t c =
    let highest = c.highest-x.ensures in
    let low = c.extend-low.ensures.solved in
    let high = c.extend-high.ensures.solved in (
      rw c.if-high.false (both-lost highest.0 highest.1 c.one-only.ensures c.without-rest.ensures c.requires.posed.free _ c.fix-begun.ensures (rw c.if-low.false at low.0) c.fix-turned.ensures (rw c.if-high.false at high.0) c.without.ensures),
      high.1 ∙ low.1,
    )

-- ---- candidate

pub candidate-check-c-requires : goal.candidate-check-c-requires
candidate-check-c-requires t c = (omega (arith, c.decreases), ((c.requires.posed.here, posed_checked c.requires.posed refl), c.requires.lent))

pub candidate-undo-requires : goal.candidate-undo-requires
candidate-undo-requires t c = (_, c.check-c.ensures.told.1.keeps _ (trail_none refl refl))

pub candidate-returns : goal.candidate-returns
candidate-returns t c =
    let told = c.check-c.ensures.told in
    let s = c.verdict.ensures in
    rw (s.2, s.3, s.4) (record {
      solved = (told_solved c.requires.posed told.0 _ s.0 s.1, c.undo.ensures _ (told.1.keeps _ (trail_none refl refl)));
      growing = c.check-c.ensures.growing;
    })

-- ---- choose

pub choose-extend-out-requires : goal.choose-extend-out-requires
choose-extend-out-requires t c =
    let checked = c.requires.checked in
    let here = c.requires.is in (
      body_less c.decreases (binds-below checked.grounded here.2 here.3) (omega (arith, c.ranges)),
      (posed_body checked here.2 here.3 here.4 c.free_all-inner.ensures.mask c.free_all-inner.ensures.values, c.requires.lent),
    )

pub choose-implicant-why-requires : goal.choose-implicant-why-requires
choose-implicant-why-requires t c =
    let checked = c.requires.checked in
    let here = c.requires.is in (
      checked.grounded,
      omega (arith, checked.grounded.room, checked.here, binds-below checked.grounded here.2 here.3),
      omega (arith, c.requires.lent.long, c.extend-out.auto.wants),
      rw here.4 (decides-some _),
    )

-- ---- evaluate

pub evaluate-leaf-known-requires : goal.evaluate-leaf-known-requires
evaluate-leaf-known-requires t c = (code_leaf c.in-False.is, λ e. reads-low c.requires.i_bound.1.grounded c.node_at-node.ensures.is e)

pub evaluate-returns-in-False-clause-told : goal.evaluate-returns-in-False-clause-told
evaluate-returns-in-False-clause-told t c =
    let checked = c.requires.i_bound.1 in
    (told_leaf checked c.node_at-node.ensures.is (code_leaf c.in-False.is) c.leaf-known.ensures, judging_none checked.judged)

pub evaluate-check-c-requires : goal.evaluate-check-c-requires
evaluate-check-c-requires t c =
    let checked = c.requires.i_bound.1 in
    let here = c.node_at-node.ensures.is in
    let not = ap code_of c.in-Not.is in (
      omega (arith, c.decreases, flips_below checked.grounded here not),
      (checked_flip checked here not checked.judged, c.requires.lent),
    )

pub evaluate-returns-in-Not-clause-told : goal.evaluate-returns-in-Not-clause-told
evaluate-returns-in-Not-clause-told t c =
    let told = c.check-c.ensures.told in
    (told_flip c.requires.i_bound.1 c.node_at-node.ensures.is (ap code_of c.in-Not.is) told.0, told.1)

pub evaluate-gate-requires : goal.evaluate-gate-requires
evaluate-gate-requires t c =
    let g = code_gate c.in-And.is in
    (omega (arith, c.decreases), ((c.node_at-node.ensures.is, g.0, g.1), (c.requires.i_bound, c.requires.lent)))

pub evaluate-quantified-requires : goal.evaluate-quantified-requires
evaluate-quantified-requires t c =
    (omega (arith, c.decreases), ((c.node_at-node.ensures.is, code_binds c.in-Exists.is), (c.requires.i_bound, c.requires.lent)))

-- ---- extend

pub extend-undo-requires : goal.extend-undo-requires
extend-undo-requires t c = rw c.settle-out.ensures.solved.1 (_, c.judge-head.ensures.keeps _ (trail_none refl refl))

pub extend-returns-clause-solved : goal.extend-returns-clause-solved
extend-returns-clause-solved t c =
    let solved = c.settle-out.ensures.solved in
    (solved.0, c.undo.ensures _ (rw solved.1 (c.judge-head.ensures.keeps _ (trail_none refl refl))))

-- ---- gate

pub gate-check-c-requires : goal.gate-check-c-requires
gate-check-c-requires t c =
    let checked = c.requires.i_bound.1 in
    let here = c.requires.is in (
      omega (arith, c.decreases, joins-left checked.grounded here.0 here.1 here.2),
      (checked_left checked here.0 here.1 here.2 checked.judged, c.requires.lent),
    )

pub gate-returns-then-c-d-clause-told : goal.gate-returns-then-c-d-clause-told
gate-returns-then-c-d-clause-told t c =
    let here = c.requires.is in
    let left = c.check-c.ensures.told in
    (told-left c.requires.i_bound.1 here.0 here.1 here.2 c.gate_decided-d.ensures left.0 c.if-c-d.true, left.1)

pub gate-check-e-requires : goal.gate-check-e-requires
gate-check-e-requires t c =
    let checked = c.requires.i_bound.1 in
    let here = c.requires.is in
    let left = c.check-c.ensures in (
      omega (arith, c.decreases, joins-right checked.grounded here.0 here.1 here.2),
      (
        checked_right checked here.0 here.1 here.2 left.told.1.judged,
        lent-after c.requires.lent left.growing c.check-c.auto.wants,
      ),
    )

pub gate-returns-then-e-d-clause-told : goal.gate-returns-then-e-d-clause-told
gate-returns-then-e-d-clause-told t c =
    let here = c.requires.is in
    let left = c.check-c.ensures.told in
    let right = c.check-e.ensures.told in
    (told-right c.requires.i_bound.1 here.0 here.1 here.2 c.gate_decided-d.ensures right.0 c.if-e-d.true, judging_then left.1 right.1)

pub gate-returns-then-e-d-clause-growing : goal.gate-returns-then-e-d-clause-growing
gate-returns-then-e-d-clause-growing t c = growing_then c.check-c.ensures.growing c.check-e.ensures.growing

pub gate-returns-clause-told : goal.gate-returns-clause-told
gate-returns-clause-told t c =
    let here = c.requires.is in
    let left = c.check-c.ensures.told in
    let right = c.check-e.ensures.told in
    (told-both c.requires.i_bound.1 here.0 here.1 here.2 c.gate_decided-d.ensures left.0 c.if-c-d.false right.0 c.if-e-d.false, judging_then left.1 right.1)

pub gate-returns-clause-growing : goal.gate-returns-clause-growing
gate-returns-clause-growing t c = growing_then c.check-c.ensures.growing c.check-e.ensures.growing

-- ---- push

pub push-extend-out-requires : goal.push-extend-out-requires
push-extend-out-requires t c =
    let posed = c.requires.posed in
    let force = c.force-f.ensures in (
      omega (arith, c.decreases, forced_less force.0 posed.free c.without-rest.ensures refl refl (omega (arith, c.if-f-eq0.false))),
      (
        posed_forced posed force.0 c.without-rest.ensures refl refl,
        lent-after c.requires.lent growing_same force.1,
      ),
    )

pub push-returns-then-out-clause-solved : goal.push-returns-then-out-clause-solved
push-returns-then-out-clause-solved t c =
    let out = c.extend-out.ensures.solved in
    (rw c.if-out.true (forced_met c.force-f.ensures.0 c.requires.posed.free c.without-rest.ensures refl refl (rw c.if-out.true at out.0)), out.1)

pub push-returns-clause-solved : goal.push-returns-clause-solved
push-returns-clause-solved t c =
    let out = c.extend-out.ensures.solved in
    (rw c.if-out.false (pushed-lost c.requires.posed c.force-f.ensures.0 c.without-rest.ensures refl refl (rw c.if-out.false at out.0) refl c.gather-why.ensures c.without.ensures refl), out.1)

-- ---- quantified

pub quantified-returns-then-known-ne0-clause-told : goal.quantified-returns-then-known-ne0-clause-told
quantified-returns-then-known-ne0-clause-told t c =
    let checked = c.requires.i_bound.1 in
    let lent = c.requires.lent in
    ((recorded_told checked.grounded lent.faithful lent.tables checked.covers (omega (arith, c.if-known-ne0.true)) c.recorded-known.ensures).0, judging_none checked.judged)

pub quantified-choose-s-requires : goal.quantified-choose-s-requires
quantified-choose-s-requires t c =
    let here = c.requires.is in
    (omega (arith, c.decreases), ((_, _, here.0, here.1, c.decided-d.ensures), (c.requires.i_bound.1, c.requires.lent)))

pub quantified-returns : goal.quantified-returns
quantified-returns t c =
    let checked = c.requires.i_bound.1 in
    let here = c.requires.is in
    let body = c.choose-s.ensures in
    let told = told-shown checked here.0 here.1 _ _ (rw c.decided-d.ensures at body.solved.0) (c.body_shows-shown.ensures _ c.decided-d.ensures) in
    let noted = c.note-after.ensures told.forced.explains in
    record {
      told = (told, rw body.solved.1 (judging_none checked.judged));
      growing = growing_then body.growing noted.0;
      noted = noted.1;
    }

-- ---- settle

pub settle-returns-then-known-ne0 : goal.settle-returns-then-known-ne0
settle-returns-then-known-ne0 t c =
    let posed = c.requires.posed in
    let known = c.known_at-known.ensures in
    let s = c.verdict.ensures in
    rw (s.2, s.3, s.4) (record { solved = (known_solved posed _ (omega (arith, c.if-known-ne0.true)) (judged-at posed.judged known.0 known.1) s.0 s.1, refl); growing = growing_same })
