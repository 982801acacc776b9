-- Each call is on a smaller node, or on the same node with fewer variables loose or a step further down.
use Rattle.std.proofs.Common.{◌+◌, ◌*◌}
use Rattle.search.specs.SearchLaws.{per_node}
use Rattle.search.proofs.cycle.+branch_candidate_check_choose_evaluate_extend_gate_push_quantified_settle.Given as goal

abbrev pub decreases-branch : goal.decreases-branch
decreases-branch l = l.a * per_node + (8 * l.loose + 8)

abbrev pub decreases-candidate : goal.decreases-candidate
decreases-candidate l = l.a * per_node + 6

abbrev pub decreases-check : goal.decreases-check
decreases-check l = l.i * per_node + 5

abbrev pub decreases-choose : goal.decreases-choose
decreases-choose l = l.i * per_node + 2

abbrev pub decreases-evaluate : goal.decreases-evaluate
decreases-evaluate l = l.i * per_node + 4

abbrev pub decreases-extend : goal.decreases-extend
decreases-extend l = l.a * per_node + (8 * l.loose + 11)

abbrev pub decreases-gate : goal.decreases-gate
decreases-gate l = l.i * per_node + 3

abbrev pub decreases-push : goal.decreases-push
decreases-push l = l.a * per_node + (8 * l.loose + 9)

abbrev pub decreases-quantified : goal.decreases-quantified
decreases-quantified l = l.i * per_node + 3

abbrev pub decreases-settle : goal.decreases-settle
decreases-settle l = l.a * per_node + (8 * l.loose + 10)
