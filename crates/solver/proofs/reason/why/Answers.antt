-- `solver::reason::why` meets its contract. Assumes nothing.
use native.Mathlib.Omega.{arith}
use Rattle.solver.specs.WhyLaws.{reason-none}
use Rattle.solver.proofs.reason.why.Goals as goal

pub returns-then-gauges-eq0 : goal.returns-then-gauges-eq0
returns-then-gauges-eq0 c = record {
  net_unchanged = c.plain.ensures.net_unchanged;
  same = λ s R. let q = c.plain.ensures.same s R in (reason-none R (omega (arith, c.gauges.ensures, c.if-gauges-eq0.true)) q.0, q.1);
}
