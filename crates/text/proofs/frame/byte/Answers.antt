use Rattle.std.proofs.Common.{arith}
use Rattle.text.proofs.LineLaws.{two_within}
use Rattle.text.proofs.frame.byte.Goals as goal

pub bounds-rest-0 : goal.bounds-rest-0
bounds-rest-0 c = omega (arith, two_within c.args.rest.now c.requires)

pub bounds-rest-1 : goal.bounds-rest-1
bounds-rest-1 c = omega (arith, two_within c.args.rest.now c.requires)
