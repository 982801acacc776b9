-- `imply::take` meets its contract: the variable that the node reads. Assumes nothing.
use native.Mathlib.Omega.{arith}
use mathlib.Core.Path.{sym, ap, ◌∙◌}
use Rattle.net.specs.Layout.{reads-low}
use Rattle.net.specs.Op.{code_of}
use Rattle.imply.specs.RequiredLaws.{why-reads, forcing_take}
use Rattle.imply.proofs.take.Goals as goal

pub variable-x-requires : goal.variable-x-requires
variable-x-requires c =
    omega (arith, reads-low c.requires.1 c.requires.0 (ap code_of c.in-Input.is))

pub has-requires : goal.has-requires
has-requires c =
    omega (arith, reads-low c.requires.1 c.requires.0 (ap code_of c.in-Input.is), c.variable-x.ensures)

pub has-requires-else-not-has : goal.has-requires-else-not-has
has-requires-else-not-has c =
    omega (arith, reads-low c.requires.1 c.requires.0 (ap code_of c.in-Input.is), c.variable-x.ensures)

pub one-p-requires : goal.one-p-requires
one-p-requires c =
    omega (arith, reads-low c.requires.1 c.requires.0 (ap code_of c.in-Input.is), c.variable-x.ensures)

pub bounds-whys-left : goal.bounds-whys-left
bounds-whys-left c =
    omega (arith, reads-low c.requires.1 c.requires.0 (ap code_of c.in-Input.is))

pub returns : goal.returns
returns c a t m w R F =
    forcing_take F c.variable-x.ensures (omega (arith, reads-low c.requires.1 c.requires.0 (ap code_of c.in-Input.is)))
    (sym c.has.ensures ∙ c.if-not-has.false)
    (sym c.has-else-not-has.ensures ∙ c.if-has.false)
    (why-reads c.requires.1 c.requires.0 R (ap code_of c.in-Input.is)) c.one-p.ensures c.with-values.ensures
