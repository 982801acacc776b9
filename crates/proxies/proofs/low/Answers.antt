-- `proxies::low` meets its contract, in each form. Assumes nothing.
use native.Mathlib.Omega.{arith}
use Rattle.proxies.proofs.low.Goals as goal

pub returns-in-Narrow : goal.returns-in-Narrow
returns-in-Narrow c =
    simp c.in-Narrow.is

pub returns-in-Wide : goal.returns-in-Wide
returns-in-Wide c =
    rw c.in-Wide.is (omega arith)
