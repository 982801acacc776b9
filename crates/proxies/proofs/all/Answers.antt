-- `proxies::all` meets its contract, in each form. Assumes nothing.
use Rattle.proxies.proofs.all.Goals as goal

pub returns-in-Narrow : goal.returns-in-Narrow
returns-in-Narrow c =
    simp c.in-Narrow.is

pub returns-in-Wide : goal.returns-in-Wide
returns-in-Wide c =
    simp c.in-Wide.is
