-- `session::Session::remove_last` meets its contract.
use Prim.Native.Nat.{◌-◌}
use native.Mathlib.Omega.{arith}
use mathlib.Core.Path.{refl, sym}
use lib.Seq.{take-take}
use Rattle.session.proofs.StepLaws.{words_struck}
use Rattle.session.proofs.Session.remove_last.Goals as goal

pub returns : goal.returns
returns c =
    record {
      cells = c.requires.0.cells;
      within = omega (arith, c.requires.0.within);
      stands = sym (take-take (c.args.self.len - 1) c.args.self.len c.args.self.entries (omega arith));
      words = words_struck c.requires.0 c.requires.1 c.free-freed.ensures;
      kept = refl;
    }
