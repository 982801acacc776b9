-- `session::Session::append` meets its contract.
use native.Mathlib.Omega.{arith}
use native.Mathlib.Numerals.{add-one}
use mathlib.Core.Path.{refl}
use lib.ListN.{length-set}
use lib.Seq.{take-suc-set}
use Rattle.session.proofs.StepLaws.{words_put}
use Rattle.session.proofs.Session.append.Goals as goal

pub returns : goal.returns
returns c =
    record {
      cells = simp length-set c.requires.0.cells;
      within = omega (arith, c.requires.1);
      stands = rw add-one (take-suc-set c.args.self.entries c.args.self.len c.args.entry (omega (arith, c.requires.0.cells, c.requires.1)));
      words = words_put c.args.entry c.requires.0 c.requires.1 c.requires.2 c.fix.ensures;
      kept = refl;
    }
