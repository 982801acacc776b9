-- `session::causes::has_variable` meets its contract.
use mathlib.Core.Path.{sym}
use native.Mathlib.Omega.{arith}
use Rattle.words.proofs.Bits.{bit_high}
use Rattle.session.proofs.causes.has_variable.Goals as goal

pub returns : goal.returns
returns c =
    sym (bit_high 64 _ (omega arith) (omega arith))
