-- `net::node::node_at` meets its contract.
use Rattle.std.proofs.Common.{ℕ, arith, ap, get_or}
use Rattle.net.specs.Op.{code_low}
use Rattle.net.specs.StoreLaws.{is_read, next_word}
use Rattle.net.proofs.node.node_at.Goals as goal

pub returns : goal.returns
returns c =
    record {
      is = rw c.op_of.ensures (is_read (ap (λ (i : ℕ). get_or c.args.net.now i 0) (next_word c.args.k)));
      op_bound = (code_low c.op_of.result, omega arith, omega arith);
    }
