-- `prenex::write_matrix` meets its contract. Assumes nothing.
use Prim.Native.Nat.{◌≤◌}
use native.Mathlib.Omega.{arith}
use lib.Seq.{length-take-le}
use Rattle.words.specs.Word.{bit}
use Rattle.prenex.proofs.MatrixStores.{ends-room, ends_members, literals-written, matrix-written}
use Rattle.prenex.proofs.write_matrix.Goals as goal

pub write_conjunction-requires : goal.write_conjunction-requires
write_conjunction-requires c =
    let k : c.write_clauses-clauses.result.ends ≤ 400 = omega (arith, c.write_clauses-clauses.ensures.ends-few) in
    let room = ends-room c.write_clauses-clauses.ensures in (
      omega (arith, length-take-le c.write_clauses-clauses.result.ends c.write_clauses-clauses.new.ends (omega arith)),
      omega arith,
      ends_members c.write_clauses-clauses.ensures k,
    )

pub returns : goal.returns
returns c =
    let k : c.write_clauses-clauses.result.ends ≤ 400 = omega (arith, c.write_clauses-clauses.ensures.ends-few) in
    let room = ends-room c.write_clauses-clauses.ensures in
    let few = length-take-le c.write_clauses-clauses.result.ends c.write_clauses-clauses.new.ends (omega arith) in
    let t = matrix-written (bit c.find_occurring-found.result.all) (bit c.find_occurring-found.result.negated) c.find_occurring-found.ensures.0 c.find_occurring-found.ensures.1 (literals-written _ _ c.write_inputs-inputs.ensures.0 c.write_inputs-inputs.ensures.2 c.write_negations-literals.ensures.0 c.write_negations-literals.ensures.2) (omega (arith, c.write_inputs-inputs.ensures.0, c.write_negations-literals.ensures.0)) c.write_clauses-clauses.ensures k c.write_conjunction.ensures.0 c.write_conjunction.ensures.2 in
    (t.frames, omega arith, t.bytes)
