-- `qdimacs::build::assemble` meets its contract: the frames of the matrix and of the blocks are those of the question, and the matrix is asked. Assumes nothing.
use Prim.Native.Nat.{◌≤◌}
use native.Mathlib.Omega.{arith}
use mathlib.Core.Path.{refl}
use lib.ListN.{length}
use Rattle.std.proofs.Common.{inl, inr}
use Rattle.prenex.specs.Kinds.{kinds}
use Rattle.qdimacs.proofs.BuildLaws.{codes_fit, contingent_here, some-frame, count-is, matrix-here, built_all}
use Rattle.qdimacs.proofs.build.assemble.Goals as goal

pub write_matrix-matrix-requires : goal.write_matrix-matrix-requires
write_matrix-matrix-requires c =
    (codes_fit c.requires.arranged, c.requires.codes_few)

pub write_blocks-all-requires : goal.write_blocks-all-requires
write_blocks-all-requires c =
    (some-frame c.requires.arranged c.write_matrix-matrix.ensures.0, omega arith, c.requires.words_few)

pub returns-then-all-gt200 : goal.returns-then-all-gt200
returns-then-all-gt200 c =
    λ q a. inl (refl, omega (arith, c.if-all-gt200.true, count-is a c.write_matrix-matrix.ensures.0 c.write_blocks-all.ensures.0))

pub contingent-requires : goal.contingent-requires
contingent-requires c =
    let a = c.requires.arranged in
    let few : length (kinds c.requires.question) ≤ 200 = omega (arith, c.if-all-gt200.false, count-is a c.write_matrix-matrix.ensures.0 c.write_blocks-all.ensures.0) in
    rw c.size_of.ensures (matrix-here a c.write_matrix-matrix.ensures.0 c.args.frames.now c.told-frames few c.write_matrix-matrix.ensures.2 c.write_blocks-all.ensures.1)

pub returns-then-not-contingent : goal.returns-then-not-contingent
returns-then-not-contingent c =
    λ q a.
    inr (
      refl,
      omega (arith, c.if-all-gt200.false, count-is a c.write_matrix-matrix.ensures.0 c.write_blocks-all.ensures.0),
      λ d. c.contingent.ensures.is-settled c.if-not-contingent.true (contingent_here a d),
    )

pub returns : goal.returns
returns c =
    λ q a.
    let few : length (kinds q) ≤ 200 = omega (arith, c.if-all-gt200.false, count-is a c.write_matrix-matrix.ensures.0 c.write_blocks-all.ensures.0) in
    built_all a c.write_matrix-matrix.ensures.0 c.args.frames.now c.told-frames few c.write_matrix-matrix.ensures.2 c.write_blocks-all.ensures.1
    (count-is a c.write_matrix-matrix.ensures.0 c.write_blocks-all.ensures.0) c.size_of-2.ensures (c.contingent.ensures.is_contingent c.if-not-contingent.false)
