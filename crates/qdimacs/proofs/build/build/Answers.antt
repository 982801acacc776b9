-- `qdimacs::build::build` meets its contract: the two arrays are those of the question. Assumes nothing.
use native.Mathlib.Omega.{arith}
use mathlib.Core.Path.{refl, ap, ◌∙◌}
use lib.ListN.{length, drop}
use Rattle.std.proofs.Common.{inl}
use Rattle.dimacs.specs.Token.{tokens}
use Rattle.dimacs.specs.Row.{header, codes_from, words_from}
use Rattle.qdimacs.proofs.BuildLaws.{many_codes, many_words, codes_here, words_here, stored-length, arranged_here}
use Rattle.qdimacs.proofs.build.build.Goals as goal

pub returns-then-n-gt-MOST_CODES : goal.returns-then-n-gt-MOST_CODES
returns-then-n-gt-MOST_CODES c =
    λ q e p few.
    inl (refl, many_codes p few _ (c.clauses-n.ensures.0 ∙ ap length (codes_here p few e)) c.if-n-gt-MOST_CODES.true)

pub returns-then-m-gt-MOST_BLOCKS : goal.returns-then-m-gt-MOST_BLOCKS
returns-then-m-gt-MOST_BLOCKS c =
    λ q e p few.
    inl (refl, many_words p few _ c.blocks-m.ensures.0 (words_here p few e) c.if-m-gt-MOST_BLOCKS.true)

pub slice_bounds-assemble-end : goal.slice_bounds-assemble-end
slice_bounds-assemble-end c =
    stored-length (codes_from header (tokens (drop c.args.at c.args.text.now))) _ _ c.clauses-n.ensures.0 c.if-n-gt-MOST_CODES.false c.clauses-n.ensures.1

pub slice_bounds-assemble-end-2 : goal.slice_bounds-assemble-end-2
slice_bounds-assemble-end-2 c =
    stored-length (words_from header 0 (tokens (drop c.args.at c.args.text.now))) _ _ c.blocks-m.ensures.0 c.if-m-gt-MOST_BLOCKS.false c.blocks-m.ensures.1

pub assemble-requires : goal.assemble-requires
assemble-requires c = record {
  question = c.requires.1.question;
  arranged = arranged_here c.requires.1.proper c.requires.1.few c.requires.1.fields _ _ _ _ c.clauses-n.ensures.0 c.if-n-gt-MOST_CODES.false c.clauses-n.ensures.1 c.blocks-m.ensures.0 c.if-m-gt-MOST_BLOCKS.false c.blocks-m.ensures.1;
  codes_few = omega (arith, stored-length (codes_from header (tokens (drop c.args.at c.args.text.now))) _ _ c.clauses-n.ensures.0 c.if-n-gt-MOST_CODES.false c.clauses-n.ensures.1, c.if-n-gt-MOST_CODES.false);
  words_few = omega (arith, stored-length (words_from header 0 (tokens (drop c.args.at c.args.text.now))) _ _ c.blocks-m.ensures.0 c.if-m-gt-MOST_BLOCKS.false c.blocks-m.ensures.1, c.if-m-gt-MOST_BLOCKS.false);
}

pub returns : goal.returns
returns c =
    λ q e p few.
    c.assemble.ensures q
    (arranged_here p few e _ _ _ _ c.clauses-n.ensures.0 c.if-n-gt-MOST_CODES.false c.clauses-n.ensures.1 c.blocks-m.ensures.0 c.if-m-gt-MOST_BLOCKS.false c.blocks-m.ensures.1)
