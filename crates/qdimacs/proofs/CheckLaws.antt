-- A text is well formed exactly if its fields have the shape and its atoms are proper: the laws that `check` goes by. Assumes nothing.
use Rattle.std.specs.Prelude.{ℕ, ◌≤◌, true, false, List, [], ◌∷◌, ◌≡◌, length, drop}
use Rattle.std.proofs.Common.{arith, sym, ap, ◌∙◌}
use Rattle.words.proofs.Logic.{clash}
use Rattle.prenex.specs.Question.{Question, Literal, Clause, Proper, Every, every_one, SomeBelow}
use Rattle.prenex.proofs.Every.{every_first}
use Rattle.dimacs.specs.Token.{behind_comments, tokens}
use Rattle.dimacs.specs.Page.{page, Written, WellFormed}
use Rattle.dimacs.specs.Shape.{start, run, whole}
use Rattle.dimacs.proofs.ShapeLaws.{proper_shaped, page-whole, whole-page}
use Rattle.dimacs.specs.Row.{header, proper_atoms}
use Rattle.dimacs.proofs.RowLaws.{atoms-proper, proper-atoms}
use Rattle.qdimacs.specs.Reading.{HeaderOf}

-- a question has a variable
some-literal : {n : ℕ} (cs : List Clause) → 1 ≤ length cs → Every (SomeBelow (λ (l : Literal). l.variable) n) cs → 1 ≤ n
some-literal [] h w = absurd (omega arith)
some-literal ([] ∷ cs) h (every_one s t) = absurd (omega (arith, s.some))
some-literal ((l ∷ c) ∷ cs) h (every_one s t) = omega (arith, every_first s.below)

pub some-variable : {q : Question} → Proper q → 1 ≤ q.variables
some-variable {q} p = some-literal q.clauses p.some-clause p.clauses-below

module _ (text : List ℕ) (at : ℕ) (place : drop at text ≡ behind_comments false text) where
  here : {q : Question} → Written q text → tokens (drop at text) ≡ page q
  here w = ap tokens place ∙ w.fields

  pub shape_ill : whole (run start (tokens (drop at text))) ≡ false → WellFormed text → ⊥
  shape_ill e w =
      let q = w.question in
      clash (whole (run start (page q))) (page-whole q (proper_shaped w.written.proper)).0 (rw (here w.written) at e)

  pub atoms-ill : proper_atoms header (tokens (drop at text)) ≡ false → WellFormed text → ⊥
  atoms-ill e w =
      let q = w.question in
      clash (proper_atoms header (page q)) (proper-atoms q w.written.proper.once w.written.proper.occurring) (rw (here w.written) at e)

  pub text_well : {v : ℕ} → at ≤ length text → whole (run start (tokens (drop at text))) ≡ true
      → proper_atoms header (tokens (drop at text)) ≡ true → v ≡ (run start (tokens (drop at text))).variables → HeaderOf text (record { at = at; variables = v })
  text_well {v} l e f k =
      let found = whole-page (tokens (drop at text)) e in
      let q = found.0 in
      let s = found.1 in
      let atoms = atoms-proper q (rw found.2 at f) in
      record {
        question = q;
        written = record {
          fields = sym (ap tokens place) ∙ found.2;
          proper = record {
            some-clause = s.some-clause;
            clauses-below = s.clauses-below;
            blocks-below = s.blocks-below;
            alternating = s.alternating;
            once = atoms.0;
            occurring = atoms.1;
          };
        };
        variables-is = k ∙ ap (λ ts. (run start ts).variables) found.2 ∙ (page-whole q s).1;
        place = place;
        within = l;
      }
