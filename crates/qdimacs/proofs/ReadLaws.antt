-- From what the check and the frames tell to what reading gives: the laws that `read` goes by. Assumes nothing.
use Rattle.std.specs.Prelude.{ℕ, ◌≤◌, ◌<◌, List, ◌++◌, ◌≡◌, length, take, drop, Err}
use Rattle.std.proofs.Common.{arith, inl, inr, ◌∙◌, take_at}
use Rattle.std.proofs.Math.Path.{sym, ap}
use Rattle.sheet.specs.Refusal as Number
use Rattle.sheet.specs.Told.{number_of}
use Rattle.sheet.specs.declared.refusal.Fault.{Fault}
use Rattle.prenex.specs.Question.{Question}
use Rattle.prenex.specs.Kinds.{most_frames, kinds, sheet_of}
use Rattle.prenex.proofs.SheetLaws.{sheet-length}
use Rattle.dimacs.specs.Token.{tokens}
use Rattle.dimacs.specs.Page.{page}
use Rattle.qdimacs.specs.Reading.{sheet_room, Small, Read, malformed, large, settled, accepted, Headed, HeaderOf, Asked, Builds, BuiltAll}
use Rattle.qdimacs.specs.declared.check.Header.{Header}

module _ {text : List ℕ} {r : Header} (h : HeaderOf text r) where
  pub found_fields : tokens (drop r.at text) ≡ page h.question
  found_fields = ap tokens h.place ∙ h.written.fields

  pub found-few : r.variables ≤ 32 → h.question.variables ≤ 32
  found-few k = omega (arith, h.variables-is)

  found_small : r.variables ≤ 32 → length (kinds h.question) ≤ most_frames → Small h.question
  found_small k l = record { few-variables = found-few k; few-frames = l }

  pub found-asked : r.variables ≤ 32 → Asked text r.at
  found-asked k = record { question = h.question; fields = found_fields; proper = h.written.proper; few = found-few k }

-- ---- the sheet

module _ {q : Question} {frames frames' : List ℕ} {n : ℕ} (b : BuiltAll q frames n frames') where
  pub built_few : n ≤ 800
  unfolding sheet_of
  built_few = omega (arith, b.size, sheet-length (kinds q), b.few)

  pub built_taken : take n frames' ≡ sheet_of q
  built_taken = ap (take n) b.bytes ∙ take_at (sheet_of q) (drop (length (sheet_of q)) frames) n (sym b.size)

-- ---- what reading gives

module _ {text sheet : List ℕ} (room : sheet_room ≤ length sheet) where
  pub read_broken : {f : Fault} → Headed text (Err f) → Read text sheet (number_of f) 0 sheet
  read_broken h = rw h.0 (malformed room h.1)

  module _ {r : Header} (h : HeaderOf text r) where
    pub read_many_variables : 32 < r.variables → Read text sheet Number.question_too_large 0 sheet
    read_many_variables k = large room h.written (inl (omega (arith, h.variables-is)))

    module _ (k : r.variables ≤ 32) where
      pub read-unbuilt : {f : Fault} (frames frames' : List ℕ) → Builds h.question frames (Err f) frames' → Read text sheet (number_of f) 0 sheet
      read-unbuilt frames frames' (inl b) = rw b.0 (large room h.written (inr b.1))
      read-unbuilt frames frames' (inr b) = rw b.0 (settled room h.written (found_small h k b.1) b.2)

      pub read_accepted : {frames frames' sheet' : List ℕ} {n : ℕ} → BuiltAll h.question frames n frames' → sheet' ≡ take n frames' ++ drop n sheet → Read text sheet 0 n sheet'
      read_accepted b e = rw (e, built_taken b, b.size) (accepted room h.written (found_small h k b.few) b.contingent)
