-- What reading a text gives. Assumes nothing.
use Rattle.std.specs.Prelude.{ℕ, false, ◌≤◌, ◌<◌, List, ◌++◌, ◌⊎◌, ◌≡◌, length, drop, Result, Ok, Err}
use Rattle.sheet.specs.Refusal as Number
use Rattle.sheet.specs.declared.refusal.Fault.{Fault}
use Rattle.sheet.specs.declared.refusal.Fault.TheVariants.{QuestionBroken, QuestionTooLarge}
use Rattle.prenex.specs.Question.{Question, Proper, Contingent}
use Rattle.prenex.specs.Kinds.{variables, most_frames, kinds, sheet_of}
use Rattle.prenex.specs.Code.{codes_of}
use Rattle.prenex.specs.CodeLaws.{Words}
use Rattle.dimacs.specs.Page.{page, Written, WellFormed}
use Rattle.dimacs.specs.Token.{tokens, behind_comments}
use Rattle.qdimacs.specs.declared.check.Header.{Header}

-- the least length of the sheet's buffer
abbrev pub sheet_room : ℕ
sheet_room = 800

-- more variables in the problem line, or more frames, than a sheet can have
abbrev pub Large : Question → Type 0
Large q = (variables < q.variables) ⊎ (most_frames < length (kinds q))

pub record Small (q : Question) : Type 0 where
  pub few-variables : q.variables ≤ variables
  pub few-frames : length (kinds q) ≤ most_frames

-- What reading a text into a buffer gives, in the order of the request: a refusal's number or 0, how many bytes are written, and the buffer
pub data Read (text sheet : List ℕ) : ℕ → ℕ → List ℕ → Type 0 where
  short : length sheet < sheet_room → Read text sheet Number.no_room 0 sheet
  malformed : sheet_room ≤ length sheet → (WellFormed text → ⊥) → Read text sheet Number.question_broken 0 sheet
  large : sheet_room ≤ length sheet → {q : Question} → Written q text → Large q → Read text sheet Number.question_too_large 0 sheet
  settled : sheet_room ≤ length sheet → {q : Question} → Written q text → Small q → (Contingent q.clauses → ⊥) → Read text sheet Number.question_broken 0 sheet
  accepted : sheet_room ≤ length sheet → {q : Question} → Written q text → Small q → Contingent q.clauses
      → Read text sheet 0 (length (sheet_of q)) (sheet_of q ++ drop (length (sheet_of q)) sheet)

-- what the check of a text finds, if it is well formed: where its fields begin, and the variables of the problem line
pub record HeaderOf (text : List ℕ) (r : Header) : Type 0 where
  pub question : Question
  pub written : Written question text
  pub variables-is : r.variables ≡ question.variables
  pub place : drop r.at text ≡ behind_comments false text
  pub within : r.at ≤ length text

abbrev pub Headed : List ℕ → Result Header Fault → Type 0
Headed text (Ok r) = HeaderOf text r
Headed text (Err f) = (f ≡ QuestionBroken) × (WellFormed text → ⊥)

-- the text goes on from a place with a question of at most 32 variables
pub record Asked (text : List ℕ) (at : ℕ) : Type 0 where
  pub question : Question
  pub fields : tokens (drop at text) ≡ page question
  pub proper : Proper question
  pub few : question.variables ≤ variables

-- a question of at most 32 variables, in two arrays
pub record Arranged (q : Question) (codes words : List ℕ) : Type 0 where
  pub codes_are : codes ≡ codes_of q.clauses
  pub words_are : Words words q.blocks
  pub proper : Proper q
  pub few : q.variables ≤ variables

pub record Arrays (codes words : List ℕ) : Type 0 where
  pub question : Question
  pub arranged : Arranged question codes words
  pub codes_few : length codes ≤ 400
  pub words_few : length words ≤ 200

-- all frames of a question, n bytes
pub record BuiltAll (q : Question) (frames : List ℕ) (n : ℕ) (frames' : List ℕ) : Type 0 where
  pub few : length (kinds q) ≤ most_frames
  pub size : n ≡ length (sheet_of q)
  pub bytes : frames' ≡ sheet_of q ++ drop (length (sheet_of q)) frames
  pub contingent : Contingent q.clauses

-- what building the frames of a question of at most 32 variables gives
abbrev pub Builds : Question → List ℕ → Result ℕ Fault → List ℕ → Type 0
Builds q frames (Ok n) frames' = BuiltAll q frames n frames'
Builds q frames (Err f) frames' =
    (f ≡ QuestionTooLarge) × (most_frames < length (kinds q)) ⊎ (f ≡ QuestionBroken) × (length (kinds q) ≤ most_frames) × (Contingent q.clauses → ⊥)
