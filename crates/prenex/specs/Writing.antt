-- What the steps of writing a question's frames leave. Assumes nothing.
use Rattle.std.specs.Prelude.{ℕ, ◌+◌, ◌-◌, ◌*◌, ◌≤◌, ◌<◌, Bool, cond, ◌&&◌, ◌||◌, List, ◌≡◌, eqb, length, get_or}
use Rattle.std.proofs.lemmas.List.Edits.{sets}
use Rattle.words.specs.Word.{bit}
use Rattle.sheet.specs.declared.Kind.{Kind}
use Rattle.sheet.specs.declared.Kind.TheVariants.{Never, Input, Not, And, Or, Exists, Forall, Gauge}
use Rattle.prenex.specs.Question.{Literal}
use Rattle.prenex.specs.Kinds.{clause_kinds, clause_ends, frame_bytes, sheet_bytes}
use Rattle.prenex.specs.Code.{literal_of, clauses_of}
use Rattle.prenex.specs.declared.literal.Occurring.{Occurring}
use Rattle.prenex.specs.declared.clause.Chained.{Chained}
use Rattle.prenex.specs.declared.clause.Link.{Link}

-- the fields of a frame fit a byte each
abbrev pub FitBytes : Kind → Type 0
FitBytes Never = Unit {0}
FitBytes (Input x) = x < 256
FitBytes (Not a) = a < 256
FitBytes (And a b) = (a < 256) × (b < 256)
FitBytes (Or a b) = (a < 256) × (b < 256)
FitBytes (Exists a b c) = (a < 256) × (b < 256) × (c < 256)
FitBytes (Forall a b c) = (a < 256) × (b < 256) × (c < 256)
FitBytes (Gauge x) = x < 256

-- the words with the literal of a code added
pub record With (found : Occurring) (code : ℕ) (r : Occurring) : Type 0 where
  pub all-is : (x : ℕ) → bit r.all x ≡ bit found.all x || eqb x (literal_of code).variable
  pub negated-is : (x : ℕ) → bit r.negated x ≡ bit found.negated x || ((literal_of code).negative && eqb x (literal_of code).variable)

-- a literal's frame joined to the chain at a frame, or the first of a chain
pub record Linked (first : Bool) (at member n : ℕ) (out : List ℕ) (r : Link) (out' : List ℕ) : Type 0 where
  pub at-is : r.at ≡ cond first member n
  pub frames-is : r.frames ≡ cond first n (n + 1)
  pub bytes : out' ≡ cond first out (sets out (n * 4) (frame_bytes (Or at member)))

-- numbers of frames that are literals' or before n
pub record Members (n : ℕ) (l : List ℕ) : Type 0 where
  pub bound : (i : ℕ) → get_or l i 0 ≤ 64 + (n - 64)

-- the chains of clauses from frame n on, with f for the frames of literals, and the frames that they end with
pub record Clauses (codes : List ℕ) (f : Literal → ℕ) (n : ℕ) (out ends : List ℕ) (r : Chained) (out' ends' : List ℕ) : Type 0 where
  pub frames-is : r.frames ≡ n + length (clause_kinds f (clauses_of codes) n)
  pub frames-few : r.frames ≤ n + length codes
  pub ends_is : r.ends ≡ length (clause_ends f (clauses_of codes) n)
  pub ends-few : r.ends ≤ length codes
  pub members : Members r.frames (clause_ends f (clauses_of codes) n)
  pub bytes : out' ≡ sets out (n * 4) (sheet_bytes (clause_kinds f (clauses_of codes) n))
  pub stored : ends' ≡ sets ends 0 (clause_ends f (clauses_of codes) n)
