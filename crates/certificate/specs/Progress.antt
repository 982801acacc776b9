-- A run after some of its lines: what one more line adds, and what all of them give. Assumes nothing.
use Rattle.std.specs.Prelude.{ℕ, ◌+◌, ◌*◌, ◌≡◌, List, [], ◌++◌, drop, get_or}
use Rattle.form.specs.Form.{answer_start}
use Rattle.form.specs.declared.Form.{Form}
use Rattle.sheet.specs.Fields.{Sheet, sheet_of}
use Rattle.net.specs.Layout.{free_of}
use Rattle.net.specs.Sheet.{Checked, NetOf}
use Rattle.session.specs.declared.Session.{Session}
use Rattle.model.specs.Model.{Answer, answer_bytes, answers_to}
use Rattle.session.specs.Sound.{Sound}
use Rattle.certificate.specs.Run.{book, Held, as_lent, History}
use Rattle.certificate.specs.Course.{StepAt, Course}
use Rattle.certificate.specs.Written.{written}

-- k a b c are the bytes of line i
pub record LineIs (script : List ℕ) (i k a b c : ℕ) : Type 0 where
  pub k-is : k ≡ get_or script (i * 4) 0
  pub a-is : a ≡ get_or script (i * 4 + 1) 0
  pub b-is : b ≡ get_or script (i * 4 + 2) 0
  pub c-is : c ≡ get_or script (i * 4 + 3) 0

-- Line i: the session steps, and the answer's bytes are written at their place. Session and buffers before and, primed, after it.
pub record LineRun (s : Sheet) (script : List ℕ) (free i : ℕ) (x : Session) (ans u o : List ℕ) (x' : Session) (ans' u' o' : List ℕ) : Type 0 where
  pub answer : Answer
  pub step : StepAt s script free i x u o x' u' o' answer
  pub put : ans' ≡ written ans (answer_start s.form i) (answer_bytes s.form answer)

-- the records that the session x counts in the tables u and o
abbrev pub records_of : Session → List ℕ → List ℕ → Held
records_of x u o = record { under = u; cu = x.kept.under; over = o; co = x.kept.over }

-- After the first i lines of a run: session and buffers; ans, under and over are the buffers at the start.
pub record Progress (s : Sheet) (script : List ℕ) (free : ℕ) (ans under over : List ℕ) (i : ℕ) (x : Session) (ans' u o : List ℕ) : Type 0 where
  pub sound : Sound s free x u o
  pub course : Course s script free i x
  pub told : ans' ≡ answers_to s.form (book s) [] script i ++ drop (answer_start s.form i) ans
  pub history : History s script i (as_lent under over) (records_of x u o)

-- ---- every line in turn

-- After the first i lines over the net: it is as it was at the start, and the run of each checked sheet of the form F whose net it is has come that far.
pub record Turns (F : Form) (script net ans under over : List ℕ) (i : ℕ) (net' : List ℕ) (x : Session) (ans' u o : List ℕ) : Type 0 where
  pub same : net' ≡ net
  pub each : (b : List ℕ) → Checked (sheet_of F b) (free_of net) → NetOf (sheet_of F b) net → Progress (sheet_of F b) script (free_of net) ans under over i x ans' u o
