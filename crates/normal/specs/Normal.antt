-- A sheet's normal sheet (document 02, N7): the frames that its formula is written with, their bytes, what a writer of them refuses, and its contract for all
-- inputs. Assumes nothing.
use Rattle.std.specs.Prelude.{ℕ, suc, ◌/◌, ◌%◌, ◌<◌, ◌≡◌, Bool, cond, ◌&&◌, List, [], ◌∷◌, ◌++◌, length, drop, eqb, ltb}
use Rattle.words.specs.Word.{bit}
use Rattle.form.specs.declared.Form.{Form}
use Rattle.form.specs.declared.Form.TheVariants.{Narrow, Wide}
use Rattle.formula.specs.Formula.{Formula, never, input, neg, gate, quant}
use Rattle.sheet.specs.Refusal as Number
use Rattle.sheet.specs.Cause.{Cause, Refusal, first}
use Rattle.sheet.specs.Fields.{Sheet, sheet_of}
use Rattle.sheet.specs.Frames.{formula}
use Rattle.sheet.specs.Rules.{last, cause, gauges, sheet_causes}
use Rattle.sheet.specs.declared.Fields.{Fields}
use Rattle.sheet.specs.declared.Kind.{Kind}
use Rattle.sheet.specs.declared.Kind.TheVariants.{Never, Input, Not, And, Or, Exists, Forall, Gauge}

-- ---- frames

abbrev fields : ℕ → ℕ → ℕ → ℕ → Fields
fields k a b c = record { k = k; a = a; b = b; c = c }

-- the fields of a frame of this kind, spare ones 0
unfoldable pub fields_of : Kind → Fields
fields_of Never = fields 0 0 0 0
fields_of (Input x) = fields 1 x 0 0
fields_of (Not a) = fields 2 a 0 0
fields_of (And a b) = fields 3 a b 0
fields_of (Or a b) = fields 4 a b 0
fields_of (Exists a b c) = fields 5 a b c
fields_of (Forall a b c) = fields 6 a b c
fields_of (Gauge x) = fields 7 x 0 0

-- two frames have the same kind and fields
unfoldable pub same_fields : Fields → Fields → Bool
same_fields f g = (eqb f.k g.k && eqb f.a g.a) && (eqb f.b g.b && eqb f.c g.c)

-- the number of the first frame that is the same as d, or, where there is none, of frames
unfoldable pub index : Kind → List Kind → ℕ
index d [] = 0
index d (e ∷ l) = cond (same_fields (fields_of d) (fields_of e)) 0 (suc (index d l))

-- frames, and the number of one of them
pub record Placed : Type 0 where
  pub frames : List Kind
  pub number : ℕ

-- the frame d among the frames l: the one that is there, or else behind them
unfoldable pub put : Kind → List Kind → Placed
put d l = record { frames = cond (ltb (index d l) (length l)) l (l ++ (d ∷ [])); number = index d l }

-- a frame that reads x, by whether x is a gauge
abbrev pub reading : Bool → ℕ → Kind
reading g x = cond g (Gauge x) (Input x)

abbrev pub gate_of : Bool → ℕ → ℕ → Kind
gate_of d a b = cond d (Or a b) (And a b)

abbrev pub quant_of : Bool → ℕ → ℕ → ℕ → Kind
quant_of d b c a = cond d (Exists a b c) (Forall a b c)

-- A formula among the frames l, where γ tells the gauges: A's whole side, then B's, then the frame that joins them, each unless it is there.
unfoldable pub place : (ℕ → Bool) → Formula → List Kind → Placed
place γ never l = put Never l
place γ (input x) l = put (reading (γ x) x) l
place γ (neg f) l = let p = place γ f l in put (Not p.number) p.frames
place γ (gate d f g) l =
    let p = place γ f l in
    let q = place γ g p.frames in
    put (gate_of d p.number q.number) q.frames
place γ (quant d b c f) l = let p = place γ f l in put (quant_of d b c p.number) p.frames

-- ---- the normal sheet

-- whether x is a gauge of the sheet
abbrev pub gauge_of : Sheet → ℕ → Bool
gauge_of s x = bit (gauges s) x

-- The frames depend on the sheet's formula, as a tree, and on its gauges alone.
unfoldable pub normal_frames : Sheet → List Kind
normal_frames s = (place (gauge_of s) (formula s (last s)) []).frames

-- the bytes of a frame with these fields
abbrev pub frame_of : Form → Fields → List ℕ
frame_of Narrow f = f.k ∷ f.a ∷ f.b ∷ f.c ∷ []
frame_of Wide f = f.k ∷ f.a / 256 ∷ f.a % 256 ∷ f.b / 256 ∷ f.b % 256 ∷ f.c / 256 ∷ f.c % 256 ∷ []

unfoldable pub frames_bytes : Form → List Kind → List ℕ
frames_bytes F [] = []
frames_bytes F (d ∷ l) = frame_of F (fields_of d) ++ frames_bytes F l

abbrev pub normal_bytes : Sheet → List ℕ
normal_bytes s = frames_bytes s.form (normal_frames s)

abbrev pub normal : Sheet → Sheet
normal s = sheet_of s.form (normal_bytes s)

-- ---- the writer

-- the sheet's own causes, and then a buffer of so many bytes that is shorter than the normal sheet
unfoldable pub write_causes : Sheet → ℕ → List Cause
write_causes s bytes = sheet_causes s ++ (cause (ltb bytes (length (normal_bytes s))) Number.normal_no_room 0 ∷ [])

abbrev pub refusal : Sheet → ℕ → Refusal
refusal s bytes = first (write_causes s bytes)

-- What the writer tells and leaves in the buffer, for every sheet and buffer: at entry and, primed, at exit.
pub record Writes (s : Sheet) (out out' : List ℕ) (number place size : ℕ) : Type 0 where
  pub number_is : number ≡ (refusal s (length out)).number
  pub place_is : place ≡ (refusal s (length out)).place
  -- refused: the buffer as it was
  pub untouched : 0 < number → (out' ≡ out) × (size ≡ 0)
  -- accepted: the normal sheet, then what was behind it
  pub written : number ≡ 0 → (size ≡ length (normal_bytes s)) × (out' ≡ normal_bytes s ++ drop size out)
