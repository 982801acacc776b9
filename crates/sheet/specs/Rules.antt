-- Document 01's causes to refuse a sheet, and document 02's for gauges, each as a test of its bytes or of a frame's fields, and their order. Assumes nothing.
use Rattle.std.specs.Prelude.{ℕ, zero, suc, ◌+◌, ◌-◌, Bool, false, not, ◌&&◌, ◌||◌, List, [], ◌∷◌, ◌++◌, length, eqb, leb, ltb}
use Rattle.words.specs.Mask.{mask_of}
use Rattle.formula.specs.Assignment.{within}
use Rattle.formula.specs.Formula.{free}
use Rattle.sheet.specs.Cause.{Cause, Refusal, first}
use Rattle.sheet.specs.Refusal as Number
use Rattle.form.specs.Form as Sizes
use Rattle.sheet.specs.Fields.{Sheet, frames, variables, fields_at, kind_of, kind}
use Rattle.sheet.specs.Frames.{formula}
use Rattle.form.specs.declared.Form.{Form}
use Rattle.sheet.specs.declared.Fields.{Fields}
use Rattle.sheet.specs.declared.Kind.{Kind}
use Rattle.sheet.specs.declared.Kind.TheVariants.{Never, Input, Not, And, Or, Exists, Forall, Gauge}

-- the sheet's formula is that of its last frame
abbrev pub last : Sheet → ℕ
last s = frames s - 1

-- p holds of some number below n
unfoldable pub some_below : ℕ → (ℕ → Bool) → Bool
some_below zero p = false
some_below (suc n) p = some_below n p || p n

-- ---- what a kind asks of its fields

-- how many of the fields A B C a kind uses; those behind are spare
unfoldable pub used : Kind → ℕ
used Never = 0
used (Input x) = 1
used (Not a) = 1
used (And a b) = 2
used (Or a b) = 2
used (Exists a b c) = 3
used (Forall a b c) = 3
used (Gauge x) = 1

-- the field x at a place of A B C is spare, behind the first n, and not 0
abbrev pub spare_at : ℕ → ℕ → ℕ → Bool
spare_at n place x = leb n place && not (eqb x 0)

unfoldable pub spare_set : ℕ → ℕ → ℕ → ℕ → Bool
spare_set n a b c = spare_at n 0 a || (spare_at n 1 b || spare_at n 2 c)

-- the frames that a kind names
unfoldable pub names : Kind → List ℕ
names Never = []
names (Input x) = []
names (Not a) = a ∷ []
names (And a b) = a ∷ (b ∷ [])
names (Or a b) = a ∷ (b ∷ [])
names (Exists a b c) = a ∷ []
names (Forall a b c) = a ∷ []
names (Gauge x) = []

-- one of them is not before k
unfoldable pub some_late : ℕ → List ℕ → Bool
some_late k [] = false
some_late k (a ∷ l) = leb k a || some_late k l

-- not 1 to 32 (wide: 64) variables from b on, all below 32 (64); b + c is a sum of numbers, not of bytes
unfoldable pub bad_range : Form → ℕ → ℕ → Bool
bad_range F b c = eqb c 0 || (ltb (Sizes.variables F) c || ltb (Sizes.variables F) (b + c))

abbrev pub bad_input : Form → ℕ → Bool
bad_input F x = leb (Sizes.variables F) x

unfoldable pub bad_variables : Form → Kind → Bool
bad_variables F Never = false
bad_variables F (Input x) = bad_input F x
bad_variables F (Not a) = false
bad_variables F (And a b) = false
bad_variables F (Or a b) = false
bad_variables F (Exists a b c) = bad_range F b c
bad_variables F (Forall a b c) = bad_range F b c
bad_variables F (Gauge x) = bad_input F x

-- a frame of this kind binds the variable v
unfoldable pub binds : Kind → ℕ → Bool
binds Never v = false
binds (Input x) v = false
binds (Not a) v = false
binds (And a b) v = false
binds (Or a b) v = false
binds (Exists a b c) v = within b c v
binds (Forall a b c) v = within b c v
binds (Gauge x) v = false

-- names it by an INPUT
unfoldable pub names_input : Kind → ℕ → Bool
names_input Never v = false
names_input (Input x) v = eqb v x
names_input (Not a) v = false
names_input (And a b) v = false
names_input (Or a b) v = false
names_input (Exists a b c) v = false
names_input (Forall a b c) v = false
names_input (Gauge x) v = false

-- names it as a gauge
unfoldable pub names_gauge : Kind → ℕ → Bool
names_gauge Never v = false
names_gauge (Input x) v = false
names_gauge (Not a) v = false
names_gauge (And a b) v = false
names_gauge (Or a b) v = false
names_gauge (Exists a b c) v = false
names_gauge (Forall a b c) v = false
names_gauge (Gauge x) v = eqb v x

-- some frame before k does p to v, reached from the last frame or not
unfoldable pub some_before : (Kind → ℕ → Bool) → (ℕ → Kind) → ℕ → ℕ → Bool
some_before p κ zero v = false
some_before p κ (suc k) v = some_before p κ k v || p (κ k) v

abbrev pub bound_before : (ℕ → Kind) → ℕ → ℕ → Bool
bound_before κ k v = some_before binds κ k v

-- the gauges of a sheet, as a word
unfoldable pub gauges : Sheet → ℕ
gauges s = mask_of (variables s) (some_before names_gauge (kind s) (frames s))

-- what the frames before one do to the variables
pub record Past : Type 0 where
  pub bound : ℕ → Bool
  pub inputs : ℕ → Bool
  pub gauges : ℕ → Bool

abbrev pub past_of : (ℕ → Kind) → ℕ → Past
past_of κ k = record { bound = some_before binds κ k; inputs = some_before names_input κ k; gauges = some_before names_gauge κ k }

-- p and q have a variable in common
unfoldable pub meet : Form → (ℕ → Bool) → (ℕ → Bool) → Bool
meet F p q = some_below (Sizes.variables F) (λ v. p v && q v)

-- a frame of kind d names by an INPUT a variable that was named as a gauge, or the other way round
unfoldable pub named_both : Form → Kind → Past → Bool
named_both F d p = meet F (names_input d) p.gauges || meet F (names_gauge d) p.inputs

-- it binds a variable that was named as a gauge, or the other way round
unfoldable pub binds_gauge : Form → Kind → Past → Bool
binds_gauge F d p = meet F (binds d) p.gauges || meet F (names_gauge d) p.bound

-- ---- the causes in document 01's order, with document 02's 22 and 23 between 9 and 10

abbrev pub cause : Bool → ℕ → ℕ → Cause
cause t n k = record { holds = t; number = n; place = k }

-- of a sheet of n bytes
unfoldable pub length_causes : Form → ℕ → List Cause
length_causes F n =
    cause (eqb n 0 || not (eqb (Sizes.rest F n) 0)) Number.not_whole 0
    ∷ (cause (ltb (Sizes.most_frames F) (Sizes.frames F n)) Number.sheet_too_long 0 ∷ [])

abbrev pub size_causes : Sheet → List Cause
size_causes s = length_causes s.form (length s.bytes)

-- of frame k with the fields f, behind frames that do p
unfoldable pub field_causes : Form → Fields → ℕ → Past → List Cause
field_causes F f k p =
    cause (ltb 7 f.k) Number.kind_unknown k
    ∷ (cause (spare_set (used (kind_of f)) f.a f.b f.c) Number.spare_used k
    ∷ (cause (some_late k (names (kind_of f))) Number.not_earlier k
    ∷ (cause (bad_variables F (kind_of f)) Number.range_broken k
    ∷ (cause (named_both F (kind_of f) p) Number.input_and_gauge k
    ∷ (cause (binds_gauge F (kind_of f) p) Number.gauge_bound k
    ∷ (cause (meet F (binds (kind_of f)) p.bound) Number.bound_twice k ∷ []))))))

abbrev pub causes_of : Sheet → ℕ → Past → List Cause
causes_of s k p = field_causes s.form (fields_at s k) k p

abbrev pub causes_at : Sheet → ℕ → List Cause
causes_at s k = causes_of s k (past_of (kind s) k)

-- frame by frame, below k
unfoldable pub causes_below : Sheet → ℕ → List Cause
causes_below s zero = []
causes_below s (suc k) = causes_below s k ++ causes_at s k

abbrev pub root_causes : Sheet → List Cause
root_causes s =
    cause (meet s.form (bound_before (kind s) (frames s)) (free (formula s (last s)))) Number.bound_free (last s) ∷ []

unfoldable pub frame_causes : Sheet → List Cause
frame_causes s = causes_below s (frames s) ++ root_causes s

abbrev pub sheet_causes : Sheet → List Cause
sheet_causes s = size_causes s ++ frame_causes s

abbrev pub sheet_refusal : Sheet → Refusal
sheet_refusal s = first (sheet_causes s)
