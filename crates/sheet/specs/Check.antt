-- What the check of a sheet computes: words of the variables that frames bind, name and have free, and its answer. Assumes nothing.
use Rattle.std.specs.Prelude.{ℕ, ◌^◌, ◌<◌, ◌≡◌, cond, List, get_or}
use Rattle.std.specs.Int.Bits.{bit_or}
use Rattle.words.specs.Word.{bit}
use Rattle.words.specs.Mask.{without, range_mask}
use Rattle.formula.specs.Formula.{Formula}
use Rattle.formula.specs.Ask.{free_mask}
use Rattle.sheet.specs.Cause.{Cause, first, some_holds}
use Rattle.sheet.specs.Refusal as Number
use Rattle.form.specs.Form.{variables}
use Rattle.sheet.specs.Fields.{Sheet}
use Rattle.sheet.specs.Frames.{formula}
use Rattle.sheet.specs.Rules as Rules
use Rattle.sheet.specs.Rules.{last, bad_variables, cause, binds, names_input, names_gauge, Past, meet, named_both, binds_gauge}
use Rattle.form.specs.declared.Form.{Form}
use Rattle.sheet.specs.declared.Kind.{Kind}
use Rattle.sheet.specs.declared.Kind.TheVariants.{Never, Input, Not, And, Or, Exists, Forall, Gauge}
use Rattle.sheet.specs.declared.rules.Seen.{Seen}

-- the answer of a check by the causes cs: the first that holds; if none does, the free variables of the last frame and the sheet's gauges
pub record Checks (cs : List Cause) (s : Sheet) (number place word gauges : ℕ) : Type 0 where
  pub number_is : number ≡ (first cs).number
  pub place_is : place ≡ (first cs).place
  pub free-is : word ≡ cond (some_holds cs) 0 (free_mask (variables s.form) (formula s (last s)))
  pub gauges_are : gauges ≡ cond (some_holds cs) 0 (Rules.gauges s)

-- ---- the variables that a kind binds, names by an INPUT and names as gauges, as words

unfoldable pub bound_mask : Kind → ℕ
bound_mask Never = 0
bound_mask (Input x) = 0
bound_mask (Not a) = 0
bound_mask (And a b) = 0
bound_mask (Or a b) = 0
bound_mask (Exists a b c) = range_mask b c
bound_mask (Forall a b c) = range_mask b c
bound_mask (Gauge x) = 0

unfoldable pub input_mask : Kind → ℕ
input_mask Never = 0
input_mask (Input x) = 2 ^ x
input_mask (Not a) = 0
input_mask (And a b) = 0
input_mask (Or a b) = 0
input_mask (Exists a b c) = 0
input_mask (Forall a b c) = 0
input_mask (Gauge x) = 0

unfoldable pub gauge_mask : Kind → ℕ
gauge_mask Never = 0
gauge_mask (Input x) = 0
gauge_mask (Not a) = 0
gauge_mask (And a b) = 0
gauge_mask (Or a b) = 0
gauge_mask (Exists a b c) = 0
gauge_mask (Forall a b c) = 0
gauge_mask (Gauge x) = 2 ^ x

-- ---- what earlier frames did, as words

abbrev pub past_by : Seen → Past
past_by w = record { bound = bit w.bound; inputs = bit w.inputs; gauges = bit w.gauges }

-- behind a frame of kind d
abbrev pub seen_after : Seen → Kind → Seen
seen_after w d = record { bound = bit_or w.bound (bound_mask d); inputs = bit_or w.inputs (input_mask d); gauges = bit_or w.gauges (gauge_mask d) }

-- ---- the free variables of a frame, from the words l of the frames before it

unfoldable pub free_word : List ℕ → Kind → ℕ
free_word l Never = 0
free_word l (Input x) = 2 ^ x
free_word l (Not a) = get_or l a 0
free_word l (And a b) = bit_or (get_or l a 0) (get_or l b 0)
free_word l (Or a b) = bit_or (get_or l a 0) (get_or l b 0)
free_word l (Exists a b c) = without (get_or l a 0) (range_mask b c)
free_word l (Forall a b c) = without (get_or l a 0) (range_mask b c)
free_word l (Gauge x) = 2 ^ x

-- the first k words of l are the free variables of the formulas of g
abbrev pub FreeBelow : ℕ → ℕ → List ℕ → (ℕ → Formula) → Type 0
FreeBelow n k l g = (a : ℕ) → a < k → get_or l a 0 ≡ free_mask n (g a)

-- ---- the last four causes of a frame, as a number

unfoldable pub variables_fault : Form → Kind → Past → ℕ
variables_fault F d p =
    cond (bad_variables F d) Number.range_broken
    (cond (named_both F d p) Number.input_and_gauge
    (cond (binds_gauge F d p) Number.gauge_bound
    (cond (meet F (binds d) p.bound) Number.bound_twice 0)))
