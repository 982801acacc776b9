-- The way over a sheet's frames that places them: a stack of frames that wait, the frame on top for those that it names; the numbers that frames got; and
-- what holds between two turns. Assumes nothing.
use Rattle.std.specs.Prelude.{ℕ, zero, suc, ◌+◌, ◌*◌, ◌-◌, ◌≤◌, ◌<◌, ◌≡◌, cond, max, List, [], ◌∷◌, length, get_or, set, ltb, Option, None, Some, Result, Ok, Err}
use Rattle.sheet.specs.Fields.{Sheet, frames, variables}
use Rattle.sheet.specs.Frames.{formula}
use Rattle.sheet.specs.Keeps.{Keeps}
use Rattle.sheet.specs.declared.Kind.{Kind}
use Rattle.sheet.specs.declared.Kind.TheVariants.{Never, Input, Not, And, Or, Exists, Forall, Gauge}
use Rattle.normal.specs.Normal.{place, gauge_of, normal_frames}
use Rattle.normal.specs.Lists.{kind_at, Holds}
use Rattle.normal.specs.PlaceLaws.{Written, formula_at}

-- ---- one frame among frames

-- r is the number of the first of n frames that is d, or n
pub record Found (ks : List Kind) (n : ℕ) (d : Kind) (r : ℕ) : Type 0 where
  pub within : r ≤ n
  pub hit : r < n → kind_at ks r ≡ d
  pub miss : (j : ℕ) → j < r → kind_at ks j ≡ d → ⊥

-- the first place that a frame can have: behind the frames that it names
abbrev pub first_place : Kind → ℕ
first_place Never = 0
first_place (Input x) = 0
first_place (Not a) = a + 1
first_place (And a b) = max a b + 1
first_place (Or a b) = max a b + 1
first_place (Exists a b c) = a + 1
first_place (Forall a b c) = a + 1
first_place (Gauge x) = 0

-- the first n frames have such places
pub record Behind (ks : List Kind) (n : ℕ) : Type 0 where
  pub behind : (j : ℕ) → j < n → first_place (kind_at ks j) ≤ j

-- the frame d placed among n frames: its number, and the frames and their count behind that
pub record Puts (ks : List Kind) (n : ℕ) (d : Kind) (ks' : List Kind) (number count : ℕ) : Type 0 where
  pub found : Found ks n d number
  pub kinds : ks' ≡ cond (ltb number n) ks (set ks n d)
  pub counted : count ≡ cond (ltb number n) n (n + 1)

-- ---- numbers

-- the new number of frame k, where it is placed
abbrev pub told : List (Option ℕ) → ℕ → Option ℕ
told ns k = get_or ns k None

-- the number that is told, 0 for none
abbrev pub number : Option ℕ → ℕ
number None = 0
number (Some m) = m

-- the new number of a frame that is placed
abbrev pub number_at : List (Option ℕ) → ℕ → ℕ
number_at ns k = number (told ns k)

-- a frame of this kind with the new numbers of the frames that it names
unfoldable pub renamed : List (Option ℕ) → Kind → Kind
renamed ns Never = Never
renamed ns (Input x) = Input x
renamed ns (Not a) = Not (number_at ns a)
renamed ns (And a b) = And (number_at ns a) (number_at ns b)
renamed ns (Or a b) = Or (number_at ns a) (number_at ns b)
renamed ns (Exists a b c) = Exists (number_at ns a) b c
renamed ns (Forall a b c) = Forall (number_at ns a) b c
renamed ns (Gauge x) = Gauge x

-- a, where it is told no number; else next
abbrev pub untold_or : Option ℕ → ℕ → Option ℕ → Option ℕ
untold_or None a next = Some a
untold_or (Some m) a next = next

-- the frame a, unless it is placed; then next
abbrev pub unplaced_or : List (Option ℕ) → ℕ → Option ℕ → Option ℕ
unplaced_or ns a next = untold_or (told ns a) a next

-- the first frame that a kind names and that is not placed
unfoldable pub first_unplaced : List (Option ℕ) → Kind → Option ℕ
first_unplaced ns Never = None
first_unplaced ns (Input x) = None
first_unplaced ns (Not a) = unplaced_or ns a None
first_unplaced ns (And a b) = unplaced_or ns a (unplaced_or ns b None)
first_unplaced ns (Or a b) = unplaced_or ns a (unplaced_or ns b None)
first_unplaced ns (Exists a b c) = unplaced_or ns a None
first_unplaced ns (Forall a b c) = unplaced_or ns a None
first_unplaced ns (Gauge x) = None

-- what one frame is told: its number, or, not placed, itself
abbrev pub NumberOf : List (Option ℕ) → ℕ → Result ℕ ℕ → Type 0
NumberOf ns a (Ok m) = told ns a ≡ Some m
NumberOf ns a (Err b) = (told ns a ≡ None) × (b ≡ a)

-- and a kind: itself with new numbers, or the first frame that it names and that is not placed
abbrev pub Renames : List (Option ℕ) → Kind → Result Kind ℕ → Type 0
Renames ns d (Ok e) = (first_unplaced ns d ≡ None) × (e ≡ renamed ns d)
Renames ns d (Err a) = first_unplaced ns d ≡ Some a

abbrev pub one_untold : Option ℕ → ℕ
one_untold None = 1
one_untold (Some m) = 0

-- how many of the first n frames are not placed
unfoldable pub unplaced : List (Option ℕ) → ℕ → ℕ
unplaced ns zero = 0
unplaced ns (suc n) = one_untold (told ns n) + unplaced ns n

-- ---- the stack

-- the frames on a stack of this depth, its top first
unfoldable pub stack_of : List ℕ → ℕ → List ℕ
stack_of st zero = []
stack_of st (suc d) = get_or st d 0 ∷ stack_of st d

-- they ascend from low on, below n, and none is placed
abbrev pub Waits : List (Option ℕ) → ℕ → ℕ → List ℕ → Type 0
Waits ns n low [] = low ≤ n
Waits ns n low (k ∷ st) = (low ≤ k) × (told ns k ≡ None) × Waits ns n (suc k) st

-- the frames l, with those of the stack placed one after the other
unfoldable pub finish : Sheet → List ℕ → List Kind → List Kind
finish s [] l = l
finish s (k ∷ st) l = finish s st (place (gauge_of s) (formula s k) l).frames

-- turns that are left: each places a frame or makes the stack deeper, which has at most 3,000 frames
abbrev pub left : List (Option ℕ) → ℕ → ℕ → ℕ
left ns n depth = unplaced ns n * 3001 + (3000 - depth)

-- ---- between two turns

-- frame k is not placed, or has the number of a frame of l that has its formula
abbrev pub Numbered : Sheet → List Kind → ℕ → Option ℕ → Type 0
Numbered s l k None = Unit {0}
Numbered s l k (Some m) = (m < length l) × (formula_at l m ≡ formula s k)

pub record Visiting (s : Sheet) (ks : List Kind) (ns : List (Option ℕ)) (st : List ℕ) (count depth : ℕ) : Type 0 where
  pub keeps : Keeps s
  pub kinds-room : frames s ≤ length ks
  pub numbers-room : frames s ≤ length ns
  pub stack_room : frames s ≤ length st
  -- the frames written so far
  pub list : List Kind
  pub counted : count ≡ length list
  pub holds : Holds ks list
  pub written : Written (gauge_of s) (variables s) list
  pub numbered : (k : ℕ) → k < frames s → Numbered s list k (told ns k)
  -- each was written for a frame that is placed
  pub few : length list + unplaced ns (frames s) ≤ frames s
  pub waits : Waits ns (frames s) 0 (stack_of st depth)
  -- those on the stack lead to the normal sheet
  pub leads : finish s (stack_of st depth) list ≡ normal_frames s

-- ---- the end

-- the frames begin with those of the normal sheet, so many
pub record Visited (s : Sheet) (ks : List Kind) (count : ℕ) : Type 0 where
  pub counted : count ≡ length (normal_frames s)
  pub holds : Holds ks (normal_frames s)
