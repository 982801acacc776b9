-- Worked refusals: document 01's panel cases of a sheet, document 02's of gauges, and each cause alone, with another in one frame, and in two frames. One
-- computed test over the table, and one proof. Assumes nothing.
use Rattle.std.specs.Prelude.{ℕ, ◌≡◌, refl, Bool, true, ◌&&◌, List, [], ◌∷◌, ◌++◌, replicate, eqb}
use Rattle.words.specs.Mask.{mask_of}
use Rattle.formula.specs.Assignment.{within}
use Rattle.formula.specs.Formula.{free}
use Rattle.sheet.specs.Cause.{first}
use Rattle.form.specs.declared.Form.TheVariants.{Narrow, Wide}
use Rattle.sheet.specs.Fields.{sheet_of, fields_at, kind_of}
use Rattle.sheet.specs.Frames.{build, tree, formula_of}
use Rattle.sheet.specs.Rules.{some_below, used, spare_set, names, some_late, bad_range, bad_variables, binds, names_input, names_gauge, some_before, gauges, meet, named_both, binds_gauge, length_causes, field_causes, causes_below, frame_causes, sheet_refusal}
use Rattle.sheet.specs.Cases.{Case}

case : List ℕ → ℕ → ℕ → Case
case s n k = record { sheet = sheet_of Narrow s; number = n; place = k }

wide-case : List ℕ → ℕ → ℕ → Case
wide-case s n k = record { sheet = sheet_of Wide s; number = n; place = k }

frame : ℕ → ℕ → ℕ → ℕ → List ℕ
frame k a b c = k ∷ (a ∷ (b ∷ (c ∷ [])))

-- a wide frame; the last three are the fields' low bytes, the three before them the high ones
wide-frame : ℕ → ℕ → ℕ → ℕ → ℕ → ℕ → ℕ → List ℕ
wide-frame k ah bh ch a b c = k ∷ (ah ∷ (a ∷ (bh ∷ (b ∷ (ch ∷ (c ∷ []))))))

-- INPUT 0, wide
wide-input : List ℕ
wide-input = wide-frame 1 0 0 0 0 0 0

-- INPUT 0
first-input : List ℕ
first-input = frame 1 0 0 0

pub cases : List Case
cases =
    case [] 2 0
    ∷ (case (1 ∷ []) 2 0
    ∷ (case (replicate 803 0) 2 0
    ∷ (case (replicate 804 0) 3 0
    ∷ (case (frame 0 0 0 0) 0 0
    ∷ (case (frame 8 0 0 0) 6 0
    ∷ (case (frame 8 1 0 0) 6 0
    ∷ (case (frame 1 32 1 0) 7 0
    ∷ (case (frame 2 0 1 0) 7 0
    ∷ (case (frame 2 0 0 0) 8 0
    ∷ (case (frame 5 0 255 1) 8 0
    ∷ (case (first-input ++ frame 5 0 255 1) 9 1
    ∷ (case (frame 1 32 0 0) 9 0
    ∷ (case (frame 1 31 0 0) 0 0
    ∷ (case (first-input ++ frame 5 0 0 32) 0 0
    ∷ (case (first-input ++ frame 5 0 1 32) 9 1
    ∷ (case (first-input ++ frame 5 0 0 0) 9 1
    ∷ (case (first-input ++ (frame 5 0 0 1 ++ frame 6 0 0 1)) 10 2
    ∷ (case (first-input ++ (frame 5 0 0 1 ++ frame 6 1 31 2)) 9 2
    ∷ (case (first-input ++ (frame 5 0 0 1 ++ frame 3 0 1 0)) 11 2
    ∷ (case (first-input ++ (frame 5 0 0 1 ++ (frame 6 1 0 1 ++ frame 3 0 1 0))) 10 2
    ∷ (case (frame 1 40 0 0 ++ frame 9 0 0 0) 9 0
    ∷ [])))))))))))))))))))))

-- the gauge 1
gauge_1 : List ℕ
gauge_1 = frame 7 1 0 0

-- of gauges: each cause alone, in either order of the two frames, with another in one frame and in two, and of frames that the last does not reach
pub gauge_cases : List Case
gauge_cases =
    case (frame 7 0 0 0) 0 0
    ∷ (case (frame 7 31 0 0) 0 0
    ∷ (case (frame 7 32 0 0) 9 0
    ∷ (case (frame 7 0 1 0) 7 0
    ∷ (case (frame 7 0 0 1) 7 0
    ∷ (case (gauge_1 ++ gauge_1) 0 0
    ∷ (case (first-input ++ (gauge_1 ++ frame 4 0 1 0)) 0 0
    ∷ (case (frame 1 1 0 0 ++ gauge_1) 22 1
    ∷ (case (gauge_1 ++ frame 1 1 0 0) 22 1
    ∷ (case (gauge_1 ++ (first-input ++ frame 5 1 1 1)) 23 2
    ∷ (case (first-input ++ (frame 6 0 0 3 ++ gauge_1)) 23 2
    ∷ (case (frame 1 1 0 0 ++ (frame 5 0 1 1 ++ gauge_1)) 22 2
    ∷ (case (first-input ++ (gauge_1 ++ (frame 5 0 0 1 ++ frame 6 1 0 2))) 23 3
    ∷ (case (gauge_1 ++ (first-input ++ frame 5 1 1 32)) 9 2
    ∷ (case (frame 1 32 0 0 ++ frame 7 32 0 0) 9 0
    ∷ (case (first-input ++ (gauge_1 ++ (frame 5 0 1 1 ++ frame 1 1 0 0))) 23 2
    ∷ (case (gauge_1 ++ (frame 1 1 0 0 ++ frame 8 0 0 0)) 22 1
    ∷ (case (first-input ++ (gauge_1 ++ (frame 2 0 0 0 ++ frame 5 2 0 1))) 0 0
    ∷ (case (gauge_1 ++ (frame 1 1 0 0 ++ frame 0 0 0 0)) 22 1
    ∷ (case (first-input ++ (gauge_1 ++ frame 5 0 1 1)) 23 2
    ∷ [])))))))))))))))))))

-- the same where the form makes a difference
pub wide_cases : List Case
wide_cases =
    wide-case [] 2 0
    ∷ (wide-case (first-input ++ (0 ∷ 0 ∷ [])) 2 0
    ∷ (wide-case wide-input 0 0
    ∷ (wide-case (wide-frame 1 0 0 0 63 0 0) 0 0
    ∷ (wide-case (wide-frame 1 0 0 0 64 0 0) 9 0
    ∷ (wide-case (wide-frame 1 1 0 0 0 0 0) 9 0
    ∷ (wide-case (wide-frame 1 0 1 0 0 0 0) 7 0
    ∷ (wide-case (wide-input ++ wide-frame 2 1 0 0 0 0 0) 8 1
    ∷ (wide-case (wide-input ++ wide-frame 5 0 0 0 0 0 64) 0 0
    ∷ (wide-case (wide-input ++ wide-frame 5 0 0 0 0 1 64) 9 1
    ∷ (wide-case (wide-input ++ wide-frame 5 0 0 1 0 0 0) 9 1
    ∷ (wide-case (wide-input ++ (wide-frame 5 0 0 0 0 0 64 ++ wide-frame 6 0 0 0 1 63 1)) 10 2
    ∷ (wide-case (wide-frame 7 0 0 0 63 0 0) 0 0
    ∷ (wide-case (wide-frame 7 0 0 0 64 0 0) 9 0
    ∷ (wide-case (wide-frame 7 1 0 0 0 0 0) 9 0
    ∷ (wide-case (wide-frame 7 0 1 0 0 0 0) 7 0
    ∷ (wide-case (wide-frame 8 0 0 0 0 0 0) 6 0
    ∷ (wide-case (wide-frame 7 0 0 0 63 0 0 ++ wide-frame 1 0 0 0 63 0 0) 22 1
    ∷ (wide-case (wide-input ++ (wide-frame 5 0 0 0 0 0 64 ++ wide-frame 7 0 0 0 63 0 0)) 23 2
    ∷ []))))))))))))))))))

right : Case → Bool
right c = eqb (sheet_refusal c.sheet).number c.number && eqb (sheet_refusal c.sheet).place c.place

pub all : List Case → Bool
all [] = true
all (c ∷ cs) = right c && all cs

pub cases_right : (all cases ≡ true) × (all gauge_cases ≡ true) × (all wide_cases ≡ true)
unfolding first fields_at kind_of build tree formula_of free within some_below used spare_set names some_late bad_range bad_variables binds names_input names_gauge some_before meet named_both binds_gauge length_causes field_causes causes_below frame_causes all cases gauge_cases wide_cases right case wide-case frame wide-frame first-input gauge_1 wide-input
cases_right = (refl, refl, refl)

-- every frame of kind 07 counts, whether the last frame reaches it or not
gauges-right : (gauges (sheet_of Narrow (gauge_1 ++ first-input)) ≡ 2) × (gauges (sheet_of Wide (wide-frame 7 0 0 0 63 0 0 ++ wide-frame 7 0 0 0 0 0 0)) ≡ 9223372036854775809)
unfolding mask_of fields_at kind_of names_gauge some_before gauges frame wide-frame first-input gauge_1
gauges-right = (refl, refl)
