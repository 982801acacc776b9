-- The twelve starred panel cases of document 01 and worked cases with gauges, all on narrow sheets, as two tables, and what the definitions say of a case.
-- PanelHolds.antt: they say what is expected. Assumes nothing.
use Rattle.std.specs.Prelude.{ℕ, cond, eqb}
use mathlib.Core.List.{List, [], ◌∷◌, flat_map}
use Rattle.words.specs.Bytes.{bytes_of}
use Rattle.formula.specs.Formula.{Formula}
use Rattle.sheet.specs.Cause.{Refusal}
use Rattle.form.specs.Form.{variables, answer_start, answer_bytes}
use Rattle.form.specs.declared.Form.TheVariants.{Narrow}
use Rattle.sheet.specs.Fields.{Sheet, narrow}
use Rattle.sheet.specs.Rules.{gauges}
use Rattle.solver.specs.Contract.{root}
use Rattle.model.specs.Model.{Meaning, meaning, lines, answers}
use Rattle.certificate.specs.Run.{refusal}

-- ---- bytes as document 01 writes them

-- numbers in a row, of k bytes each
abbrev pub bytes_of_all : ℕ → List ℕ → List ℕ
bytes_of_all k xs = flat_map (bytes_of k) xs

-- ---- the table

-- what a run with just enough room tells, and what it writes
pub record Outcome : Type 0 where
  pub refusal : Refusal
  pub answers : List ℕ

-- a sheet and a script, a frame to a number, and what is expected
pub record Case : Type 0 where
  pub sheet : List ℕ
  pub script : List ℕ
  pub expected : Outcome

-- the answers that are printed, a line to a number
abbrev pub prints : List ℕ → Outcome
prints xs = record { refusal = record { number = 0; place = 0 }; answers = bytes_of_all (answer_bytes Narrow) xs }

abbrev pub refuses : ℕ → ℕ → Outcome
refuses n k = record { refusal = record { number = n; place = k }; answers = [] }

-- sheet L with the frame 7 given
abbrev pub sheet_l : ℕ → List ℕ
sheet_l seven =
    0x01000000 ∷ 0x01020000 ∷ 0x03000100 ∷ 0x02000000 ∷ 0x02010000 ∷ 0x03030400 ∷ 0x04020500 ∷ seven ∷ 0x01010000 ∷ 0x03070800 ∷ []

abbrev pub script_l : List ℕ
script_l = 0x13000000 ∷ 0x14000000 ∷ 0x10010000 ∷ 0x13000000 ∷ 0x14000000 ∷ 0x11000000 ∷ 0x12000000 ∷ 0x10020100 ∷ []

abbrev pub printed_l : List ℕ
printed_l =
    0x000100000002 ∷ 0x000100000002 ∷ 0x000100000000 ∷ 0x000000000000 ∷ 0x000000000002 ∷ 0x000100000000 ∷ 0x110000000000 ∷ 0x0D0000000000 ∷ []

abbrev pub ask_only : List ℕ
ask_only = 0x13000000 ∷ []

abbrev pub ask_why : List ℕ
ask_why = 0x13000000 ∷ 0x14000000 ∷ []

abbrev pub case : List ℕ → List ℕ → Outcome → Case
case sheet script expected = record { sheet = sheet; script = script; expected = expected }

-- Twelve starred cases: the first row has four of them (its lines 1, 2, 4 and 5), rows 5 and 6 are one, and rows 8 to 10 are one.
unfoldable pub panel : List Case
panel =
    case (sheet_l 0x05060201) script_l (prints printed_l)
    ∷ case (sheet_l 0x06060201) ask_only (prints (0x000000000000 ∷ []))
    ∷ case (0x00000000 ∷ []) ask_why (prints (0x000000000000 ∷ 0x000000000000 ∷ []))
    ∷ case (0x00000000 ∷ 0x02000000 ∷ []) ask_why (prints (0x000100000000 ∷ 0x000100000000 ∷ []))
    ∷ case (0x011F0000 ∷ []) ask_only (prints (0x000180000000 ∷ []))
    ∷ case (0x01200000 ∷ []) ask_only (refuses 9 0)
    ∷ case (0x02000000 ∷ []) ask_only (refuses 8 0)
    ∷ case (0x01000000 ∷ 0x05000020 ∷ []) ask_only (prints (0x000100000000 ∷ []))
    ∷ case (0x01000000 ∷ 0x05000120 ∷ []) ask_only (refuses 9 1)
    ∷ case (0x01000000 ∷ 0x05000000 ∷ []) ask_only (refuses 9 1)
    ∷ case (0x01000000 ∷ 0x05000001 ∷ 0x03000100 ∷ []) ask_only (refuses 11 2)
    ∷ case (0x01000000 ∷ 0x05000001 ∷ 0x06000001 ∷ []) ask_only (refuses 10 2)
    ∷ []

-- ---- gauges

-- a gauge alone, then entered as 1 and as 0, each time with ASK and WHY
abbrev pub both_ways : List ℕ
both_ways =
    0x13000000 ∷ 0x14000000 ∷ 0x10050100 ∷ 0x13000000 ∷ 0x14000000 ∷ 0x11000000 ∷ 0x10050000 ∷ 0x13000000 ∷ 0x14000000 ∷ []

-- ASK and WHY with nothing entered, with gauge 0 entered as 1, and then with gauge 1 as 0
abbrev pub one_by_one : List ℕ
one_by_one = 0x13000000 ∷ 0x14000000 ∷ 0x10000100 ∷ 0x13000000 ∷ 0x14000000 ∷ 0x10010000 ∷ 0x13000000 ∷ 0x14000000 ∷ []

unfoldable pub gauged : List Case
gauged =
    -- gauge 5: no at 0; entered it decides, and is the reason
    case (0x07050000 ∷ []) both_ways (prints (
    0x000000000000 ∷ 0x000000000000 ∷ 0x000100000000 ∷ 0x000100000020 ∷ 0x000100000020 ∷ 0x000500000001
    ∷ 0x000100000000 ∷ 0x000000000000 ∷ 0x000000000020 ∷ []))
    -- not both gauges, 0 and 1: no where both are 1; with gauge 0 entered as 1 no where gauge 1 is; yes with gauge 1 entered as 0, which alone is the reason
    ∷ case (0x07000000 ∷ 0x07010000 ∷ 0x03000100 ∷ 0x02020000 ∷ []) one_by_one (prints (
    0x000000000003 ∷ 0x000000000000 ∷ 0x000100000000 ∷ 0x000000000002 ∷ 0x000000000001 ∷ 0x000200000000
    ∷ 0x000100000001 ∷ 0x000100000002 ∷ []))
    -- both gauges, or the gate 2: yes, with the gauges at 0 and the gate set
    ∷ case (0x07000000 ∷ 0x07010000 ∷ 0x03000100 ∷ 0x01020000 ∷ 0x04020300 ∷ []) ask_only (prints (0x000100000004 ∷ []))
    -- a gauge that the last frame does not reach: ASK chooses as without it, and WHY starts from the entered variables, of which there are none
    ∷ case (0x07050000 ∷ 0x01000000 ∷ []) ask_why (prints (0x000100000001 ∷ 0x000100000000 ∷ []))
    -- kind 08; a variable that is a gauge and an INPUT; a gauge that is bound
    ∷ case (0x08000000 ∷ []) ask_only (refuses 6 0)
    ∷ case (0x07000000 ∷ 0x01000000 ∷ []) ask_only (refuses 22 1)
    ∷ case (0x07000000 ∷ 0x05000001 ∷ []) ask_only (refuses 23 1)
    ∷ []

-- ---- what the definitions say of a case

-- with the meaning m of a formula and a word of gauges
unfoldable pub outcome_by : (Formula → ℕ → Meaning) → Sheet → List ℕ → Outcome
outcome_by m sheet script =
    let r = refusal sheet script (answer_start sheet.form (lines script)) in
    let written = answers sheet.form (m (root sheet) (gauges sheet)) script in
    record { refusal = r; answers = cond (eqb r.number 0) written [] }

unfoldable pub outcome : Case → Outcome
outcome c = outcome_by (meaning (variables Narrow)) (narrow (bytes_of_all 4 c.sheet)) (bytes_of_all 4 c.script)
