-- Two scripts that differ in the desks of their ENTER lines alone: the same variables and values stand after each line, and the answers are the same but
-- for the desks that are told. Assumes nothing.
use Prim.Native.Nat.{ℕ, ◌-◌, ◌/◌, ◌%◌, ◌^◌, ◌≤◌}
use Rattle.std.specs.Prelude.{◌≡◌, Bool, false, ◌&&◌, ◌||◌, List, map, get_or}
use Rattle.std.proofs.Math.Bool.{true}
use Rattle.std.proofs.Math.ListN.{length}
use Rattle.std.proofs.Math.Dec.{eqb}
use Rattle.model.specs.declared.Entry.{Entry}
use Rattle.model.specs.Model.{Answer, ENTER, TAKE-BACK, READ, last_desk}
use Rattle.form.specs.declared.Form.{Form}
use Rattle.form.specs.declared.Form.TheVariants.{Narrow, Wide}

-- ---- the definitions

-- byte i of a script is the C byte of an ENTER line: the desk that enters
unfoldable pub is_desk : List ℕ → ℕ → Bool
is_desk s i = eqb (i % 4) 3 && eqb (get_or s (i - 3) 0) ENTER

-- the same bytes but for the desks, and those are at most 7 in both
pub record DesksAlone (a b : List ℕ) : Type 0 where
  pub long : length a ≡ length b
  pub beside : (i : ℕ) → is_desk a i ≡ false → get_or a i 0 ≡ get_or b i 0
  pub desks : (i : ℕ) → is_desk a i ≡ true → (get_or a i 0 ≤ last_desk) × (get_or b i 0 ≤ last_desk)

-- an entry as desk 0 would have made it, which leaves its variable and its value
abbrev pub without_desk : Entry → Entry
without_desk e = record { variable = e.variable; value = e.value; desk = 0 }

-- the variables and values that stand, in their order
abbrev pub without_desks : List Entry → List Entry
without_desks es = map without_desk es

-- kinds that tell an entry
abbrev pub tells_entry : ℕ → Bool
tells_entry k = eqb k TAKE-BACK || eqb k READ

-- two answers to a line of kind k that differ at most in the desk told
pub record SameButDesk (k : ℕ) (x y : Answer) : Type 0 where
  pub number : x.number ≡ y.number
  pub v : x.v ≡ y.v
  -- the whole word, where no entry is told
  pub word : tells_entry k ≡ false → x.word ≡ y.word
  -- and always the bits that tell no desk, those below 8 and from 16 on
  pub low : x.word % 256 ≡ y.word % 256
  pub high : x.word / 2 ^ 16 ≡ y.word / 2 ^ 16

-- the byte of an answer that tells a desk: the last but one
abbrev pub desk_byte : Form → ℕ
desk_byte Narrow = 4
desk_byte Wide = 8
