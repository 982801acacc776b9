-- From what reading and writing give to what is printed: the laws that the program goes by. Assumes nothing.
use Rattle.std.specs.Prelude.{Result, ℕ, ◌*◌, ◌≤◌, ◌<◌, List, ◌++◌, ◌≡◌, length, take, drop}
use Rattle.std.proofs.Math.Nat.{min-eq_left}
use Rattle.std.proofs.Common.{arith, sym, ◌∙◌, length-append, take_at, length-take-le, eq-eqb, ne_eqb, le-ltb}
use Rattle.std.proofs.Math.Path.{refl, ap, ap₂}
use Rattle.words.proofs.Logic.{by_bool}
use Rattle.form.specs.Form as Sizes
use Rattle.form.specs.Form.{frame_bytes, frame_start}
use Rattle.form.specs.declared.Form.{Form}
use Rattle.form.specs.declared.Form.TheVariants.{Narrow, Wide}
use Rattle.sheet.specs.Cause.{Refusal, first, some_holds}
use Rattle.sheet.proofs.Cause.{first_earlier, first-later, none_first, first-none}
use Rattle.sheet.specs.Fields.{Sheet, sheet_of, frames, most_frames}
use Rattle.sheet.specs.Rules.{sheet_causes, sheet_refusal}
use Rattle.sheet.proofs.RuleLaws.{sheet_numbered}
use Rattle.sheet.specs.Keeps.{Keeps}
use Rattle.sheet.proofs.AcceptedLaws.{none-keeps}
use Rattle.sheet.proofs.Places.{sheet_small}
use Rattle.text.specs.declared.Parsed.{Parsed}
use Rattle.text.specs.declared.Unread.{Unread}
use Rattle.text.specs.Hex.{hex_line, hex_lines}
use Rattle.text.specs.Reading.{sheet_room, script_room, Reading, reading, read_into, written_over, form_told, refusal_told, sheet_told, Read}
use Rattle.text.proofs.ReadingLaws.{enough-room}
use Rattle.text.specs.Answer.{line_bytes, answer_lines, with_room, Wrote, WroteFrames, WroteLines}
use Rattle.text.proofs.LineStores.{lines-length}
use Rattle.normal.specs.Normal.{normal_bytes, normal, write_causes, refusal, Writes}
use Rattle.normal.proofs.Certificate.{normal-keeps}
use Rattle.to_normal.specs.Printed.{refusal_bytes, refusal_line, printed_sheet, printed, Begins}
use Rattle.to_normal.specs.PrintedLaws.{normal_room}

-- ---- a part of a buffer

begins : (x behind : List ℕ) {buffer : List ℕ} {n : ℕ} → buffer ≡ x ++ behind → n ≡ length x → Begins x buffer n
begins x behind {buffer} {n} e h =
    let f : n ≤ length buffer = rw (e, length-append) (omega arith) in
    record { count = h; bytes = ap (take n) e ∙ take_at x behind n (sym h); fits = f; counted = sym (length-take-le n buffer f) }

-- the lines of n records of w bytes, all of which have room
lines_begin : (w n : ℕ) (records out : List ℕ) {out' : List ℕ} {r : ℕ} → with_room w records out ≡ n → n * w ≤ length records → WroteLines w records out r out' → Begins (hex_lines w n records) out' r
lines_begin w n records out e h g =
    begins (hex_lines w n records) (drop (length (hex_lines w n records)) out)
    (g.bytes ∙ ap (λ (k : ℕ). written_over (hex_lines w k records) out) e)
    (g.count ∙ ap (λ (k : ℕ). k * line_bytes w) e ∙ sym (lines-length w n records h))

-- equal bytes are printed alike
pub begins-same : {x y buffer : List ℕ} {n : ℕ} → x ≡ y → Begins x buffer n → Begins y buffer n
begins-same e b = rw e at b

-- ---- a refusal

-- its bytes are as many as an answer's, and its line is theirs
refusal-line : (F : Form) (number place : ℕ) → answer_lines F 1 (refusal_bytes F number place) ≡ refusal_line F number place
unfolding refusal_line hex_line hex_lines
refusal-line Narrow number place = refl
refusal-line Wide number place = refl

pub refusal-begins : (F : Form) (number place : ℕ) (out : List ℕ) {out' : List ℕ} {r : ℕ} → 45000 ≤ length out → Wrote F (refusal_bytes F number place) out r out' → Begins (refusal_line F number place) out' r
refusal-begins Narrow number place out h g =
    begins-same (refusal-line Narrow number place) (lines_begin 6 1 (refusal_bytes Narrow number place) out (min-eq_left (omega arith)) (omega arith) g)
refusal-begins Wide number place out h g =
    begins-same (refusal-line Wide number place) (lines_begin 10 1 (refusal_bytes Wide number place) out (min-eq_left (omega arith)) (omega arith) g)

start-room : (F : Form) (n : ℕ) → n ≤ Sizes.most_frames F → frame_start F n ≤ normal_room F
start-room Narrow n h = omega arith
start-room Wide n h = omega arith

module _ (s : Sheet) where
  -- no longer than the longest sheet
  normal-fits : Keeps s → length (normal_bytes s) ≤ normal_room s.form
  normal-fits k =
      let n = normal-keeps s k in
      omega (arith, n.whole, start-room s.form (frames (normal s)) n.most)

  -- with room for it only the sheet's own causes are told
  own-refusal : (bytes : ℕ) → normal_room s.form ≤ bytes → refusal s bytes ≡ sheet_refusal s
  unfolding write_causes first
  own-refusal bytes h = by_bool (some_holds (sheet_causes s))
      (λ e. first_earlier (sheet_causes s) _ e)
      (λ e. first-later (sheet_causes s) _ e
      ∙ rw (le-ltb bytes (length (normal_bytes s)) (omega (arith, normal-fits (none-keeps s e))))
      (sym (none_first (sheet_causes s) e)))

-- ---- a sheet

-- every line of n frames has room
frames_begin : (F : Form) (n : ℕ) (bytes out : List ℕ) {out' : List ℕ} {r : ℕ} → n ≡ Sizes.frames F (length bytes) → frame_start F n ≡ length bytes → n ≤ Sizes.most_frames F
    → 45000 ≤ length out → WroteFrames F bytes out r out' → Begins (hex_lines (frame_bytes F) n bytes) out' r
frames_begin Narrow n bytes out e w m h g = lines_begin 4 n bytes out (min-eq_left (omega arith) ∙ sym e) (omega arith) g
frames_begin Wide n bytes out e w m h g = lines_begin 7 n bytes out (min-eq_left (omega arith) ∙ sym e) (omega arith) g

module _ {s : Sheet} {buffer buffer' : List ℕ} {number place size : ℕ} (g : Writes s buffer buffer' number place size) (room : normal_room s.form ≤ length buffer) where
  number_is : number ≡ (sheet_refusal s).number
  number_is = g.number_is ∙ ap (λ (r : Refusal). r.number) (own-refusal s (length buffer) room)

  place_is : place ≡ (sheet_refusal s).place
  place_is = g.place_is ∙ ap (λ (r : Refusal). r.place) (own-refusal s (length buffer) room)

  -- a place is a frame's number
  pub place-fits : place < most_frames s
  place-fits = omega (arith, place_is, (sheet_small s).place)

  pub sheet-refused : (number ≡ 0 → ⊥) → refusal_line s.form number place ≡ printed_sheet s
  unfolding printed_sheet
  sheet-refused h =
      ap₂ (refusal_line s.form) number_is place_is
      ∙ rw (ne_eqb (sheet_refusal s).number 0 (λ z. h (number_is ∙ z)))

  module _ (accepted : number ≡ 0) where
    pub normal-begins : Begins (normal_bytes s) buffer' size
    normal-begins = begins (normal_bytes s) (drop size buffer) (g.written accepted).1 (g.written accepted).0

    keeps : Keeps s
    keeps = none-keeps s (first-none (sheet_causes s) (sheet_numbered s) (sym number_is ∙ accepted))

    pub sheet-printed : (out : List ℕ) {out' : List ℕ} {r : ℕ} → 45000 ≤ length out → WroteFrames s.form (take size buffer') out r out' → Begins (printed_sheet s) out' r
    unfolding printed_sheet
    sheet-printed out {out'} {r} h w =
        let n = normal-keeps s keeps in
        let v : WroteFrames s.form (normal_bytes s) out r out' = rw normal-begins.bytes at w in
        rw (eq-eqb (sheet_refusal s).number 0 (sym number_is ∙ accepted))
        (frames_begin s.form (frames (normal s)) (normal_bytes s) out refl n.whole n.most h v)

-- ---- a text

module _ {text sheet script sheet' script' : List ℕ} {r : Result Parsed Unread} (g : Read text sheet script r sheet' script')
    (a : sheet_room ≤ length sheet) (b : script_room ≤ length script) where
  reads : read_into (length sheet) (length script) text ≡ reading text
  reads = enough-room (length sheet) (length script) text a b

  form-is : form_told r ≡ (reading text).form
  form-is = g.form ∙ ap (λ (k : Reading). k.form) reads

  refusal_is : refusal_told r ≡ (reading text).refusal
  refusal_is = g.refusal ∙ ap (λ (k : Reading). k.refusal) reads

  pub sheet-begins : Begins (reading text).sheet sheet' (sheet_told r)
  sheet-begins =
      let e = ap (λ (k : Reading). k.sheet) reads in
      begins (reading text).sheet (drop (length (reading text).sheet) sheet) (g.sheet-bytes ∙ ap (λ (x : List ℕ). written_over x sheet) e) (g.sheet-length ∙ ap length e)

  pub text_refused : (refusal_told r ≡ 0 → ⊥) → refusal_line (form_told r) (refusal_told r) 0 ≡ printed text
  unfolding printed
  text_refused h =
      ap₂ (λ (F : Form) (n : ℕ). refusal_line F n 0) form-is refusal_is
      ∙ rw (ne_eqb (reading text).refusal 0 (λ z. h (refusal_is ∙ z)))

  pub text_read : refusal_told r ≡ 0 → printed_sheet (sheet_of (form_told r) (take (sheet_told r) sheet')) ≡ printed text
  unfolding printed
  text_read h =
      ap printed_sheet (ap₂ sheet_of form-is sheet-begins.bytes)
      ∙ rw (eq-eqb (reading text).refusal 0 (sym refusal_is ∙ h))
