-- What a text reads to is exactly what the grammar says that it gives, its form too; and where an accepted text has a 0D. Assumes nothing.
use Prim.Native.Nat.{ℕ, zero, suc, ◌+◌, ◌-◌, ◌*◌, ◌/◌, ◌%◌, ◌≤◌, ◌<◌}
use Rattle.std.proofs.Common.{arith, sym, ◌∙◌, drop-drop}
use Rattle.std.specs.Prelude.{true, ◌&&◌, List, [], ◌∷◌, ◌↔◌, ◌≡◌, refl, eqb, leb, ltb, length, get_or, drop}
use Rattle.std.proofs.Math.Path.{ap, subst}
use borrow.Author.Tests.{lt-ltb, le-ltb, ltb-true, ltb-false}
use Rattle.words.specs.Logic.{tests}
use Rattle.words.proofs.Logic.{by_bool, and_both}
use Rattle.form.specs.Form.{form_of, frame_bytes, most_frames}
use Rattle.form.specs.declared.Form.{Form}
use Rattle.form.specs.declared.Form.TheVariants.{Wide}
use Rattle.text.specs.Hex.{digit_value, digit_byte, line_feed, carriage_return}
use Rattle.text.proofs.HexLaws.{value-decimal, value-capital, value-lower, value-below, value-before_capitals, value-before-lower, value-above}
use Rattle.text.specs.Line.{ending, digits, line_size, bytes, Lines, lines}
use Rattle.text.proofs.LineLaws.{digits_two, size_shape, bytes-length, count_most}
use Rattle.text.specs.Reading.{script_frames, script_frame_bytes, Reading, refused, begins_wide, text_form, other, sheet_fault, read_script, reading_in, reading}
use Rattle.text.proofs.ReadingLaws.{form_told}
use Rattle.text.specs.Grammar.{lower_byte, DigitOf, capital, lower, DigitsOf, no-digits, byte, EndOf, feed, return_feed, LineOf, LinesOf, no_lines_lem, line, NoLine, NoEnd, HasForm, begins-wide, else_narrow, Part, SheetPart, ScriptPart, Headed, GivesIn, reads, long-sheet, long-script, other-sheet, bad_sheet, bad_script, Gives, Paired}
use Rattle.text.proofs.RoundTrip.{digit_read, twice, end-some, line-some, wide-told, narrow-told, long-sheet-told, other-sheet-told, bad_sheet_told, long_script-told, bad_script_told, text_told}

-- ---- a digit that is read is one of the grammar

module _ (c : ℕ) where
  decimal_digit : 48 ≤ c → c ≤ 57 → DigitOf (digit_value c) c
  unfolding digit_byte
  decimal_digit h k =
      let e : digit_byte (c - 48) ≡ c = rw (lt-ltb (c - 48) 10 (omega arith)) (omega arith) in
      rw (value-decimal c h k) (subst (DigitOf (c - 48)) e capital)

  capital-digit : 65 ≤ c → c ≤ 70 → DigitOf (digit_value c) c
  unfolding digit_byte
  capital-digit h k =
      let e : digit_byte (c - 55) ≡ c = rw (le-ltb (c - 55) 10 (omega arith)) (omega arith) in
      rw (value-capital c h k) (subst (DigitOf (c - 55)) e capital)

  lower-digit : 97 ≤ c → c ≤ 102 → DigitOf (digit_value c) c
  unfolding lower_byte
  lower-digit h k =
      let e : lower_byte (c - 87) ≡ c = rw (le-ltb (c - 87) 10 (omega arith)) (omega arith) in
      rw (value-lower c h k) (subst (DigitOf (c - 87)) e lower)

  digit-found : digit_value c < 16 → DigitOf (digit_value c) c
  digit-found h =
      by_bool (ltb c 48) (λ t. absurd (omega (tests, value-below c (omega tests))))
      (λ a. by_bool (leb c 57) (λ t. decimal_digit (omega tests) (omega tests))
      (λ b. by_bool (ltb c 65) (λ t. absurd (omega (tests, value-before_capitals c (omega tests) (omega tests))))
      (λ d. by_bool (leb c 70) (λ t. capital-digit (omega tests) (omega tests))
      (λ e. by_bool (ltb c 97) (λ t. absurd (omega (tests, value-before-lower c (omega tests) (omega tests))))
      (λ f. by_bool (leb c 102) (λ t. lower-digit (omega tests) (omega tests))
      (λ g. absurd (omega (tests, value-above c (omega tests)))))))))

-- two digits are those of the byte that they give
pair_found : {high low : ℕ} {l text rest : List ℕ} → digit_value high < 16 → digit_value low < 16 → DigitsOf l text rest
    → DigitsOf ((digit_value high * 16 + digit_value low) ∷ l) (high ∷ low ∷ text) rest
pair_found {high} {low} h k t =
    let b = digit_value high * 16 + digit_value low in
    let e : digit_value high ≡ b / 16 = omega arith in
    let f : digit_value low ≡ b % 16 = omega arith in
    byte {b = b} (omega arith) (subst (λ (d : ℕ). DigitOf d high) e (digit-found high h)) (subst (λ (d : ℕ). DigitOf d low) f (digit-found low k)) t

none_found : digit_value 0 < 16 → ⊥
unfolding digit_value
none_found h = omega arith

digits-found : (n : ℕ) (l : List ℕ) → digits (2 * n) l ≡ true → DigitsOf (bytes n l) l (drop (2 * n) l)
unfolding bytes
digits-found zero l e = no-digits
digits-found (suc n) [] e = absurd (none_found (digits_two (2 * n) [] (rw (twice n) at e)).0.high)
digits-found (suc n) (a ∷ []) e = absurd (none_found (digits_two (2 * n) (a ∷ []) (rw (twice n) at e)).0.low)
digits-found (suc n) (a ∷ b ∷ l) e =
    let d = digits_two (2 * n) (a ∷ b ∷ l) (rw (twice n) at e) in
    rw (twice n) (pair_found d.0.high d.0.low (digits-found n l d.1))

-- ---- so is a line

feed-found : (b : ℕ) (l : List ℕ) → b ≡ line_feed → EndOf (b ∷ l) l
feed-found b l e = subst (λ (c : ℕ). EndOf (c ∷ l) l) (sym e) feed

return_found : (b c : ℕ) (l : List ℕ) → b ≡ carriage_return → c ≡ line_feed → EndOf (b ∷ c ∷ l) l
return_found b c l e f = subst (λ (x : ℕ). EndOf (x ∷ c ∷ l) l) (sym e) (subst (λ (x : ℕ). EndOf (carriage_return ∷ x ∷ l) l) (sym f) return_feed)

end-found : (l : List ℕ) → 0 < ending l → EndOf l (drop (ending l) l)
unfolding ending
end-found [] h = absurd (omega arith)
end-found (b ∷ []) h =
    by_bool (eqb b line_feed) (λ t. rw t (feed-found b [] (omega tests)))
    (λ f. by_bool (eqb b carriage_return) (λ t. let z : 0 < 0 = rw (f, t) at h in absurd (omega arith)) (λ g. let z : 0 < 0 = rw (f, g) at h in absurd (omega arith)))
end-found (b ∷ c ∷ l) h =
    by_bool (eqb b line_feed) (λ t. rw t (feed-found b (c ∷ l) (omega tests)))
    (λ f. by_bool (eqb b carriage_return && eqb c line_feed)
    (λ t. let k = and_both (eqb b carriage_return) (eqb c line_feed) t in
    let x = k.0 in
    let y = k.1 in
    rw (f, t) (return_found b c l (omega tests) (omega tests)))
    (λ g. let z : 0 < 0 = rw (f, g) at h in absurd (omega arith)))

line-found : (w : ℕ) (l : List ℕ) → 0 < line_size w l → LineOf w (bytes w l) l (drop (line_size w l) l)
line-found w l h =
    let s = size_shape w l h in
    let e : drop (ending (drop (2 * w) l)) (drop (2 * w) l) ≡ drop (line_size w l) l =
    drop-drop (ending (drop (2 * w) l)) (2 * w) l ∙ ap (λ (n : ℕ). drop n l) (sym s.1) in
    record {
      whole = bytes-length w l;
      end = drop (2 * w) l;
      digits = digits-found w l s.0;
      ended = subst (EndOf (drop (2 * w) l)) e (end-found (drop (2 * w) l) s.2);
    }

-- where none is read none stands, and where none stands none is read
module _ (w : ℕ) (l : List ℕ) where
  no_line : line_size w l ≡ 0 → NoLine w l
  no_line z frame rest p = omega (arith, line-some p)

  line-none : NoLine w l → line_size w l ≡ 0
  line-none h = by_bool (ltb 0 (line_size w l)) (λ t. absurd (h _ _ (line-found w l (ltb-true 0 (line_size w l) t)))) (λ f. omega tests)

module _ (l : List ℕ) where
  no_end : ending l ≡ 0 → NoEnd l
  no_end z rest p = omega (arith, end-some p)

  end_none : NoEnd l → ending l ≡ 0
  end_none h = by_bool (ltb 0 (ending l)) (λ t. absurd (h _ (end-found l (ltb-true 0 (ending l) t)))) (λ f. omega tests)

-- ---- and lines in a row

module _ (w : ℕ) where
  lines-found : (most : ℕ) (l : List ℕ) → LinesOf w (lines w most l).count (lines w most l).frames l (lines w most l).rest
  unfolding lines
  lines-found zero l = no_lines_lem
  lines-found (suc most) l =
      by_bool (ltb 0 (line_size w l))
      (λ t. rw t (line (line-found w l (ltb-true 0 (line_size w l) t)) (lines-found most (drop (line_size w l) l)))) (λ f. rw f no_lines_lem)

  lines_stopped : (most : ℕ) (l : List ℕ) → (lines w most l).count < most → line_size w (lines w most l).rest ≡ 0
  unfolding lines
  lines_stopped zero l h = absurd (omega arith)
  lines_stopped (suc most) l h =
      by_bool (ltb 0 (line_size w l))
      (λ t. let k : suc (lines w most (drop (line_size w l) l)).count < suc most = rw t at h in
      rw t (lines_stopped most (drop (line_size w l) l) (omega arith)))
      (λ f. rw f (omega tests))

  -- as many as were asked for, or fewer, with no line behind them
  module _ (most : ℕ) (l : List ℕ) where
    lines-all : most < (lines w (suc most) l).count → LinesOf w (suc most) (lines w (suc most) l).frames l (lines w (suc most) l).rest
    lines-all h =
        let e : (lines w (suc most) l).count ≡ suc most = omega (arith, count_most w (suc most) l) in
        subst (λ (n : ℕ). LinesOf w n (lines w (suc most) l).frames l (lines w (suc most) l).rest) e (lines-found (suc most) l)

    part-found : (lines w (suc most) l).count ≤ most → Part w most (lines w (suc most) l).frames l (lines w (suc most) l).rest
    part-found h = record { count = (lines w (suc most) l).count; lines = lines-found (suc most) l; few = h }

    none-behind : (lines w (suc most) l).count ≤ most → NoLine w (lines w (suc most) l).rest
    none-behind h = no_line w (lines w (suc most) l).rest (lines_stopped (suc most) l (omega arith))

-- ---- the form

form_found : (text : List ℕ) → HasForm text (text_form text)
unfolding begins_wide
form_found text =
    let w = frame_bytes Wide in
    by_bool (ltb 0 (line_size w text)) (λ t. rw t (begins-wide (line-found w text (ltb-true 0 (line_size w text) t)))) (λ f. rw f (else_narrow (no_line w text (omega tests))))

form_only : {text : List ℕ} {F : Form} → HasForm text F → text_form text ≡ F
form_only (begins-wide p) = ap form_of (wide-told (begins-wide p))
form_only {text} (else_narrow h) = ap form_of (narrow-told text (line-none (frame_bytes Wide) text h))

-- The form that is told is wide exactly if the text begins with an ended line of fourteen digits.
pub form_exactly : (text : List ℕ) (F : Form) → ((reading text).form ≡ F) ↔ HasForm text F
form_exactly text F = (λ e. subst (HasForm text) (sym (form_told text) ∙ e) (form_found text), λ p. form_told text ∙ form_only p)

-- ---- whole texts

nothing_left : (l : List ℕ) → length l ≤ 0 → l ≡ []
nothing_left [] h = refl
nothing_left (x ∷ l) h = absurd (omega arith)

module _ (F : Form) (text : List ℕ) where
  script_given : HasForm text F → (sheet : Lines) (behind : List ℕ) → Headed F sheet.frames text behind → GivesIn F text (read_script F sheet (lines script_frame_bytes (suc script_frames) behind))
  script_given form sheet behind head =
      let script = lines script_frame_bytes (suc script_frames) behind in
      by_bool (ltb script_frames script.count) (λ t. rw t (long-script head (lines-all script_frame_bytes script_frames behind (ltb-true _ _ t))))
      (λ f. let few : script.count ≤ script_frames = ltb-false _ _ f in
      let part = part-found script_frame_bytes script_frames behind few in
      by_bool (ltb 0 (length script.rest))
      (λ t. rw (f, t) (bad_script head part (none-behind script_frame_bytes script_frames behind few) (ltb-true 0 _ t)))
      (λ g. let end = nothing_left script.rest (ltb-false 0 _ g) in
      rw (f, g) (reads (record { form = form; behind = behind; head = head; part = subst (ScriptPart script.frames behind) end part }))))

  -- behind the sheet's lines neither one more nor the empty line
  fault_given : {sheet rest : List ℕ} → SheetPart F sheet text rest → NoLine (frame_bytes F) rest → ending rest ≡ 0 → GivesIn F text (refused F (sheet_fault F rest))
  unfolding sheet_fault
  fault_given {rest = rest} part none z =
      let w = frame_bytes (other F) in
      by_bool (ltb 0 (line_size w rest)) (λ t. rw t (other-sheet part (line-found w rest (ltb-true 0 (line_size w rest) t))))
      (λ f. rw f (bad_sheet part none (no_line w rest (omega tests)) (no_end rest z)))

  given_in : HasForm text F → GivesIn F text (reading_in F text)
  unfolding reading_in
  given_in form =
      let most = most_frames F in
      let sheet = lines (frame_bytes F) (suc most) text in
      let rest = sheet.rest in
      by_bool (ltb most sheet.count) (λ t. rw t (long-sheet (lines-all (frame_bytes F) most text (ltb-true _ _ t))))
      (λ f. let few : sheet.count ≤ most = ltb-false _ _ f in
      let part = part-found (frame_bytes F) most text few in
      by_bool (eqb (ending rest) 0)
      (λ t. rw (f, t) (fault_given part (none-behind (frame_bytes F) most text few) (omega tests)))
      (λ g. rw (f, g) (script_given form sheet (drop (ending rest) rest) (record { behind = rest; part = part; empty_line = end-found rest (omega tests) }))))

  in_only : {r : Reading} → GivesIn F text r → reading_in F text ≡ r
  in_only (reads t) = text_told t
  in_only (long-sheet p) = long-sheet-told p (omega arith)
  in_only (long-script p q) = long_script-told p q (omega arith)
  in_only (other-sheet p q) = other-sheet-told p q
  in_only (bad_sheet {rest = rest} p h o k) = bad_sheet_told p (line-none (frame_bytes F) rest h) (line-none (frame_bytes (other F)) rest o) (end_none rest k)
  in_only (bad_script {rest = rest} p q h k) = bad_script_told p q (line-none script_frame_bytes rest h) k

module _ (text : List ℕ) where
  given : Gives text (reading text)
  unfolding reading
  given = record {
    form = subst (HasForm text) (sym (form_told text)) (form_found text);
    told = subst (λ (F : Form). GivesIn F text (reading text)) (sym (form_told text)) (given_in (text_form text) text (form_found text));
  }

  given-only : {r : Reading} → Gives text r → reading text ≡ r
  unfolding reading
  given-only {r} p = ap (λ (F : Form). reading_in F text) (form_only p.form) ∙ in_only r.form text p.told

  -- A text reads to just what the grammar says that it gives.
  pub told_exactly : (r : Reading) → (reading text ≡ r) ↔ Gives text r
  told_exactly r = (λ e. subst (Gives text) e given, given-only)

-- ---- where a 0D stands

no_byte : Paired []
no_byte = record { feed-behind = λ i e. absurd (omega arith) }

other_byte : {b : ℕ} {l : List ℕ} → (b ≡ carriage_return → ⊥) → Paired l → Paired (b ∷ l)
other_byte {b} {l} h p = record { feed-behind = at }
  where
    at : (i : ℕ) → get_or (b ∷ l) i 0 ≡ carriage_return → get_or (b ∷ l) (suc i) 0 ≡ line_feed
    at zero e = absurd (h e)
    at (suc i) e = p.feed-behind i e

end-paired : {text rest : List ℕ} → EndOf text rest → Paired rest → Paired text
end-paired feed p = other_byte (λ e. omega arith) p
end-paired {rest = rest} return_feed p = record { feed-behind = at }
  where
    at : (i : ℕ) → get_or (carriage_return ∷ line_feed ∷ rest) i 0 ≡ carriage_return → get_or (carriage_return ∷ line_feed ∷ rest) (suc i) 0 ≡ line_feed
    at zero e = refl
    at (suc i) e = (other_byte {b = line_feed} (λ z. omega arith) p).feed-behind i e

digit-other : {d c : ℕ} → DigitOf d c → d < 16 → c ≡ carriage_return → ⊥
digit-other {c = c} p h e = omega (arith, digit_read p h, value-below c (omega arith))

digits-paired : {l text rest : List ℕ} → DigitsOf l text rest → Paired rest → Paired text
digits-paired no-digits p = p
digits-paired (byte s h k t) p = other_byte (digit-other h (omega arith)) (other_byte (digit-other k (omega arith)) (digits-paired t p))

lines_paired : {w n : ℕ} {l text rest : List ℕ} → LinesOf w n l text rest → Paired rest → Paired text
lines_paired no_lines_lem p = p
lines_paired (line t q) p = digits-paired t.digits (end-paired t.ended (lines_paired q p))

gives-paired : {F : Form} {text : List ℕ} {r : Reading} → GivesIn F text r → r.refusal ≡ 0 → Paired text
gives-paired (reads t) e =
    lines_paired t.head.part.lines (end-paired t.head.empty_line (lines_paired t.part.lines no_byte))
gives-paired (long-sheet p) e = absurd (omega arith)
gives-paired (long-script p q) e = absurd (omega arith)
gives-paired (other-sheet p q) e = absurd (omega arith)
gives-paired (bad_sheet p h o k) e = absurd (omega arith)
gives-paired (bad_script p q h k) e = absurd (omega arith)

-- A text that is accepted has a 0D only where a 0A stands right behind it.
pub accepted-paired : (text : List ℕ) → (reading text).refusal ≡ 0 → Paired text
accepted-paired text e = gives-paired (given text).told e
