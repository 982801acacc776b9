-- A text of the grammar reads to what it is a text of: digits in either case, lines with either ending, and each fault in its order. Assumes nothing.
use Prim.Native.Nat.{ℕ, zero, suc, ◌+◌, ◌*◌, ◌/◌, ◌%◌, ◌≤◌, ◌<◌}
use Rattle.std.proofs.Common.{arith, suc-mul, sym, ap₂, ◌∙◌, take-append-drop, length-take, length-drop, get_or-take, get_or-drop, drop-drop, length-take-le}
use Rattle.std.proofs.Math.Nat.{zero-mul, min-le_left}
use Rattle.std.specs.Prelude.{true, false, cond, ◌≡◌, refl, ltb, length, get_or, take}
use mathlib.Core.List.{List, [], ◌∷◌, ◌++◌, append_assoc, append-nil}
use Rattle.std.proofs.Math.Path.{ap, subst}
use Rattle.std.proofs.Math.ListN.{drop, get_or-eq_default}
use borrow.Author.Tests.{lt-ltb, le-ltb, ltb-true, ltb-false, ne_eqb}
use Rattle.words.proofs.Logic.{by_bool}
use Rattle.form.specs.Form.{form_of, frame_bytes, most_frames}
use Rattle.form.specs.declared.Form.{Form}
use Rattle.form.specs.declared.Form.TheVariants.{Narrow, Wide}
use Rattle.text.specs.Hex.{digit_value, digit_byte, line_feed, hex_line, hex_lines}
use Rattle.text.proofs.HexLaws.{value-decimal, value-capital, value-lower}
use Rattle.text.specs.Line.{ending, digits, line_size, bytes, Lines, lines}
use Rattle.text.proofs.LineLaws.{size-line, size-no_empty, lines_none, lines_stop, lines_more}
use Rattle.text.specs.Reading.{script_frames, script_frame_bytes, malformed, long_sheet, long_script, other_form, refused, begins_wide, text_form, other, sheet_fault, read_sheet, read_script, reading_in, reading}
use Rattle.text.proofs.ReadingLaws.{some_bytes, one_form, fault_other, fault_shape}
use Rattle.text.specs.Grammar.{lower_byte, DigitOf, capital, lower, DigitsOf, no-digits, byte, EndOf, feed, return_feed, LineOf, LinesOf, no_lines_lem, line, HasForm, begins-wide, else_narrow, SheetPart, ScriptPart, Headed, TextOf}
use Rattle.text.specs.RoundTrip.{Frames, written_text}

-- ---- a digit, a byte

-- by where the letters stand
value_back : (letters d : ℕ) → (10 ≤ d → digit_value (d + letters) ≡ d) → digit_value (cond (ltb d 10) (d + 48) (d + letters)) ≡ d
value_back letters d h =
    by_bool (ltb d 10)
    (λ t. let l : d < 10 = ltb-true d 10 t in rw t (value-decimal (d + 48) (omega arith) (omega arith) ∙ omega arith))
    (λ f. rw f (h (ltb-false d 10 f)))

pub digit_read : {d c : ℕ} → DigitOf d c → d < 16 → digit_value c ≡ d
unfolding digit_byte lower_byte
digit_read {d} capital h = value_back _ d (λ k. value-capital _ (omega arith) (omega arith) ∙ omega arith)
digit_read {d} lower h = value_back _ d (λ k. value-lower _ (omega arith) (omega arith) ∙ omega arith)

module _ {b high low : ℕ} (s : b < 256) (h : DigitOf (b / 16) high) (l : DigitOf (b % 16) low) where
  high_read : digit_value high ≡ b / 16
  high_read = digit_read h (omega arith)

  low_read : digit_value low ≡ b % 16
  low_read = digit_read l (omega arith)

-- ---- the digits of bytes

pub twice : (n : ℕ) → 2 * suc n ≡ suc (suc (2 * n))
twice n = omega arith

digits_read : {l text rest : List ℕ} → DigitsOf l text rest → digits (2 * length l) text ≡ true
unfolding digits
digits_read no-digits = refl
digits_read (byte {b} {bytes = l} s h k t) =
    rw (twice (length l), high_read s h k, low_read s h k, lt-ltb (b / 16) 16 (omega arith), lt-ltb (b % 16) 16 (omega arith)) (digits_read t)

bytes_read : {l text rest : List ℕ} → DigitsOf l text rest → bytes (length l) text ≡ l
unfolding bytes
bytes_read no-digits = refl
bytes_read (byte s h k t) = ap₂ ◌∷◌ (rw (high_read s h k, low_read s h k) (omega arith)) (bytes_read t)

digits-end : {l text rest : List ℕ} → DigitsOf l text rest → drop (2 * length l) text ≡ rest
digits-end no-digits = refl
digits-end (byte {bytes = l} s h k t) = rw (twice (length l)) (digits-end t)

-- ---- a line

pub end-some : {text rest : List ℕ} → EndOf text rest → 0 < ending text
unfolding ending
end-some feed = omega arith
end-some return_feed = omega arith

end_rest : {text rest : List ℕ} → EndOf text rest → drop (ending text) text ≡ rest
unfolding ending
end_rest feed = refl
end_rest return_feed = refl

module _ {w : ℕ} {frame text rest : List ℕ} (p : LineOf w frame text rest) where
  behind-digits : drop (2 * w) text ≡ p.end
  behind-digits = rw p.whole at (digits-end p.digits)

  size_read : line_size w text ≡ 2 * w + ending p.end
  size_read =
      let d : digits (2 * w) text ≡ true = rw p.whole at (digits_read p.digits) in
      size-line w text d (ending p.end) (ap ending (sym behind-digits)) (end-some p.ended)

  pub line-some : 0 < line_size w text
  line-some = omega (arith, size_read, end-some p.ended)

  line-rest : drop (line_size w text) text ≡ rest
  line-rest =
      ap (λ (n : ℕ). drop n text) size_read
      ∙ sym (drop-drop (ending p.end) (2 * w) text)
      ∙ ap (drop (ending p.end)) behind-digits
      ∙ end_rest p.ended

  line-bytes : bytes w text ≡ frame
  line-bytes = rw p.whole at (bytes_read p.digits)

  line-then : (most : ℕ) → lines w (suc most) text ≡ record { count = suc (lines w most rest).count; frames = frame ++ (lines w most rest).frames; rest = (lines w most rest).rest }
  line-then most = lines_more w most text line-some ∙ rw (line-rest, line-bytes)

-- the empty line is no frame's line
end-no-line : {text rest : List ℕ} → EndOf text rest → (F : Form) → line_size (frame_bytes F) text ≡ 0
end-no-line {text} p F =
    by_bool (ltb 0 (line_size (frame_bytes F) text))
    (λ t. absurd (omega (arith, end-some p, size-no_empty (frame_bytes F) text (some_bytes F) (ltb-true 0 _ t)))) (λ f. omega (arith, ltb-false 0 (line_size (frame_bytes F) text) f))

-- nor is a line of the other form
other-no-line : {frame text rest : List ℕ} (F : Form) → LineOf (frame_bytes (other F)) frame text rest → line_size (frame_bytes F) text ≡ 0
other-no-line {text = text} F p =
    by_bool (ltb 0 (line_size (frame_bytes F) text))
    (λ t. absurd (one_form F text (ltb-true 0 _ t) (line-some p))) (λ f. omega (arith, ltb-false 0 (line_size (frame_bytes F) text) f))

-- ---- lines in a row

-- the lines are read, and what stands behind them is left, if it is no line
lines_read : {w n : ℕ} {l text rest : List ℕ} → LinesOf w n l text rest → (most : ℕ) → n ≤ most → line_size w rest ≡ 0
    → lines w most text ≡ record { count = n; frames = l; rest = rest }
lines_read {w} {rest = rest} no_lines_lem zero h z = lines_none w rest
lines_read {w} {rest = rest} no_lines_lem (suc most) h z = lines_stop w most rest z
lines_read (line p q) zero h z = absurd (omega arith)
lines_read (line p q) (suc most) h z = line-then p most ∙ rw (lines_read q most (omega arith) z)

-- of more lines than were asked for, as many are counted as were
lines-over : {w n : ℕ} {l text rest : List ℕ} → LinesOf w n l text rest → (most : ℕ) → most ≤ n → (lines w most text).count ≡ most
lines-over {w} {text = text} no_lines_lem zero h = ap (λ (k : Lines). k.count) (lines_none w text)
lines-over no_lines_lem (suc most) h = absurd (omega arith)
lines-over {w} {text = text} (line p q) zero h = ap (λ (k : Lines). k.count) (lines_none w text)
lines-over (line p q) (suc most) h = ap (λ (k : Lines). k.count) (line-then p most) ∙ ap suc (lines-over q most (omega arith))

-- ---- the form

-- a text that begins with a narrow line or with the empty line does not begin with a wide line
narrow_start : {n : ℕ} {sheet text behind rest : List ℕ} → LinesOf (frame_bytes Narrow) n sheet text behind → EndOf behind rest → line_size (frame_bytes Wide) text ≡ 0
narrow_start no_lines_lem e = end-no-line e Wide
narrow_start (line p q) e = other-no-line Wide p

pub narrow_form : {sheet text rest : List ℕ} → Headed Narrow sheet text rest → HasForm text Narrow
narrow_form p = else_narrow (λ f r q. omega (arith, line-some q, narrow_start p.part.lines p.empty_line))

pub wide_form : {n : ℕ} {sheet text rest : List ℕ} → 0 < n → LinesOf (frame_bytes Wide) n sheet text rest → HasForm text Wide
wide_form h no_lines_lem = absurd (omega arith)
wide_form h (line p q) = begins-wide p

-- the form as the reader tells it
pub wide-told : {text : List ℕ} → HasForm text Wide → begins_wide text ≡ true
unfolding begins_wide
wide-told {text} (begins-wide p) = lt-ltb 0 (line_size (frame_bytes Wide) text) (line-some p)

pub narrow-told : (text : List ℕ) → line_size (frame_bytes Wide) text ≡ 0 → begins_wide text ≡ false
unfolding begins_wide
narrow-told text z = le-ltb 0 (line_size (frame_bytes Wide) text) (omega arith)

text-form : (F : Form) {sheet script text : List ℕ} → TextOf F sheet script text → text_form text ≡ F
text-form Narrow {text = text} t = ap form_of (narrow-told text (narrow_start t.head.part.lines t.head.empty_line))
text-form Wide t = ap form_of (wide-told t.form)

-- ---- whole texts

no_text : line_size script_frame_bytes [] ≡ 0
unfolding line_size digits digit_value
no_text = refl

module _ {F : Form} {text : List ℕ} where
  pub long-sheet-told : {n : ℕ} {sheet rest : List ℕ} → LinesOf (frame_bytes F) n sheet text rest → most_frames F < n → reading_in F text ≡ refused F long_sheet
  unfolding reading_in
  long-sheet-told p h = rw (lines-over p (suc (most_frames F)) h, lt-ltb (most_frames F) (suc (most_frames F)) (omega arith))

  -- what stands behind the sheet's lines is neither a line nor the empty line
  sheet-told : {sheet rest : List ℕ} → SheetPart F sheet text rest → line_size (frame_bytes F) rest ≡ 0 → ending rest ≡ 0 → reading_in F text ≡ refused F (sheet_fault F rest)
  unfolding reading_in
  sheet-told p z e =
      ap (read_sheet F (sheet_fault F)) (lines_read p.lines (suc (most_frames F)) (omega (arith, p.few)) z) ∙ rw (le-ltb (most_frames F) p.count p.few, e)

  pub other-sheet-told : {sheet frame rest behind : List ℕ} → SheetPart F sheet text rest → LineOf (frame_bytes (other F)) frame rest behind → reading_in F text ≡ refused F other_form
  other-sheet-told {rest = rest} p q =
      sheet-told p (other-no-line F q) (size-no_empty _ rest (some_bytes (other F)) (line-some q)) ∙ ap (refused F) (fault_other F rest _ refl (line-some q))

  pub bad_sheet_told : {sheet rest : List ℕ} → SheetPart F sheet text rest → line_size (frame_bytes F) rest ≡ 0 → line_size (frame_bytes (other F)) rest ≡ 0 → ending rest ≡ 0
      → reading_in F text ≡ refused F malformed
  bad_sheet_told {rest = rest} p z o e = sheet-told p z e ∙ ap (refused F) (fault_shape F rest _ refl (omega (arith, o)))

  module _ {sheet behind : List ℕ} (p : Headed F sheet text behind) where
    script_behind : reading_in F text ≡ read_script F (record { count = p.part.count; frames = sheet; rest = p.behind }) (lines script_frame_bytes (suc script_frames) behind)
    unfolding reading_in
    script_behind =
        ap (read_sheet F (sheet_fault F)) (lines_read p.part.lines (suc (most_frames F)) (omega (arith, p.part.few)) (end-no-line p.empty_line F))
        ∙ rw (
          le-ltb (most_frames F) p.part.count p.part.few,
          ne_eqb (ending p.behind) 0 (λ z. omega (arith, end-some p.empty_line)),
          end_rest p.empty_line,
        )

    pub long_script-told : {n : ℕ} {script rest : List ℕ} → LinesOf script_frame_bytes n script behind rest → script_frames < n → reading_in F text ≡ refused F long_script
    long_script-told q h = script_behind ∙ rw (lines-over q (suc script_frames) h)

    module _ {script rest : List ℕ} (q : ScriptPart script behind rest) (z : line_size script_frame_bytes rest ≡ 0) where
      rest-told : reading_in F text ≡ cond (ltb 0 (length rest)) (refused F malformed) (record { form = F; refusal = 0; sheet = sheet; script = script })
      rest-told =
          script_behind
          ∙ ap (read_script F (record { count = p.part.count; frames = sheet; rest = p.behind })) (lines_read q.lines (suc script_frames) (omega (arith, q.few)) z)
          ∙ rw (le-ltb script_frames q.count q.few)

      -- something stands behind the script's lines, and is no line: a second empty line too
      pub bad_script_told : 0 < length rest → reading_in F text ≡ refused F malformed
      bad_script_told h = rest-told ∙ rw (lt-ltb 0 (length rest) h)

  pub text_told : {sheet script : List ℕ} → TextOf F sheet script text → reading_in F text ≡ record { form = F; refusal = 0; sheet = sheet; script = script }
  text_told t = rest-told t.head t.part no_text

  -- the text of a sheet and a script reads to just these
  pub round_trip : {sheet script : List ℕ} → TextOf F sheet script text → reading text ≡ record { form = F; refusal = 0; sheet = sheet; script = script }
  unfolding reading
  round_trip t = ap (λ (G : Form). reading_in G text) (text-form F t) ∙ text_told t

digits-written : (l rest : List ℕ) → ((k : ℕ) → get_or l k 0 < 256) → DigitsOf l (hex_line l ++ rest) (line_feed ∷ rest)
unfolding hex_line
digits-written [] rest h = no-digits
digits-written (b ∷ l) rest h = byte (h 0) capital capital (digits-written l rest (λ k. h (suc k)))

module _ (w : ℕ) where
  module _ (n : ℕ) (l : List ℕ) (f : Frames w (suc n) l) where
    all-bytes : length l ≡ n * w + w
    all-bytes = f.whole ∙ suc-mul n w

    other-frames : Frames w n (drop w l)
    other-frames = record {
      whole = length-drop w l ∙ omega (arith, all-bytes);
      small = λ k. rw get_or-drop (f.small (w + k));
    }

    first_small : (k : ℕ) → get_or (take w l) k 0 < 256
    first_small k =
        by_bool (ltb k w)
        (λ t. rw (get_or-take w l k 0 (ltb-true k w t)) (f.small k))
        (λ s. rw (get_or-eq_default (take w l) 0 {n = k} (omega (arith, ltb-false k w s, length-take w l, min-le_left w (length l)))) (omega arith))

    first-line : (rest : List ℕ) → LineOf w (take w l) (hex_line (take w l) ++ rest) rest
    first-line rest = record {
      whole = length-take-le w l (omega (arith, all-bytes));
      end = line_feed ∷ rest;
      digits = digits-written (take w l) rest first_small;
      ended = feed;
    }

  lines-written : (n : ℕ) (l rest : List ℕ) → Frames w n l → LinesOf w n l (hex_lines w n l ++ rest) rest
  unfolding hex_lines
  lines-written zero [] rest f = no_lines_lem
  lines-written zero (a ∷ l) rest f = absurd (omega (arith, f.whole, zero-mul w))
  lines-written (suc n) l rest f =
      let more = hex_lines w n (drop w l) in
      subst (λ (k : List ℕ). LinesOf w (suc n) k ((hex_line (take w l) ++ more) ++ rest) rest) (take-append-drop w l)
      (subst (λ (t : List ℕ). LinesOf w (suc n) (take w l ++ drop w l) t rest) (sym (append_assoc (hex_line (take w l)) more rest))
      (line (first-line n l f (more ++ rest)) (lines-written n (drop w l) rest (other-frames n l f))))

module _ (F : Form) (n : ℕ) (sheet : List ℕ) (f : Frames (frame_bytes F) n sheet) (h : n ≤ most_frames F) (m : ℕ) (script : List ℕ) (g : Frames script_frame_bytes m script) (k : m ≤ script_frames) where
  head-written : Headed F sheet (written_text F n sheet m script) (hex_lines script_frame_bytes m script)
  head-written = record {
    behind = line_feed ∷ hex_lines script_frame_bytes m script;
    part = record { count = n; lines = lines-written (frame_bytes F) n sheet (line_feed ∷ hex_lines script_frame_bytes m script) f; few = h };
    empty_line = feed;
  }

  of_form : HasForm (written_text F n sheet m script) F → TextOf F sheet script (written_text F n sheet m script)
  of_form form = record {
    form = form;
    behind = hex_lines script_frame_bytes m script;
    head = head-written;
    part = record {
      count = m;
      lines = subst (λ (t : List ℕ). LinesOf script_frame_bytes m script t []) (append-nil (hex_lines script_frame_bytes m script)) (lines-written script_frame_bytes m script [] g);
      few = k;
    };
  }

-- of a narrow sheet, and of a wide sheet of at least one frame
pub text_written : (n : ℕ) (sheet : List ℕ) → Frames (frame_bytes Narrow) n sheet → n ≤ most_frames Narrow → (m : ℕ) (script : List ℕ) → Frames script_frame_bytes m script → m ≤ script_frames
    → TextOf Narrow sheet script (written_text Narrow n sheet m script)
text_written n sheet f h m script g k = of_form Narrow n sheet f h m script g k (narrow_form (head-written Narrow n sheet f h m script g k))

pub wide_text_written : (n : ℕ) (sheet : List ℕ) → Frames (frame_bytes Wide) n sheet → n ≤ most_frames Wide → (m : ℕ) (script : List ℕ) → Frames script_frame_bytes m script → m ≤ script_frames
    → 0 < n → TextOf Wide sheet script (written_text Wide n sheet m script)
wide_text_written n sheet f h m script g k s = of_form Wide n sheet f h m script g k (wide_form s (lines-written (frame_bytes Wide) n sheet (line_feed ∷ hex_lines script_frame_bytes m script) f))
