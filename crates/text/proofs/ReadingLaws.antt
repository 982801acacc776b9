-- What a text reads to, by the tests on its lines: the laws that the code goes by; the form that is told, and how narrow texts read. Assumes nothing.
use Rattle.std.specs.Prelude.{Ok, Err, ℕ, suc, ◌+◌, ◌*◌, ◌≤◌, ◌<◌, true, false, List, [], ◌⊎◌, ◌≡◌, refl, eqb, ltb, length}
use Rattle.std.proofs.Common.{zero-mul, add-one, arith, inl, inr, ⊎_elim, sym, ap, ap₂, ◌∙◌}
use Rattle.std.proofs.Math.Bool.{or-true}
use Rattle.std.proofs.Math.ListN.{drop}
use Rattle.std.proofs.lemmas.List.Edits.{sets}
use borrow.Author.Tests.{lt-ltb, le-ltb, ltb-false, ne_eqb}
use Rattle.words.specs.Logic.{tests}
use Rattle.words.proofs.Logic.{by_bool}
use Rattle.words.proofs.Stores.{sets-start}
use Rattle.form.specs.Form.{frame_bytes, most_frames}
use Rattle.form.specs.declared.Form.{Form}
use Rattle.form.specs.declared.Form.TheVariants.{Narrow, Wide}
use Rattle.sheet.specs.Told.{number_of}
use Rattle.sheet.specs.declared.refusal.Fault.{Fault}
use Rattle.text.specs.Line.{Lines, lines, line_size, ending, LinesAt}
use Rattle.text.proofs.LineLaws.{one_size, size-no_empty, lines_stop, lines-count, frames-length}
use Rattle.text.specs.Reading.{script_frames, script_frame_bytes, sheet_room, script_room, malformed, long_sheet, long_script, no_room, other_form, Reading, refused, accepted, begins_wide, text_form, other, sheet_fault, read_script, read_sheet, reading_in, reading, read_into, Parts, Read}
use Rattle.text.specs.declared.line.Counted.{Counted}
use Rattle.text.specs.ReadingLaws.{Framed, narrow_alone}

-- ---- the two forms

-- the bytes of a line, as the code asks for them
pub few_bytes : (F : Form) → frame_bytes F ≤ 16
few_bytes Narrow = omega arith
few_bytes Wide = omega arith

-- a line has some bytes
pub some_bytes : (F : Form) → 0 < frame_bytes F
some_bytes Narrow = omega arith
some_bytes Wide = omega arith

-- the buffer for a sheet has room for either
pub sheet-room : (F : Form) (n : ℕ) → n ≤ most_frames F → n * frame_bytes F ≤ sheet_room
sheet-room Narrow n h = omega arith
sheet-room Wide n h = omega arith

-- no line is of both forms
pub one_form : (F : Form) (l : List ℕ) → 0 < line_size (frame_bytes F) l → 0 < line_size (frame_bytes (other F)) l → ⊥
one_form Narrow l p q = one_size 4 7 l (omega arith) p q
one_form Wide l p q = one_size 4 7 l (omega arith) q p

module _ (F : Form) (l : List ℕ) (size : ℕ) (e : size ≡ line_size (frame_bytes (other F)) l) where
  pub fault_shape : size ≤ 0 → sheet_fault F l ≡ malformed
  unfolding sheet_fault
  fault_shape h = rw (← e, le-ltb 0 size h)

  pub fault_other : 0 < size → sheet_fault F l ≡ other_form
  unfolding sheet_fault
  fault_other h = rw (← e, lt-ltb 0 size h)

-- ---- through a text

-- the lines that were counted are those that are asked for by their count
counted : (w : ℕ) (text : List ℕ) (most : ℕ) (r : Counted) → LinesAt w text most r → lines w r.count text ≡ lines w most text
counted w text most r p = ap (λ (n : ℕ). lines w n text) p.count ∙ lines-count w most text

-- the sheet's lines, by the sizes as the code has them
module _ (F : Form) (text : List ℕ) (w most : ℕ) (size : w ≡ frame_bytes F) (frames : most ≡ most_frames F) (a : Counted) (lines_at : LinesAt w text (most + 1) a) where
  p : LinesAt (frame_bytes F) text (suc (most_frames F)) a
  p = rw (size, frames, add-one) at lines_at

  pub long-sheet : most < a.count → reading_in F text ≡ refused F long_sheet
  unfolding reading_in
  long-sheet h = rw (← p.count, lt-ltb (most_frames F) a.count (omega (arith, frames)))

  module _ (below : a.count ≤ most) (gap : ℕ) (e : gap ≡ ending a.rest.now) where
    short : a.count ≤ most_frames F
    short = omega (arith, frames)

    pub no_empty_line : gap ≡ 0 → reading_in F text ≡ refused F (sheet_fault F a.rest.now)
    unfolding reading_in
    no_empty_line z = rw (← p.count, le-ltb (most_frames F) a.count short, ← p.rest, ← e, z)

    -- what is left behind the empty line
    module _ (some : 0 < gap) (behind : List ℕ) (d : behind ≡ drop gap a.rest.now) where
      reads : reading_in F text ≡ read_script F (lines (frame_bytes F) (suc (most_frames F)) text) (lines script_frame_bytes (suc script_frames) behind)
      unfolding reading_in
      reads = rw (← p.count, le-ltb (most_frames F) a.count short, ← p.rest, ← e, ne_eqb gap 0 (omega arith), ← d)

      module _ (b : Counted) (q : LinesAt script_frame_bytes behind (suc script_frames) b) where
        pub long-script : script_frames < b.count → reading_in F text ≡ refused F long_script
        long-script h = reads ∙ rw (← q.count, lt-ltb script_frames b.count h)

        pub bad_line : b.count ≤ script_frames → 0 < length b.rest.now → reading_in F text ≡ refused F malformed
        bad_line s h = reads ∙ rw (← q.count, le-ltb script_frames b.count s, ← q.rest, lt-ltb 0 (length b.rest.now) h)

        pub parts : b.count ≤ script_frames → length b.rest.now ≤ 0 → Parts F text a.count behind b.count
        parts s h = record {
          accepts =
              reads
              ∙ rw (← q.count, le-ltb script_frames b.count s, ← q.rest, le-ltb 0 (length b.rest.now) h)
              (ap₂ (accepted F) (sym (counted (frame_bytes F) text (suc (most_frames F)) a p)) (sym (counted script_frame_bytes behind (suc script_frames) b q)));
          sheet-lines = ap (λ (k : Lines). k.count) (counted (frame_bytes F) text (suc (most_frames F)) a p) ∙ sym p.count;
          script_lines = ap (λ (k : Lines). k.count) (counted script_frame_bytes behind (suc script_frames) b q) ∙ sym q.count;
          sheet-most = short;
          script_most = s;
        }

no_frames : (w n : ℕ) → Framed w n []
no_frames w n = record { count = 0; whole = sym (zero-mul w); most = omega arith }

frames-of : (w n most : ℕ) (l : List ℕ) → ltb n (lines w most l).count ≡ false → Framed w n (lines w most l).frames
frames-of w n most l e = record { count = (lines w most l).count; whole = frames-length w most l; most = ltb-false n (lines w most l).count e }

-- what holds of every refusal and of what is accepted holds of what a text of the form reads to
module _ (F : Form) (text : List ℕ) (A : Reading → Type 0) (refuses : (n : ℕ) → A (refused F n))
    (accepts : (rest : List ℕ) → ltb (most_frames F) (lines (frame_bytes F) (suc (most_frames F)) text).count ≡ false
    → ltb script_frames (lines script_frame_bytes (suc script_frames) rest).count ≡ false
    → A (accepted F (lines (frame_bytes F) (suc (most_frames F)) text) (lines script_frame_bytes (suc script_frames) rest))) where
  by-reading : A (reading_in F text)
  unfolding reading_in
  by-reading =
      let a = lines (frame_bytes F) (suc (most_frames F)) text in
      let rest = drop (ending a.rest) a.rest in
      let b = lines script_frame_bytes (suc script_frames) rest in
      by_bool (ltb (most_frames F) a.count) (λ t. rw t (refuses long_sheet))
      (λ f. by_bool (eqb (ending a.rest) 0) (λ t. rw (f, t) (refuses (sheet_fault F a.rest)))
      (λ g. by_bool (ltb script_frames b.count) (λ t. rw (f, g, t) (refuses long_script))
      (λ h. by_bool (ltb 0 (length b.rest)) (λ t. rw (f, g, h, t) (refuses malformed))
      (λ k. rw (f, g, h, k) (accepts rest f h)))))

-- The form that is told is the text's, of refused texts too.
pub form_told : (text : List ℕ) → (reading text).form ≡ text_form text
unfolding reading
form_told text = by-reading (text_form text) text (λ (r : Reading). r.form ≡ text_form text) (λ n. refl) (λ rest f h. refl)

pub sheet_framed : (text : List ℕ) → Framed (frame_bytes (text_form text)) (most_frames (text_form text)) (reading text).sheet
unfolding reading
sheet_framed text =
    let F = text_form text in
    by-reading F text (λ (r : Reading). Framed (frame_bytes F) (most_frames F) r.sheet) (λ n. no_frames (frame_bytes F) (most_frames F))
    (λ rest f h. frames-of (frame_bytes F) (most_frames F) (suc (most_frames F)) text f)

pub script_framed : (text : List ℕ) → Framed script_frame_bytes script_frames (reading text).script
unfolding reading
script_framed text =
    by-reading (text_form text) text (λ (r : Reading). Framed script_frame_bytes script_frames r.script) (λ n. no_frames script_frame_bytes script_frames)
    (λ rest f h. frames-of script_frame_bytes script_frames (suc script_frames) rest h)

-- A text that does not begin with an ended line of fourteen digits reads to the same, but that 29 may stand where 1 did.
pub narrow-reads : (text : List ℕ) → begins_wide text ≡ false
    → (reading text ≡ narrow_alone text) ⊎ ((reading text ≡ refused Narrow other_form) × (narrow_alone text ≡ refused Narrow malformed))
unfolding reading reading_in sheet_fault
narrow-reads text e =
    let a = lines (frame_bytes Narrow) (suc (most_frames Narrow)) text in
    rw e
    (by_bool (ltb (most_frames Narrow) a.count) (λ t. inl (rw t))
    (λ f. by_bool (eqb (ending a.rest) 0)
    (λ t. by_bool (ltb 0 (line_size (frame_bytes Wide) a.rest)) (λ o. inr (rw (f, t, o), rw (f, t))) (λ o. inl (rw (f, t, o))))
    (λ g. inl (rw (f, g)))))

-- One that does is malformed there.
pub wide_alone : (text : List ℕ) → begins_wide text ≡ true → narrow_alone text ≡ refused Narrow malformed
unfolding begins_wide
wide_alone text e =
    let w = frame_bytes Narrow in
    let p : 0 < line_size (frame_bytes Wide) text = omega tests in
    let z : line_size w text ≡ 0 = by_bool (ltb 0 (line_size w text)) (λ t. absurd (one_form Narrow text (omega tests) p)) (λ f. omega tests) in
    ap (read_sheet Narrow (λ l. malformed)) (lines_stop w (most_frames Narrow) text z) ∙ rw (size-no_empty (frame_bytes Wide) text (omega arith) p)

-- So a text that is accepted there reads to the same.
pub accepted_alone : (text : List ℕ) → (narrow_alone text).refusal ≡ 0 → reading text ≡ narrow_alone text
accepted_alone text e =
    by_bool (begins_wide text) (λ t. absurd (omega (arith, ap (λ (r : Reading). r.refusal) (wide_alone text t))))
    (λ f. ⊎_elim (λ same. same) (λ p. absurd (omega (arith, ap (λ (r : Reading). r.refusal) p.1))) (narrow-reads text f))

-- ---- with the buffers' lengths

module _ (sheet script : ℕ) (text : List ℕ) where
  pub small_sheet : sheet < sheet_room → read_into sheet script text ≡ refused Narrow no_room
  unfolding read_into
  small_sheet h = rw (lt-ltb sheet sheet_room h)

  pub small_script : script < script_room → read_into sheet script text ≡ refused Narrow no_room
  unfolding read_into
  small_script h = rw (lt-ltb script script_room h, or-true)

  pub enough-room : sheet_room ≤ sheet → script_room ≤ script → read_into sheet script text ≡ reading text
  unfolding read_into
  enough-room h k = rw (le-ltb sheet sheet_room h, le-ltb script script_room k)

-- ---- the two ways that reading ends

pub form_reads : (F : Form) (text : List ℕ) → F ≡ text_form text → reading text ≡ reading_in F text
unfolding reading
form_reads F text e = rw e

pub read_refused : (text sheet script : List ℕ) (F : Form) (f : Fault) → read_into (length sheet) (length script) text ≡ refused F (number_of f)
    → Read text sheet script (Err (record { form = F; fault = f })) sheet script
read_refused text sheet script F f e = record {
  form = rw e;
  refusal = rw e;
  sheet-length = rw e;
  script_length = rw e;
  sheet-bytes = rw e;
  script_bytes = rw e;
  sheet-fits = omega arith;
  script-fits = omega arith;
}

module _ (F : Form) (text behind sheet script : List ℕ) (n m : ℕ) (p : Parts F text n behind m)
    (e : read_into (length sheet) (length script) text ≡ reading_in F text) (a : sheet_room ≤ length sheet) (b : script_room ≤ length script) where
  -- the frames' bytes, and that there is room for them
  sheet-size : length (lines (frame_bytes F) n text).frames ≡ n * frame_bytes F
  sheet-size = frames-length (frame_bytes F) n text ∙ ap (λ (k : ℕ). k * frame_bytes F) p.sheet-lines

  script_size : length (lines script_frame_bytes m behind).frames ≡ m * script_frame_bytes
  script_size = frames-length script_frame_bytes m behind ∙ ap (λ (k : ℕ). k * script_frame_bytes) p.script_lines

  pub read_accepted : (size : ℕ) → size ≡ frame_bytes F → (sheet' script' : List ℕ) → sheet' ≡ sets sheet 0 (lines size n text).frames → script' ≡ sets script 0 (lines script_frame_bytes m behind).frames
      → Read text sheet script (Ok (record { form = F; sheet = n * size; script = m * script_frame_bytes })) sheet' script'
  read_accepted size d sheet' script' f g = record {
    form = rw (e, p.accepts);
    refusal = rw (e, p.accepts);
    sheet-length = rw (e, p.accepts, d) (sym sheet-size);
    script_length = rw (e, p.accepts) (sym script_size);
    sheet-bytes = rw (e, p.accepts) (rw d at f ∙ sets-start (lines (frame_bytes F) n text).frames sheet (omega (arith, sheet-size, sheet-room F n p.sheet-most)));
    script_bytes = rw (e, p.accepts) (g ∙ sets-start (lines script_frame_bytes m behind).frames script (omega (arith, script_size, p.script_most)));
    sheet-fits = rw d (sheet-room F n p.sheet-most);
    script-fits = omega (arith, p.script_most);
  }
