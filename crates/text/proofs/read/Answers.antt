-- It refuses with both buffers as they were, or stores the frames of both parts. Assumes nothing.
use Rattle.std.proofs.Common.{◌≡◌, ◌∙◌, arith, rules}
use Rattle.form.specs.declared.Form.TheVariants.{Narrow}
use Rattle.sheet.specs.declared.refusal.Fault.TheVariants.{NoRoom}
use Rattle.sheet.specs.Told.{number_of}
use Rattle.std.proofs.lemmas.Result.{err_from_is_err_and}
use Rattle.text.specs.Reading.{reading_in, refused, Parts}
use Rattle.text.proofs.ReadingLaws.{small_sheet, small_script, enough-room, form_reads, read_refused, read_accepted}
use Rattle.text.proofs.read.Goals as goal
use Rattle.text.proofs.read.Goals.{then-sheet-lt-SHEET_BYTES-via-then-sheet-lt-SHEET_BYTES, then-sheet-lt-SHEET_BYTES-via-else-sheet-lt-SHEET_BYTES+then-script-lt-SCRIPT_BYTES}

pub returns-then-sheet-lt-SHEET_BYTES : goal.returns-then-sheet-lt-SHEET_BYTES
returns-then-sheet-lt-SHEET_BYTES c =
    read_refused c.args.text.now c.args.sheet.now c.args.script.now Narrow NoRoom
    (elim c.then-sheet-lt-SHEET_BYTES.branch [
      | then-sheet-lt-SHEET_BYTES-via-then-sheet-lt-SHEET_BYTES w ↦ small_sheet _ _ _ (omega arith)
      | then-sheet-lt-SHEET_BYTES-via-else-sheet-lt-SHEET_BYTES+then-script-lt-SCRIPT_BYTES w ↦ small_script _ _ _ (omega arith)
    ])

pub returns-in_err-layout : goal.returns-in_err-layout
returns-in_err-layout c =
    let p = err_from_is_err_and c.from_residual.result c.from_residual.ensures.1 in
    let f : c.in_err-layout.field-0.0.form ≡ c.form_of-form.result = search rules in
    let t : reading_in c.form_of-form.result c.args.text.now ≡ refused c.form_of-form.result (number_of c.in_err-layout.field-0.0.fault) = search rules in
    rw (p.1, p.2)
    (read_refused c.args.text.now c.args.sheet.now c.args.script.now _ c.in_err-layout.field-0.0.fault
    (enough-room _ _ c.args.text.now c.if-sheet-lt-SHEET_BYTES.false c.if-script-lt-SCRIPT_BYTES.false ∙ form_reads _ c.args.text.now c.form_of-form.ensures ∙ rw f t))

pub returns : goal.returns
returns c =
    let p : Parts c.form_of-form.result c.args.text.now c.in_ok-layout.layout.sheet c.in_ok-layout.layout.behind.now c.in_ok-layout.layout.script = search rules in
    read_accepted c.form_of-form.result c.args.text.now _ c.args.sheet.now c.args.script.now _ _ p
    (enough-room _ _ c.args.text.now c.if-sheet-lt-SHEET_BYTES.false c.if-script-lt-SCRIPT_BYTES.false ∙ form_reads _ c.args.text.now c.form_of-form.ensures)
    c.if-sheet-lt-SHEET_BYTES.false c.if-script-lt-SCRIPT_BYTES.false _ c.frame_bytes-size.ensures _ _ c.put_frames.ensures c.put_frames-2.ensures
