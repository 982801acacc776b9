-- Each return has the tests that led there, and the laws of the text. Assumes nothing.
use Rattle.std.proofs.Common.{◌<◌, ◌≤◌, length, refl, arith}
use Rattle.std.proofs.lemmas.Bool.Decides.{nat_tests}
use Rattle.std.proofs.lemmas.List.{take_rest}
use Rattle.text.proofs.LineLaws.{ending-within}
use Rattle.text.proofs.ReadingLaws.{long-sheet, no_empty_line, long-script, bad_line, parts}
use Rattle.text.proofs.layout.scan.Goals as goal

pub returns-then-most-sheet : goal.returns-then-most-sheet
returns-then-most-sheet c =
    long-sheet c.args.form c.args.text.now _ _ c.frame_bytes.ensures c.most_frames-most.ensures c.lines-sheet.result c.lines-sheet.ensures c.if-most-sheet.true

pub returns-in_default : goal.returns-in_default
returns-in_default c =
    let e = no_empty_line c.args.form c.args.text.now _ _ c.frame_bytes.ensures c.most_frames-most.ensures c.lines-sheet.result c.lines-sheet.ensures c.if-most-sheet.false 0 c.in_default.ensures.size refl in cc

pub slice_bounds-behind-count : goal.slice_bounds-behind-count
slice_bounds-behind-count c = omega (arith, c.in-Some.ensures.size, ending-within c.lines-sheet.result.rest.now)

pub slice_bounds-behind-start : goal.slice_bounds-behind-start
slice_bounds-behind-start c = omega (arith, c.in-Some.ensures.size, ending-within c.lines-sheet.result.rest.now)

pub returns-then-script-gt-SCRIPT_FRAMES : goal.returns-then-script-gt-SCRIPT_FRAMES
returns-then-script-gt-SCRIPT_FRAMES c =
    long-script c.args.form c.args.text.now _ _ c.frame_bytes.ensures c.most_frames-most.ensures c.lines-sheet.result c.lines-sheet.ensures c.if-most-sheet.false
    _ c.in-Some.ensures.size c.in-Some.ensures.some _ (take_rest c.lines-sheet.result.rest.now c.in-Some.gap) c.lines-script.result c.lines-script.ensures c.if-script-gt-SCRIPT_FRAMES.true

pub returns-then-not-is_empty : goal.returns-then-not-is_empty
returns-then-not-is_empty c =
    let h : 0 < length c.lines-script.result.rest.now = grind (arith, nat_tests) in
    bad_line c.args.form c.args.text.now _ _ c.frame_bytes.ensures c.most_frames-most.ensures c.lines-sheet.result c.lines-sheet.ensures c.if-most-sheet.false
    _ c.in-Some.ensures.size c.in-Some.ensures.some _ (take_rest c.lines-sheet.result.rest.now c.in-Some.gap) c.lines-script.result c.lines-script.ensures c.if-script-gt-SCRIPT_FRAMES.false h

pub returns : goal.returns
returns c =
    let h : length c.lines-script.result.rest.now ≤ 0 = grind (arith, nat_tests) in
    parts c.args.form c.args.text.now _ _ c.frame_bytes.ensures c.most_frames-most.ensures c.lines-sheet.result c.lines-sheet.ensures c.if-most-sheet.false
    _ c.in-Some.ensures.size c.in-Some.ensures.some _ (take_rest c.lines-sheet.result.rest.now c.in-Some.gap) c.lines-script.result c.lines-script.ensures c.if-script-gt-SCRIPT_FRAMES.false h
