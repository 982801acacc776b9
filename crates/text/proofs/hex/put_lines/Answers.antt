use Rattle.std.proofs.Common.{◌≡◌, ◌∙◌, suc, ◌+◌, ◌-◌, ◌*◌, ◌≤◌, length, take, drop, length-drop, arith, sym, add-one}
use Rattle.std.proofs.Math.Nat.{suc-mul}
use Rattle.std.proofs.lemmas.List.Edits.{sets}
use borrow.Rule.Slice.PartMut.{put_mid}
use Rattle.text.specs.Hex.{hex_line}
use Rattle.text.specs.LineStores.{record_within}
use Rattle.text.proofs.LineStores.{sets_part, record_line, lines_none, lines-put}
use Rattle.text.proofs.hex.put_lines.Goals as goal

pub loop-i-preserved : goal.loop-i-preserved
loop-i-preserved c =
    let n = c.args.n - (c.loop-i.i + 1) in
    let line = 2 * c.args.size + 1 in
    let at = c.loop-i.i * c.args.size in
    let to = c.loop-i.i * line in
    let e : c.args.n - c.loop-i.i ≡ suc n = omega arith in
    let s : at + c.args.size - at ≡ c.args.size = omega arith in
    let x : (c.loop-i.i + 1) * c.args.size ≡ at + c.args.size = rw (add-one, suc-mul) in
    let y : (c.loop-i.i + 1) * line ≡ to + line = rw (add-one, suc-mul) in
    let h : at + c.args.size ≤ c.args.n * c.args.size = record_within c.args.size c.loop-i.i c.args.n c.loop-i-test.true in
    let k : to + line ≤ c.args.n * line = record_within line c.loop-i.i c.args.n c.loop-i-test.true in
    let l = take c.args.size (drop at c.args.bytes.now) in
    let w : c.args.size ≤ length (drop at c.args.bytes.now) = omega (arith, length-drop at c.args.bytes.now) in
    let p : put_mid to (to + line - to) c.loop-i.out c.put_line.new.out ≡ sets c.loop-i.out to (hex_line l) =
    rw (c.put_line.ensures, s) (sets_part to line c.loop-i.out (hex_line l) (record_line c.args.size (drop at c.args.bytes.now) w) (omega arith)) in
    c.loop-i.invariant ∙ rw (e, x, y, p) (lines-put c.args.size c.args.bytes.now at n (omega arith) c.loop-i.out to)

pub returns : goal.returns
returns c =
    let z : c.args.n - c.loop-i.i ≡ 0 = omega arith in sym (c.loop-i.invariant ∙ rw (z, lines_none c.args.size))
